-- A serial history to the end ends in a cause.
use Rattle.std.proofs.Common.{ℕ, zero, suc, ◌≡◌, ◌≤◌, Bool, true, if◌then◌else◌, List, [], ◌∷◌, Option, Some, None, slice_index_or, slice_set, refl, sym, ap, ◌∙◌, subst, inl, inr, arith}
use Rattle.std.specs.Prelude.{ℤ, IsSome, is_none, is_some}
use Rattle.std.specs.List.{list_all}
use Rattle.std.proofs.lemmas.Bool.{and_from, cases_eq}
use Rattle.std.proofs.lemmas.List.{get_or-set_other}
use Rattle.ompt_calls.specs.declared.snapshot.Target.{Target}
use Rattle.omp_model.specs.declared.cause.Cause.TheVariants as cause
use Rattle.omp_model.specs.declared.event.Callback.{Callback}
use Rattle.omp_model.specs.declared.event.Halt.{Halt}
use Rattle.omp_model.specs.declared.event.Outcome.{Outcome}
use Rattle.omp_model.specs.declared.event.Outcome.TheVariants.{Idle, Quiet, Happens, Halts}
use Rattle.omp_model.specs.declared.history.Entry.{Entry}
use Rattle.omp_model.specs.declared.history.What.{What}
use Rattle.omp_model.specs.declared.history.What.TheVariants.{Back, Go, Put}
use Rattle.omp_model.specs.Cause.{cause_by_halt, cause_of, cause_of_whole, is_stuck, none_pending, whole_value}
use Rattle.omp_model.specs.Legal.{after_from, back_from, put_from}
use Rattle.omp_model.specs.Serial.{Follows, Leads, Visit, WholeSerial, enabled_among, first_enabled, go_of, inside_after, moved, onward, onward_from, start}
use Rattle.omp_model.specs.State.{Run, State, pending_at}
use Rattle.omp_model.specs.Storing.{back_at, go_at}
use Rattle.omp_model.specs.Turn.{called, turn}
use Rattle.omp_model.proofs.MadeRuns.{at-replicate}
use Rattle.omp_model.proofs.Recording.{first_enabled-below, first_enabled-none}
use Rattle.omp_model.proofs.Turns.{Leaves, leaves-turn}
use Rattle.run_laws.proofs.Serial.{entry_of, moved-state, never-both, never-inside, thread_in}

-- only the thread inside a callback has a pending one, and the next thread is one of the run's or the number behind them
record IsCalm (run : Run) (v : Visit) : Type 0 where
  below : v.next ≤ run.threads
  outside : (u : ℕ) → (v.inside ≡ Some u → ⊥) → pending_at v.state u ≡ None

-- What an entry that may stand next says of the thread inside a callback.

go-found : (found : Option ℕ) (t : ℕ) → go_of found ≡ Some (go_at t) → found ≡ Some t
go-found None t is = cc
go-found (Some u) t is = ap Some (ap thread_in is)

pub record MayGo (run : Run) (v : Visit) (t : ℕ) : Type 0 where
  pub outside : v.inside ≡ None
  pub found : first_enabled run v.state v.next ≡ Some t

pub at-go : (run : Run) (v : Visit) (t : ℕ) (inside : Option ℕ) → v.inside ≡ inside → onward_from run v inside ≡ Some (go_at t) → MayGo run v t
at-go run v t None at is = record { outside = at; found = go-found (first_enabled run v.state v.next) t is }
at-go run v t (Some u) at is = absurd (never-both t u (sym is))

no-back : (found : Option ℕ) (t : ℕ) → go_of found ≡ Some (back_at t) → ⊥
no-back None t is = cc
no-back (Some u) t is = never-both u t is

pub at-back : (run : Run) (v : Visit) (t : ℕ) (inside : Option ℕ) → v.inside ≡ inside → onward_from run v inside ≡ Some (back_at t) → v.inside ≡ Some t
at-back run v t None at is = absurd (no-back (first_enabled run v.state v.next) t is)
at-back run v t (Some u) at is = at ∙ ap Some (ap thread_in is)

-- What entries leave of pending callbacks.

none-at : (places : List (Option Callback)) (t : ℕ) → slice_index_or (slice_set places t None) t None ≡ None
none-at [] t = refl
none-at (place ∷ places) zero = refl
none-at (place ∷ places) (suc t) = none-at places t

turn-pending : (S next : State) (t u : ℕ) (came : Outcome) → Leaves S t next came → ((u : ℕ) → pending_at S u ≡ None) → (inside_after came t ≡ Some u → ⊥) → pending_at next u ≡ None
turn-pending S next t u Idle leaves none other = ap (λ (places : List (Option Callback)). slice_index_or places u None) leaves.2 ∙ none u
turn-pending S next t u Quiet leaves none other = ap (λ (places : List (Option Callback)). slice_index_or places u None) leaves.2 ∙ none u
turn-pending S next t u (Halts halt) leaves none other = ap (λ (places : List (Option Callback)). slice_index_or places u None) leaves.2 ∙ none u
turn-pending S next t u (Happens e) leaves none other =
    ap (λ (places : List (Option Callback)). slice_index_or places u None) leaves.2
    ∙ get_or-set_other S.pending t u (Some (called e)) None (λ is. other (ap Some (sym is))) ∙ none u

put-pending : (S : State) (t u : ℕ) (place : Target) (word : ℕ) (inside : Option Callback) → (u ≡ t → ⊥) → pending_at (put_from S t place word inside) u ≡ pending_at S u
put-pending S t u place word None other = refl
put-pending S t u place word (Some callback) other = get_or-set_other S.pending t u _ None other

back-pending : (S : State) (t u : ℕ) (inside : Option Callback) → pending_at S t ≡ inside → ((u ≡ t → ⊥) → pending_at S u ≡ None) → pending_at (back_from S t inside) u ≡ None
back-pending S t u None at none = elim (cases_eq u t) [ inl is ↦ ap (pending_at S) is ∙ at | inr other ↦ none other ]
back-pending S t u (Some callback) at none = elim (cases_eq u t) [
  | inl is ↦ ap (λ (u : ℕ). slice_index_or (slice_set S.pending t None) u None) is ∙ none-at S.pending t
  | inr other ↦ get_or-set_other S.pending t u None None other ∙ none other
]

module _ (run : Run) where
  calm-moved : (v : Visit) (t : ℕ) (what : What) → Follows run v t what → IsCalm run v → IsCalm run (moved run v (entry_of t what))
  calm-moved v t Go follows calm =
      let at = at-go run v t v.inside refl follows in
      let next = (turn run v.state t).state in
      let within = first_enabled-below run v.state v.next t calm.below at.found in
      record {
        below = omega (arith, within);
        outside = λ u other. turn-pending v.state next t u (turn run v.state t).outcome (leaves-turn run v.state t)
            (λ u. calm.outside u (λ inside. let wrong : None ≡ Some u = sym at.outside ∙ inside in cc)) other;
      }
  calm-moved v t (Put place word) follows calm =
      record {
        below = calm.below;
        outside = λ u other. put-pending v.state t u place word (pending_at v.state t) (λ is. other (follows ∙ ap Some (sym is))) ∙ calm.outside u other;
      }
  calm-moved v t Back follows calm =
      let at = at-back run v t v.inside refl follows in
      record {
        below = calm.below;
        outside = λ u other. back-pending v.state t u (pending_at v.state t) refl
            (λ apart. calm.outside u (λ inside. let same : Some u ≡ Some t = sym inside ∙ at in apart cc));
      }

  calm-last : (v last : Visit) (history : List Entry) → Leads run v history last → IsCalm run v → IsCalm run last
  calm-last v last [] leads calm = subst (IsCalm run) leads calm
  calm-last v last (entry ∷ rest) leads calm = calm-last (moved run v entry) last rest leads.1 (calm-moved v entry.thread entry.what leads.0 calm)

  pub state-last : (v last : Visit) (history : List Entry) → Leads run v history last → after_from run v.state history ≡ last.state
  state-last v last [] leads = ap (λ (v : Visit). v.state) leads
  state-last v last (entry ∷ rest) leads =
      ap (λ (S : State). after_from run S rest) (moved-state run v entry.thread entry.what) ∙ state-last (moved run v entry) last rest leads.1

  -- nothing may stand next
  ended-outside : (v : Visit) (inside : Option ℕ) → v.inside ≡ inside → onward run v ≡ None → v.inside ≡ None
  ended-outside v None at none = at
  ended-outside v (Some t) at none = absurd (never-inside run v t at none)

  go-none : (found : Option ℕ) → go_of found ≡ None → found ≡ None
  go-none None is = refl
  go-none (Some t) is = cc

  each-none : (places : List (Option Callback)) → ((u : ℕ) → slice_index_or places u None ≡ None) → list_all (λ (callback : Option Callback). is_none callback) places ≡ true
  each-none [] none = refl
  each-none (place ∷ places) none = and_from _ _ (ap is_none (none 0)) (each-none places (λ u. none (suc u)))

  by-value : (S : State) (value : Option ℤ) → whole_value S.world ≡ value → enabled_among S 0 run.threads ≡ None → none_pending S ≡ true → S.halt ≡ None →
      IsSome (cause_of_whole run S value)
  by-value S (Some value) is none pending halt = refl
  by-value S None is none pending halt =
      let stuck : is_stuck run S ≡ true = and_from _ _ (and_from _ _ (and_from _ _ (ap is_none none) pending) (ap is_none halt)) (ap is_none is) in
      ap (λ (b : Bool). is_some (if b then Some cause.Deadlock else None)) stuck

  by-halt : (S : State) (halt : Option Halt) → S.halt ≡ halt → enabled_among S 0 run.threads ≡ None → none_pending S ≡ true → IsSome (cause_by_halt run S halt)
  by-halt S (Some halt) is none pending = refl
  by-halt S None is none pending = by-value S (whole_value S.world) refl none pending is

  pub cause-whole : (history : List Entry) → WholeSerial run history → IsSome (cause_of run history)
  cause-whole history whole =
      let last = whole.last in
      let S = last.state in
      let calm = calm-last (start run) last history whole.in_turn
      (record { below = omega arith; outside = λ u other. at-replicate (λ (callback : Option Callback). callback ≡ None) run.threads u None refl }) in
      let outside = ended-outside last last.inside refl whole.ended in
      let found = go-none (first_enabled run S last.next) (ap (onward_from run last) (sym outside) ∙ whole.ended) in
      let none = first_enabled-none run S last.next calm.below found in
      let pending = each-none S.pending (λ u. calm.outside u (λ inside. let wrong : None ≡ Some u = sym outside ∙ inside in cc)) in
      subst (λ (S : State). IsSome (cause_by_halt run S S.halt)) (sym (state-last (start run) last history whole.in_turn)) (by-halt S S.halt refl none pending)
