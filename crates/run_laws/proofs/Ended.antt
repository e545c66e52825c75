-- A serial history that ends in a cause, with no thread inside a callback, is one to the end.
use Rattle.std.proofs.Common.{ℕ, zero, suc, ◌≡◌, ◌+◌, ◌<◌, ◌≤◌, true, false, if◌then◌else◌, List, [], ◌∷◌, Option, Some, None, slice_index_or, slice_set, length, refl, sym, ap, ◌∙◌, subst, inl, inr, arith}
use Rattle.std.specs.Prelude.{ℤ, ◌&&◌, IsSome, is_none, is_some}
use Rattle.std.specs.List.{list_all}
use Rattle.std.proofs.lemmas.Bool.{and_parts, cases_eq}
use Rattle.std.proofs.lemmas.List.{length-set, length-replicate}
use Rattle.ompt_calls.specs.declared.snapshot.Target.{Target}
use Rattle.omp_model.specs.declared.cause.Cause.TheVariants as cause
use Rattle.omp_model.specs.declared.event.Callback.{Callback}
use Rattle.omp_model.specs.declared.event.Halt.{Halt}
use Rattle.omp_model.specs.declared.event.Outcome.{Outcome}
use Rattle.omp_model.specs.declared.event.Outcome.TheVariants.{Idle, Quiet, Happens, Halts}
use Rattle.omp_model.specs.declared.history.Entry.{Entry}
use Rattle.omp_model.specs.declared.history.What.{What}
use Rattle.omp_model.specs.declared.history.What.TheVariants.{Back, Go, Put}
use Rattle.omp_model.specs.declared.parts.ThreadStage.{ThreadStage}
use Rattle.omp_model.specs.declared.parts.ThreadStage.TheVariants as stage
use Rattle.omp_model.specs.Cause.{cause_by_halt, cause_of, cause_of_whole, is_stuck, main_value, threads_over, whole_value}
use Rattle.omp_model.specs.Gates.{arrival, arrival_at, is_out, main_returned}
use Rattle.omp_model.specs.Legal.{after, back_from, put_from}
use Rattle.omp_model.specs.Serial.{Follows, Leads, Serial, Visit, WholeSerial, enabled_among, first_enabled, go_of, inside_after, moved, onward_from, start}
use Rattle.omp_model.specs.State.{Run, State, Thread, World, pending_at, thread_at, unmade}
use Rattle.omp_model.specs.Turn.{called, enabled, goes_on, turn}
use Rattle.omp_model.proofs.Recording.{first_enabled-below, first_enabled-enabled}
use Rattle.omp_model.proofs.Turns.{Leaves, leaves-turn}
use Rattle.run_laws.proofs.Causes.{at-go, state-last}
use Rattle.run_laws.proofs.Serial.{entry_of}

-- where a thread is inside a callback, it is one of the run's, and the callback is pending
record IsMet (run : Run) (v : Visit) : Type 0 where
  below : v.next ≤ run.threads
  many : length v.state.pending ≡ run.threads
  held : (u : ℕ) → v.inside ≡ Some u → (u < run.threads) × (is_some (pending_at v.state u) ≡ true)

set-here : (places : List (Option Callback)) (t : ℕ) (callback : Callback) → t < length places → is_some (slice_index_or (slice_set places t (Some callback)) t None) ≡ true
set-here [] t callback within = absurd (omega (arith, within))
set-here (place ∷ places) zero callback within = refl
set-here (place ∷ places) (suc t) callback within = set-here places t callback (omega (arith, within))

-- what a turn leaves of pending callbacks
turn-many : (S next : State) (t : ℕ) (came : Outcome) → Leaves S t next came → length next.pending ≡ length S.pending
turn-many S next t Idle leaves = ap length leaves.2
turn-many S next t Quiet leaves = ap length leaves.2
turn-many S next t (Halts halt) leaves = ap length leaves.2
turn-many S next t (Happens e) leaves = ap length leaves.2 ∙ length-set S.pending t (Some (called e))

turn-held : (S next : State) (t u : ℕ) (came : Outcome) → Leaves S t next came → t < length S.pending → inside_after came t ≡ Some u → (u ≡ t) × (is_some (pending_at next u) ≡ true)
turn-held S next t u Idle leaves within is = cc
turn-held S next t u Quiet leaves within is = cc
turn-held S next t u (Halts halt) leaves within is = cc
turn-held S next t u (Happens e) leaves within is =
    let same : u ≡ t = cc in (
      same,
      ap (λ (u : ℕ). is_some (pending_at next u)) same ∙ ap (λ (places : List (Option Callback)). is_some (slice_index_or places t None)) leaves.2
          ∙ set-here S.pending t (called e) within,
    )

put-many : (S : State) (t : ℕ) (place : Target) (word : ℕ) (inside : Option Callback) → length (put_from S t place word inside).pending ≡ length S.pending
put-many S t place word None = refl
put-many S t place word (Some callback) = length-set S.pending t _

put-held : (S : State) (t : ℕ) (place : Target) (word : ℕ) (inside : Option Callback) → pending_at S t ≡ inside → t < length S.pending → is_some (pending_at S t) ≡ true →
    is_some (pending_at (put_from S t place word inside) t) ≡ true
put-held S t place word None at within some = some
put-held S t place word (Some callback) at within some = set-here S.pending t _ within

back-many : (S : State) (t : ℕ) (inside : Option Callback) → length (back_from S t inside).pending ≡ length S.pending
back-many S t None = refl
back-many S t (Some callback) = length-set S.pending t None

module _ (run : Run) where
  met-moved : (v : Visit) (t : ℕ) (what : What) → Follows run v t what → IsMet run v → IsMet run (moved run v (entry_of t what))
  met-moved v t Go follows met =
      let at = at-go run v t v.inside refl follows in
      let one = turn run v.state t in
      let within = first_enabled-below run v.state v.next t met.below at.found in
      let leaves = leaves-turn run v.state t in
      record {
        below = omega (arith, within);
        many = turn-many v.state one.state t one.outcome leaves ∙ met.many;
        held = λ u inside.
            let is = turn-held v.state one.state t u one.outcome leaves (subst (λ (n : ℕ). t < n) (sym met.many) within) inside in
            (subst (λ (u : ℕ). u < run.threads) (sym is.0) within, is.1);
      }
  met-moved v t (Put place word) follows met =
      let held = met.held t follows in
      record {
        below = met.below;
        many = put-many v.state t place word (pending_at v.state t) ∙ met.many;
        held = λ u inside.
            let same : t ≡ u = let some : Some t ≡ Some u = sym follows ∙ inside in cc in
            subst (λ (u : ℕ). (u < run.threads) × (is_some (pending_at (put_from v.state t place word (pending_at v.state t)) u) ≡ true)) same
            (held.0, put-held v.state t place word (pending_at v.state t) refl (subst (λ (n : ℕ). t < n) (sym met.many) held.0) held.1);
      }
  met-moved v t Back follows met =
      record { below = met.below; many = back-many v.state t (pending_at v.state t) ∙ met.many; held = λ u inside. cc }

  met-last : (v last : Visit) (history : List Entry) → Leads run v history last → IsMet run v → IsMet run last
  met-last v last [] leads met = subst (IsMet run) leads met
  met-last v last (entry ∷ rest) leads met = met-last (moved run v entry) last rest leads.1 (met-moved v entry.thread entry.what leads.0 met)

  -- where no thread is inside a callback, the last visit is outside
  last-outside : (v : Visit) (inside : Option ℕ) → v.inside ≡ inside → IsMet run v → ((k : ℕ) → k < run.threads → pending_at v.state k ≡ None) → v.inside ≡ None
  last-outside v None at met outside = at
  last-outside v (Some u) at met outside =
      let held = met.held u at in
      let wrong : false ≡ true = sym (ap is_some (outside u held.0)) ∙ held.1 in cc

  -- A thread that is enabled is found.
  enabled-found : (S : State) (from count t : ℕ) → enabled S t ≡ true → from ≤ t → t < from + count → enabled_among S from count ≡ None → ⊥
  unfolding enabled_among
  enabled-found S from zero t goes low high = λ none. omega (arith, low, high)
  enabled-found S from (suc count) t goes low high =
      elim (enabled S from) as (λ b. enabled S from ≡ b → (if b then Some from else enabled_among S (from + 1) count) ≡ None → ⊥) [
        | true ↦ λ is none. cc
        | false ↦ λ is none. elim (cases_eq from t) [
          | inl same ↦ let wrong : false ≡ true = sym is ∙ ap (enabled S) same ∙ goes in cc
          | inr other ↦ enabled-found S (from + 1) count t goes (omega (arith, low, other)) (omega (arith, high)) none
        ]
      ] refl

  -- a thread that is out comes to nothing
  each-out : (threads : List Thread) (t : ℕ) → list_all (λ (thread : Thread). is_out thread.stage) threads ≡ true → is_out (slice_index_or threads t unmade).stage ≡ true
  each-out [] t out = refl
  each-out (thread ∷ threads) zero out = (and_parts _ _ out).0
  each-out (thread ∷ threads) (suc t) out = each-out threads t (and_parts _ _ out).1

  out-waits : (W : World) (t : ℕ) (at : ThreadStage) → is_out at ≡ true → goes_on (arrival_at W t at) ≡ false
  out-waits W t stage.Unmade out = refl
  out-waits W t stage.Made out = cc
  out-waits W t stage.Begun out = cc
  out-waits W t stage.Ended out = refl

  over-waits : (W : World) (t : ℕ) → threads_over W ≡ true → goes_on (arrival W t) ≡ false
  unfolding arrival
  over-waits W t over = out-waits W t (thread_at W t).stage (each-out W.threads t over)

  enabled-goes : (S : State) (t : ℕ) → enabled S t ≡ true → (is_none S.halt ≡ true) × (goes_on (arrival S.world t) ≡ true)
  unfolding enabled
  enabled-goes S t goes = let parts = and_parts _ _ goes in ((and_parts _ _ parts.0).1, parts.1)

  value-over : (W : World) (value : ℤ) → whole_value W ≡ Some value → threads_over W ≡ true
  value-over W value =
      elim (threads_over W) as (λ b. threads_over W ≡ b → (if (b && main_returned W) then Some (main_value W) else None) ≡ Some value → threads_over W ≡ true) [
        | true ↦ λ is whole. is
        | false ↦ λ is whole. cc
      ] refl

  stuck-none : (S : State) → IsSome (if is_stuck run S then Some cause.Deadlock else None) → enabled_among S 0 run.threads ≡ None
  stuck-none S =
      elim (is_stuck run S) as (λ b. is_stuck run S ≡ b → IsSome (if b then Some cause.Deadlock else None) → enabled_among S 0 run.threads ≡ None) [
        | true ↦ λ is some. none-of (enabled_among S 0 run.threads) (and_parts _ _ (and_parts _ _ (and_parts _ _ is).0).0).0
        | false ↦ λ is some. cc
      ] refl
    where
      none-of : (found : Option ℕ) → is_none found ≡ true → found ≡ None
      none-of None is = refl
      none-of (Some t) is = cc

  never-enabled : (S : State) (halt : Option Halt) (value : Option ℤ) → S.halt ≡ halt → whole_value S.world ≡ value → IsSome (cause_by_halt run S halt) →
      (t : ℕ) → t < run.threads → enabled S t ≡ true → ⊥
  never-enabled S (Some halt) value at is some t within goes = let wrong : false ≡ true = sym (ap is_none at) ∙ (enabled-goes S t goes).0 in cc
  never-enabled S None (Some value) at is some t within goes =
      let wrong : false ≡ true = sym (over-waits S.world t (value-over S.world value is)) ∙ (enabled-goes S t goes).1 in cc
  never-enabled S None None at is some t within goes =
      let stuck = subst (λ (value : Option ℤ). IsSome (cause_of_whole run S value)) is some in
      enabled-found S 0 run.threads t goes (omega arith) (omega (arith, within)) (stuck-none S stuck)

  none-first : (S : State) (next : ℕ) (found : Option ℕ) → next ≤ run.threads → first_enabled run S next ≡ found → ((t : ℕ) → t < run.threads → enabled S t ≡ true → ⊥) → first_enabled run S next ≡ None
  none-first S next None below is never = is
  none-first S next (Some t) below is never = absurd (never t (first_enabled-below run S next t below is) (first_enabled-enabled run S next t is))

  pub whole-ended : (history : List Entry) → Serial run history → IsSome (cause_of run history) → ((k : ℕ) → k < run.threads → pending_at (after run history) k ≡ None) →
      WholeSerial run history
  whole-ended history serial found outside =
      let last = serial.last in
      let S = last.state in
      let at = state-last run (start run) last history serial.in_turn in
      let met = met-last (start run) last history serial.in_turn (record { below = omega arith; many = length-replicate run.threads None; held = λ u is. cc }) in
      let out = last-outside last last.inside refl met (subst (λ (S : State). (k : ℕ) → k < run.threads → pending_at S k ≡ None) at outside) in
      let some = subst (λ (S : State). IsSome (cause_by_halt run S S.halt)) at found in
      let none = none-first S last.next (first_enabled run S last.next) met.below refl (never-enabled S S.halt (whole_value S.world) refl refl some) in
      record { legal = serial.legal; last = last; in_turn = serial.in_turn; ended = ap (onward_from run last) out ∙ ap go_of none }
