-- The serial histories to the end are one, and `serial` computes it.
use Rattle.std.specs.Prelude.{◌≡◌, ℕ, zero, suc, ◌+◌, ◌-◌, ◌*◌, ◌<◌, ◌≤◌, true, List, [], ◌∷◌, length, Option, Some, None, refl}
use Rattle.std.proofs.Common.{sym, ap, ◌∙◌, subst, arith, IsTrue}
use Rattle.std.proofs.lemmas.Bool.{true≢false}
use Rattle.omp_model.specs.declared.limits.TheConstants.{TURN_LIMIT}
use Rattle.omp_model.specs.declared.history.What.{What}
use Rattle.omp_model.specs.declared.history.What.TheVariants.{Go, Put, Back}
use Rattle.omp_model.specs.declared.history.Entry.{Entry}
use Rattle.omp_model.specs.declared.event.Halt.{Halt}
use Rattle.omp_model.specs.State.{Run, State}
use Rattle.omp_model.specs.declared.event.Outcome.{Outcome}
use Rattle.omp_model.specs.declared.event.Outcome.TheVariants.{Idle, Quiet, Happens, Halts}
use Rattle.omp_model.specs.Turn.{turn, enabled}
use Rattle.omp_model.specs.Legal.{back}
use Rattle.omp_model.specs.Serial.{first_enabled, Visit, start, go_of, onward_from, onward, inside_after, moved, is_no_put, Follows, Leads, StoresNothing, WholeSerial, serial_on, serial_from, serial}
use Rattle.omp_model.proofs.Turns.{turn-goes, turn-not_idle, turn-quiet, turn-happens, turn-halts, turn-below, back-turns, back-halt}
use Rattle.omp_model.specs.Storing.{go_at, back_at}
use Rattle.omp_model.proofs.Recording.{first_enabled-enabled}

-- an entry that stores nothing is the one that stands next
plain : (run : Run) (v : Visit) (t : ℕ) (what : What) → IsTrue (is_no_put what) → Follows run v t what → onward run v ≡ Some (record { thread = t; what = what })
plain run v t Go none follows = follows
plain run v t (Put target word) none follows = absurd (true≢false (sym none))
plain run v t Back none follows = follows

-- with room for its entries, the serial order from a visit on is the history that leads to the end
follow : (run : Run) (most : ℕ) (v last : Visit) (H : List Entry) → Leads run v H last → onward run last ≡ None → StoresNothing H → length H ≤ most → serial_from run most v ≡ H
unfolding serial_from
follow run zero v last [] leads ended none room = refl
follow run zero v last (entry ∷ rest) leads ended none room = absurd (omega arith)
follow run (suc most) v last [] leads ended none room = ap (λ o. serial_on o (λ entry. serial_from run most (moved run v entry))) (ap (onward run) leads ∙ ended)
follow run (suc most) v last (entry ∷ rest) leads ended none room =
    ap (λ o. serial_on o (λ next. serial_from run most (moved run v next))) (plain run v entry.thread entry.what none.0 leads.0) ∙ ap (λ more. entry ∷ more) (follow run most (moved run v entry) last rest leads.1 ended none.1 (omega arith))

-- how many turns may be left, by what halted the run and how many there were
abbrev left_by : Option Halt → ℕ → ℕ
left_by None turns = TURN_LIMIT - turns
left_by (Some halt) turns = 0

-- how many turns may be left of a state
abbrev left : State → ℕ
left S = left_by S.halt S.turns

-- a thread inside a callback has an entry to come
abbrev owed : Option ℕ → ℕ
owed None = 0
owed (Some t) = 1

-- how many entries may be left
abbrev budget : Visit → ℕ
budget v = 2 * left v.state + owed v.inside

-- a run that goes on is below the limit of turns
record Ready (S : State) : Type 0 where
  pub below : S.halt ≡ None → S.turns < TURN_LIMIT

-- an entry leads to a visit that is ready, with a smaller budget
record Spends (v after : Visit) : Type 0 where
  pub ready : Ready after.state
  pub less : budget after + 1 ≤ budget v

-- what is left of a state that isn't halted
left-running : (S : State) → S.halt ≡ None → left S ≡ TURN_LIMIT - S.turns
left-running S on = ap (λ h. left_by h S.turns) on

-- a turn with this outcome spends what its entries need
spends-at : (run : Run) (S : State) (t : ℕ) (o : Outcome) → Ready S → enabled S t ≡ true → (turn run S t).outcome ≡ o → 2 * left (turn run S t).state + owed (inside_after o t) + 1 ≤ 2 * left S
spends-at run S t Idle ready goes is = absurd (turn-not_idle run S t goes is)
spends-at run S t Quiet ready goes is =
    let went = turn-quiet run S t goes is in
    let before = left-running S (turn-goes S t goes).halt in
    let after = left-running (turn run S t).state went.halt in
    omega arith
spends-at run S t (Happens e) ready goes is =
    let went = turn-happens run S t e goes is in
    let before = left-running S (turn-goes S t goes).halt in
    let after = left-running (turn run S t).state went.halt in
    omega arith
spends-at run S t (Halts h) ready goes is =
    let ended = turn-halts run S t h is in
    let on = (turn-goes S t goes).halt in
    let before = left-running S on in
    let below = ready.below on in
    let after : left (turn run S t).state ≡ 0 = ap (λ halt. left_by halt (turn run S t).state.turns) ended.halt in
    omega arith

-- a Back spends the entry that was owed
spends-back : (run : Run) (v : Visit) (t : ℕ) → Ready v.state → v.inside ≡ Some t → Spends v (moved run v (back_at t))
spends-back run v t ready inside =
    let turns = back-turns v.state t in
    let halt = back-halt v.state t in
    let same : left (back v.state t) ≡ left v.state = cc in
    let one : owed v.inside ≡ 1 = ap owed inside in
    record { ready = record { below = λ on. let below = ready.below (sym halt ∙ on) in omega arith }; less = omega arith }

-- a Go of the first enabled thread spends a turn
spends-go : (run : Run) (v : Visit) (t : ℕ) → Ready v.state → v.inside ≡ None → first_enabled run v.state v.next ≡ Some t → Spends v (moved run v (go_at t))
spends-go run v t ready outside is =
    let goes = first_enabled-enabled run v.state v.next t is in
    let spends = spends-at run v.state t (turn run v.state t).outcome ready goes refl in
    record { ready = record { below = turn-below run v.state t goes }; less = omega arith }

-- a Go that may stand next is of a thread that was found
go_of-some : (o : Option ℕ) (entry : Entry) → go_of o ≡ Some entry → (t : ℕ) × (o ≡ Some t) × (go_at t ≡ entry)
go_of-some None entry is = cc
go_of-some (Some t) entry is = (t, refl, cc)

-- the one entry that stands next without a store spends of the budget
spends-onward : (run : Run) (v : Visit) (entry : Entry) (inside : Option ℕ) → Ready v.state → v.inside ≡ inside → onward_from run v inside ≡ Some entry → Spends v (moved run v entry)
spends-onward run v entry (Some t) ready inside is = let same : back_at t ≡ entry = cc in subst (λ x. Spends v (moved run v x)) same (spends-back run v t ready inside)
spends-onward run v entry None ready inside is =
    let found = go_of-some (first_enabled run v.state v.next) entry is in
    subst (λ x. Spends v (moved run v x)) found.2 (spends-go run v found.0 ready inside found.1)

-- the entries from a visit on are within its budget
within : (run : Run) (v last : Visit) (H : List Entry) → Ready v.state → StoresNothing H → Leads run v H last → length H ≤ budget v
within run v last [] ready none leads = omega arith
within run v last (entry ∷ rest) ready none leads =
    let spends = spends-onward run v entry v.inside ready refl (plain run v entry.thread entry.what none.0 leads.0) in
    let shorter = within run (moved run v entry) last rest spends.ready none.1 leads.1 in
    omega arith

-- a serial history in which nothing is stored has at most two entries for each turn that there may be
pub serial-short : (run : Run) (H : List Entry) (last : Visit) → StoresNothing H → Leads run (start run) H last → length H ≤ 2 * TURN_LIMIT
serial-short run H last none leads = let short = within run (start run) last H (record { below = λ on. omega arith }) none leads in omega arith

-- a serial history to the end in which nothing is stored is what `serial` computes
pub serial-whole : (run : Run) (H : List Entry) → WholeSerial run H → StoresNothing H → serial run ≡ H
serial-whole run H whole none =
    follow run (2 * TURN_LIMIT) (start run) whole.last H whole.in_turn whole.ended none (serial-short run H whole.last none whole.in_turn)

-- two of them are the same
pub whole-one : (run : Run) (H K : List Entry) → WholeSerial run H → WholeSerial run K → StoresNothing H → StoresNothing K → H ≡ K
whole-one run H K one other none silent = sym (serial-whole run H one none) ∙ serial-whole run K other silent
