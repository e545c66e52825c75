-- A legal history has no more turns than their limit.
use Rattle.std.proofs.Common.{ℕ, ◌≡◌, ◌≤◌, ◌<◌, ◌+◌, List, [], ◌∷◌, Option, Some, None, true, arith}
use Rattle.ompt_calls.specs.declared.snapshot.Target.{Target}
use Rattle.omp_model.specs.declared.event.Callback.{Callback}
use Rattle.omp_model.specs.declared.history.Entry.{Entry}
use Rattle.omp_model.specs.declared.history.What.{What}
use Rattle.omp_model.specs.declared.history.What.TheVariants.{Back, Go, Put}
use Rattle.omp_model.specs.declared.limits.TheConstants.{TURN_LIMIT}
use Rattle.omp_model.specs.Legal.{AllowsFrom, Legal, after_from, back_from, does, entered, may, put_from}
use Rattle.omp_model.specs.State.{Run, State, first, pending_at}
use Rattle.omp_model.proofs.Turns.{turn-below, turn-goes, turns-rise}
use Rattle.run_laws.specs.Turns.{turns_in, turns_of}

-- a state that goes on is below the limit
record IsBelow (S : State) : Type 0 where
  turns : S.turns ≤ TURN_LIMIT
  below : S.halt ≡ None → S.turns < TURN_LIMIT

-- an entry makes so many turns more
record Counts (S after : State) (turns : ℕ) : Type 0 where
  more : after.turns ≡ S.turns + turns
  is_below : IsBelow after

counts-put : (run : Run) (S : State) (t : ℕ) (target : Target) (word : ℕ) (inside : Option Callback) → IsBelow S → Counts S (put_from S t target word inside) 0
counts-put run S t target word None so = record { more = omega arith; is_below = so }
counts-put run S t target word (Some callback) so = record { more = omega arith; is_below = record { turns = so.turns; below = so.below } }

counts-back : (S : State) (t : ℕ) (inside : Option Callback) → IsBelow S → Counts S (back_from S t inside) 0
counts-back S t None so = record { more = omega arith; is_below = so }
counts-back S t (Some callback) so = record { more = omega arith; is_below = record { turns = so.turns; below = so.below } }

counts-entry : (run : Run) (S : State) (t : ℕ) (what : What) → may run S t what ≡ true → IsBelow S → Counts S (does run S t what) (turns_in what)
counts-entry run S t Go goes so =
    let at = turn-goes S t goes in
    let rises = turns-rise run S t goes in
    let before = so.below at.halt in
    record { more = rises; is_below = record { turns = omega arith; below = λ on. turn-below run S t goes on } }
counts-entry run S t (Put target word) may so = counts-put run S t target word (pending_at S t) so
counts-entry run S t Back may so = counts-back S t (pending_at S t) so

counts-from : (run : Run) (S : State) (history : List Entry) → AllowsFrom run S history → IsBelow S → Counts S (after_from run S history) (turns_of history)
counts-from run S [] allows so = record { more = omega arith; is_below = so }
counts-from run S (entry ∷ rest) allows so =
    let one = counts-entry run S entry.thread entry.what allows.0 so in
    let others = counts-from run (entered run S entry) rest allows.1 one.is_below in
    let first = one.more in
    let then_ = others.more in
    record { more = omega arith; is_below = others.is_below }

pub few-turns : (run : Run) (history : List Entry) → Legal run history → turns_of history ≤ TURN_LIMIT
few-turns run history legal =
    let counts = counts-from run (first run) history legal (record { turns = omega arith; below = λ on. omega arith }) in
    let more = counts.more in
    let few = counts.is_below.turns in
    omega arith
