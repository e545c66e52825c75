-- A legal history: each entry is allowed in turn, from the first state on.
use Rattle.std.specs.Prelude.{ℕ, Bool, false, IsTrue, ◌+◌, ◌&&◌, nat_lt, List, [], ◌∷◌, Option, Some, None, is_some, slice_set}
use Rattle.ompt_calls.specs.Number.{is_registered}
use Rattle.ompt_calls.specs.declared.snapshot.Target.{Target}
use Rattle.omp_model.specs.declared.limits.TheConstants.{STORE_LIMIT}
use Rattle.omp_model.specs.declared.history.What.{What}
use Rattle.omp_model.specs.declared.history.What.TheVariants.{Go, Put, Back}
use Rattle.omp_model.specs.declared.history.Entry.{Entry}
use Rattle.omp_model.specs.declared.event.Callback.{Callback}
use Rattle.omp_model.specs.State.{Run, State, first, pending_at}
use Rattle.omp_model.specs.Words.{is_made, stored}
use Rattle.omp_model.specs.Calls.{callback_of}
use Rattle.omp_model.specs.Returning.{at_back}
use Rattle.omp_model.specs.Turn.{turn, enabled}

-- the callback of the thread's event has returned
abbrev pub back_from : State → ℕ → Option Callback → State
back_from S t None = S
back_from S t (Some callback) =
    record S { world = at_back S.world t callback.event; pending = slice_set S.pending t None }

abbrev pub back : State → ℕ → State
back S t = back_from S t (pending_at S t)

-- the tool of the thread's event stores this
abbrev pub put_from : State → ℕ → Target → ℕ → Option Callback → State
put_from S t target word None = S
put_from S t target word (Some callback) =
    record S {
      world = stored S.world target word;
      pending = slice_set S.pending t (Some (record callback { stores = callback.stores + 1 }));
    }

abbrev pub put : State → ℕ → Target → ℕ → State
put S t target word = put_from S t target word (pending_at S t)

-- the thread is inside a callback that is registered
abbrev pub is_told : Run → Callback → Bool
is_told run callback = is_registered run.mask (callback_of callback.event)

-- a tool stores at most three words during one callback, each of a thread, region or task that was made
abbrev pub may_put : Run → State → Target → Option Callback → Bool
may_put run S target None = false
may_put run S target (Some callback) =
    is_told run callback && nat_lt callback.stores STORE_LIMIT && is_made S.world target

-- the entry may stand next
abbrev pub may : Run → State → ℕ → What → Bool
may run S t Go = enabled S t
may run S t (Put target word) = may_put run S target (pending_at S t)
may run S t Back = is_some (pending_at S t)

-- the state after an entry
abbrev pub does : Run → State → ℕ → What → State
does run S t Go = (turn run S t).state
does run S t (Put target word) = put S t target word
does run S t Back = back S t

abbrev pub entered : Run → State → Entry → State
entered run S entry = does run S entry.thread entry.what

-- the state after these entries
abbrev pub after_from : Run → State → List Entry → State
after_from run S [] = S
after_from run S (entry ∷ rest) = after_from run (entered run S entry) rest

abbrev pub after : Run → List Entry → State
after run history = after_from run (first run) history

-- each of these entries is allowed in turn
abbrev pub AllowsFrom : Run → State → List Entry → Type 0
AllowsFrom run S [] = Unit {0}
AllowsFrom run S (entry ∷ rest) = IsTrue (may run S entry.thread entry.what) × AllowsFrom run (entered run S entry) rest

abbrev pub Legal : Run → List Entry → Type 0
Legal run history = AllowsFrom run (first run) history
