-- What a thread's visit to a book comes to: what it is told, and the entries that are put last.
use Rattle.std.specs.Prelude.{ℕ, Bool, true, false, ◌&&◌, not, if◌then◌else◌, List, [], ◌∷◌, length, Option, Some, None, is_none}
use Rattle.ompt_calls.specs.Number.{is_registered}
use Rattle.omp_model.specs.declared.cause.Cause.{Cause}
use Rattle.omp_model.specs.declared.cause.Cause.TheVariants.{Memory}
use Rattle.omp_model.specs.declared.event.Event.{Event}
use Rattle.omp_model.specs.declared.event.Outcome.{Outcome}
use Rattle.omp_model.specs.declared.event.Outcome.TheVariants as outcome
use Rattle.omp_model.specs.declared.history.Entry.{Entry}
use Rattle.omp_model.specs.State.{World}
use Rattle.omp_model.specs.Calls.{call_of, callback_of}
use Rattle.omp_model.specs.Cause.{cause_of, cause_of_halt}
use Rattle.omp_model.specs.Snapshots.{snap_of}
use Rattle.omp_model.specs.Storing.{back_at, go_at}
use Rattle.omp_model.specs.Turn.{Turn, enabled, turn}
use Rattle.step_book.specs.declared.step.Step.{Step}
use Rattle.step_book.specs.declared.step.Step.TheVariants.{Told, Quiet, NotYet, Ended}
use Rattle.step_book.specs.BookView.{BookView, state_of}

pub record Visit : Type 0 where
  pub step : Step
  pub added : List Entry

-- whether a step tells that the run is over
abbrev pub is_end : Step → Bool
is_end (Ended cause) = true
is_end other = false

-- no entry is added
abbrev pub without_entry : Step → Visit
without_entry step = record { step = step; added = [] }

-- an event has occurred, and the Go of it stands at this place. Where its callback is registered it is told, and its Back is owed; else the Back
-- follows at once
abbrev pub visit_of_event : ℕ → ℕ → ℕ → World → Event → Visit
visit_of_event mask seq t W event =
    if is_registered mask (callback_of event)
    then record { step = Told seq (call_of W t event) (snap_of W t event); added = go_at t ∷ [] }
    else record { step = Quiet; added = go_at t ∷ back_at t ∷ [] }

-- by what the turn came to, and the world after it. The turn of an enabled thread isn't idle
abbrev pub visit_of_outcome : ℕ → ℕ → ℕ → World → Outcome → Visit
visit_of_outcome mask seq t W outcome.Idle = record { step = Quiet; added = go_at t ∷ [] }
visit_of_outcome mask seq t W outcome.Quiet = record { step = Quiet; added = go_at t ∷ [] }
visit_of_outcome mask seq t W (outcome.Happens event) = visit_of_event mask seq t W event
visit_of_outcome mask seq t W (outcome.Halts halt) = record { step = Ended (cause_of_halt halt); added = go_at t ∷ [] }

abbrev pub visit_of_turn : BookView → ℕ → Turn → Visit
visit_of_turn book t came = visit_of_outcome book.run.mask (length book.history) t came.state.world came.outcome

-- the visit of an enabled thread is a turn
abbrev pub turn_visit : BookView → ℕ → Visit
turn_visit book t = visit_of_turn book t (turn book.run (state_of book) t)

-- the visit where the history has ended in this cause, if it has
abbrev pub visit_by : BookView → ℕ → Option Cause → Visit
visit_by book t (Some cause) = without_entry (Ended cause)
visit_by book t None = if enabled (state_of book) t then turn_visit book t else without_entry NotYet

-- the visit of a thread: nothing more happens where the run was ended for want of memory, or the history has ended
abbrev pub visit : BookView → ℕ → Visit
visit book t = if book.ended then without_entry (Ended Memory) else visit_by book t (cause_of book.run book.history)

-- a visit is a turn where the run hasn't ended and the thread is enabled
abbrev pub is_turn : BookView → ℕ → Bool
is_turn book t = not book.ended && is_none (cause_of book.run book.history) && enabled (state_of book) t

-- what is told by a visit that is no turn
abbrev pub idle_by : Option Cause → Step
idle_by (Some cause) = Ended cause
idle_by None = NotYet

abbrev pub idle_step : BookView → Step
idle_step book = if book.ended then Ended Memory else idle_by (cause_of book.run book.history)
