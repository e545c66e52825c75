-- The record of an event that has just occurred, and the events that threads are inside.
use Rattle.std.specs.Prelude.{ℕ, ◌≡◌, Option, option_map}
use Rattle.ompt_calls.specs.declared.event.EventRecord.{EventRecord}
use Rattle.omp_model.specs.declared.event.Callback.{Callback}
use Rattle.omp_model.specs.declared.event.Event.{Event}
use Rattle.omp_model.specs.State.{State, World, pending_at}
use Rattle.omp_model.specs.Calls.{call_of}
use Rattle.omp_model.specs.Snapshots.{snap_of}

-- the record of an event of this thread at this position, in the world after its Go
abbrev pub recorded : ℕ → ℕ → World → Event → EventRecord
recorded position t W event =
    record { seq = position; thread = t; state = (snap_of W t event).state; wait_id = (snap_of W t event).wait_id; call = call_of W t event }

-- the event whose callback each thread is inside
abbrev pub Inside : Type 0
Inside = ℕ → Option Event

abbrev pub event_in : Callback → Event
event_in callback = callback.event

abbrev pub inside : State → Inside
inside S t = option_map event_in (pending_at S t)

-- one thread has come to be inside this event, or inside none; or no thread has
pub record Enters (before after : Inside) (t : ℕ) (event : Option Event) : Type 0 where
  pub own : after t ≡ event
  pub others : (u : ℕ) → (u ≡ t → ⊥) → after u ≡ before u

abbrev pub Same : Inside → Inside → Type 0
Same before after = (u : ℕ) → after u ≡ before u
