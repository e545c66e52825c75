-- What the events of runs have beside their words, and that their calls may stand in a trace.
use Rattle.std.proofs.Common.{ℕ, ◌≡◌, ◌≤◌, List}
use Rattle.omp_codes.specs.States.{states}
use Rattle.omp_model.specs.declared.event.Event.{Event}
use Rattle.omp_model.specs.declared.event.Outcome.TheVariants.{Happens}
use Rattle.omp_model.specs.declared.history.Entry.{Entry}
use Rattle.omp_model.specs.State.{Run, World}
use Rattle.omp_model.specs.Calls.{call_of}
use Rattle.omp_model.specs.Legal.{Legal, after}
use Rattle.omp_model.specs.Snapshots.{state_of}
use Rattle.omp_model.specs.Turn.{turn}
use Rattle.trace_format.specs.Fitting.{FitsCall}
use Rattle.trace_format.specs.Validity.{IsAmong, IsCall}
use Rattle.run_trace.proofs.Sensible.{HasNulls, IsSensible}
use Rattle.run_trace.proofs.Arguments.{stands}
use Rattle.run_trace.proofs.Fits.{has-fit}
use Rattle.run_trace.proofs.States.{known}
use Rattle.run_trace.proofs.Told.{sensible}

pub events-sensible : (run : Run) (history : List Entry) (t : ℕ) (event : Event) → 1 ≤ run.threads → Legal run history → (turn run (after run history) t).outcome ≡ Happens event → IsSensible (turn run (after run history) t).state.world event
events-sensible run history t event some legal happens = sensible run history t event some happens

pub call-stands : (W : World) (t : ℕ) (event : Event) → HasNulls W → IsSensible W event → FitsCall (call_of W t event) → IsCall (call_of W t event)
call-stands W t event nulls of_event fits = stands W t nulls event of_event (has-fit (call_of W t event) fits)

pub state-known : (W : World) (t : ℕ) (event : Event) → IsAmong states (state_of W t event)
state-known W t event = known W t event
