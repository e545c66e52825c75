-- A turn: up to 64 silent steps of a thread, and then the next event, where the thread has come to one for which it doesn't wait.
use Rattle.std.specs.Prelude.{ℕ, zero, suc, ◌+◌, ◌&&◌, Bool, true, false, nat_le, nat_lt, if◌then◌else◌, Option, Some, None, is_none, slice_set}
use Rattle.omp_model.specs.declared.limits.TheConstants.{STEPS, STEPS_OF_A_TURN, TURNS, TURN_LIMIT}
use Rattle.omp_model.specs.declared.event.Arrival.{Arrival}
use Rattle.omp_model.specs.declared.event.Arrival.TheVariants.{CodeEvent, RuntimeEvent, Steps, Waits}
use Rattle.omp_model.specs.declared.event.Callback.{Callback}
use Rattle.omp_model.specs.declared.event.Event.{Event}
use Rattle.omp_model.specs.declared.event.Halt.{Halt}
use Rattle.omp_model.specs.declared.event.Halt.TheVariants.{Limit}
use Rattle.omp_model.specs.declared.event.Outcome.{Outcome}
use Rattle.omp_model.specs.declared.event.Outcome.TheVariants as outcome
use Rattle.omp_model.specs.State.{Run, World, State, pending_at}
use Rattle.omp_model.specs.Gates.{arrival}
use Rattle.omp_model.specs.Changes.{with_masked_skipped}
use Rattle.omp_model.specs.Silent.{Silence, Goes, Stops, silent_step}
use Rattle.omp_model.specs.EventEffects.{Going, Nothing, Happens, Halts, go_of_runtime, go_of_code}

-- the silent steps of a turn: the state after them, how many were made, and the trap or limit that stopped them
pub record Walk : Type 0 where
  pub state : State
  pub made : ℕ
  pub stop : Option Halt

abbrev pub walked : State → ℕ → Option Halt → Walk
walked S made stop = record { state = S; made = made; stop = stop }

-- one silent step was made
abbrev pub stepped : State → World → State
stepped S after = record S { world = after; steps = S.steps + 1 }

-- The state in which a step or an event of the code halts the run, and from which an event of the code occurs: the task has left out what it goes past.
-- Where the code isn't tried, it is left as it is.
abbrev pub state_past_masked : State → ℕ → State
state_past_masked S t = record S { world = with_masked_skipped S.world t }

abbrev pub walk_by : State → ℕ → Silence → (World → Walk) → Walk
walk_by S made (Goes after) more = more after
walk_by S made (Stops halt) more = walked S made (Some halt)

-- the limit of silent steps is tested before the step is tried
abbrev pub walk_on : Run → State → ℕ → ℕ → Arrival → (World → Walk) → Walk
walk_on run S t made Steps more =
    if nat_le run.steps S.steps
    then walked S made (Some (Limit STEPS))
    else walk_by (state_past_masked S t) made (silent_step run S.world t) more
walk_on run S t made other more = walked S made None

-- up to `left` more silent steps, after `made` ones
unfoldable pub walk : Run → ℕ → ℕ → State → ℕ → Walk
walk run zero made S t = walked S made None
walk run (suc left) made S t = walk_on run S t made (arrival S.world t) (λ after. walk run left (made + 1) (stepped S after) t)

-- a turn: what it came to, and the state after it
pub record Turn : Type 0 where
  pub outcome : Outcome
  pub state : State

abbrev pub counted : State → State
counted S = record S { turns = S.turns + 1 }

-- the turn ends the run
abbrev pub halted : State → Halt → Turn
halted S halt = record { outcome = outcome.Halts halt; state = record (counted S) { halt = Some halt } }

-- the callback of an event, before its tool has stored anything
abbrev pub called : Event → Callback
called event = record { event = event; stores = 0 }

-- nothing comes next for which the thread doesn't wait
abbrev pub without_event : State → ℕ → Turn
without_event S made =
    if nat_lt 0 made then record { outcome = outcome.Quiet; state = counted S } else record { outcome = outcome.Idle; state = S }

-- after so many silent steps
abbrev pub with_going : State → ℕ → ℕ → Going → Turn
with_going S made t Nothing = without_event S made
with_going S made t (Happens event after) =
    record {
      outcome = outcome.Happens event;
      state = record (counted S) { world = after; pending = slice_set S.pending t (Some (called event)) };
    }
with_going S made t (Halts halt) = halted S halt

abbrev pub after_steps : Run → State → ℕ → ℕ → Arrival → Turn
after_steps run S made t Waits = without_event S made
after_steps run S made t Steps = without_event S made
after_steps run S made t CodeEvent = with_going (state_past_masked S t) made t (go_of_code run (with_masked_skipped S.world t) t)
after_steps run S made t (RuntimeEvent event) = with_going S made t (go_of_runtime S.world t event)

abbrev pub after_walk : Run → Walk → ℕ → Option Halt → Turn
after_walk run walk t (Some halt) = halted walk.state halt
after_walk run walk t None = after_steps run walk.state walk.made t (arrival walk.state.world t)

-- the turn, but for the limit of turns
unfoldable pub unlimited : Run → State → ℕ → Turn
unlimited run S t = let steps = walk run STEPS_OF_A_TURN 0 S t in after_walk run steps t steps.stop

-- the turn of a thread
unfoldable pub turn : Run → State → ℕ → Turn
turn run S t = if nat_le TURN_LIMIT (S.turns + 1) then halted S (Limit TURNS) else unlimited run S t

-- the turn is one
abbrev pub has_outcome : Outcome → Bool
has_outcome outcome.Idle = false
has_outcome other = true

-- the thread doesn't wait
abbrev pub goes_on : Arrival → Bool
goes_on Waits = false
goes_on Steps = true
goes_on CodeEvent = true
goes_on (RuntimeEvent event) = true

-- the thread is inside no callback, the run isn't halted, and a silent step or an event comes next for which the thread doesn't wait
unfoldable pub enabled : State → ℕ → Bool
enabled S t = is_none (pending_at S t) && is_none S.halt && goes_on (arrival S.world t)
