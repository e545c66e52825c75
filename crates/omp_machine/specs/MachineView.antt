-- What a machine stands for: its run and a state of it; and what a turn tells its caller.
use Rattle.std.specs.Prelude.{ℕ, ◌≡◌, ◌<◌, ◌≤◌, Bool, true, false, if◌then◌else◌, None, refl}
use Rattle.std.specs.Coded.{Coded, code_by, coded×}
use Rattle.ompt_calls.specs.declared.call.Call.{Call}
use Rattle.ompt_calls.specs.declared.snapshot.Snapshot.{Snapshot}
use Rattle.ompt_calls.specs.Number.{is_registered}
use Rattle.omp_model.specs.declared.event.Halt.{Halt}
use Rattle.omp_model.specs.declared.event.Halt.TheVariants as halt
use Rattle.omp_model.specs.declared.event.Outcome.{Outcome}
use Rattle.omp_model.specs.declared.event.Outcome.TheVariants.{Idle, Quiet, Happens, Halts}
use Rattle.omp_model.specs.declared.limits.TheConstants.{TURN_LIMIT}
use Rattle.omp_model.specs.Calls.{call_of, callback_of}
use Rattle.omp_model.specs.MadeWorld.{IsMadeState}
use Rattle.omp_model.specs.Snapshots.{snap_of}
use Rattle.omp_model.specs.State.{Run, State}
use Rattle.omp_model.specs.Turn.{turn}
use Rattle.omp_machine.specs.declared.went.Went.{Went}
use Rattle.omp_machine.specs.declared.went.Went.TheVariants as went
use Rattle.omp_machine.specs.State.{run_code, state_code}

-- a run, and a state of it
pub record MachineView : Type 0 where
  pub run : Run
  pub state : State

abbrev pub standing_code : Coded MachineView
standing_code =
    code_by (Run × State) (coded× run_code state_code) (λ standing. (standing.run, standing.state))
    (λ p. record { run = p.0; state = p.1 })
    (λ _. refl)

-- an event is told where its callback is registered, with what can be inquired during it
abbrev pub told : ℕ → ℕ → Call → Snapshot → Went
told mask number call snapshot = if is_registered mask number then went.Told call snapshot else went.Untold

abbrev pub went_of_halt : Halt → Went
went_of_halt (halt.Trap number) = went.Trapped number
went_of_halt (halt.Limit number) = went.Limit number

-- what a turn tells its caller, by what it came to and the state after it. An enabled thread's turn isn't idle
abbrev pub went_after : Run → State → ℕ → Outcome → Went
went_after run after t Idle = went.Quiet
went_after run after t Quiet = went.Quiet
went_after run after t (Happens event) = told run.mask (callback_of event) (call_of after.world t event) (snap_of after.world t event)
went_after run after t (Halts halt) = went_of_halt halt

abbrev pub went_of : Run → State → ℕ → Went
went_of run S t = went_after run (turn run S t).state t (turn run S t).outcome

-- a call that waits for its callback
abbrev pub is_call : Went → Bool
is_call went.Quiet = false
is_call (went.Told call snapshot) = true
is_call went.Untold = true
is_call (went.Trapped number) = false
is_call (went.Limit number) = false

-- What is true of every state that a machine stands for: there is a place for each thread's callback, turns are left while nothing has halted the
-- run, and all that the state names was made.
pub record IsSound (run : Run) (state : State) : Type 0 where
  pub some : 1 ≤ run.threads
  pub turns_left : state.halt ≡ None → state.turns < TURN_LIMIT
  pub turns : state.turns ≤ TURN_LIMIT
  pub made : IsMadeState run state
