-- The codes of tasks at the start, and after a Back, which leaves them as they are; and what is so of the first state.
use Rattle.std.proofs.Common.{ℕ, zero, suc, ◌≡◌, ◌<◌, ◌==◌, Bool, true, false, if◌then◌else◌, [], refl, sym, ap, ◌∙◌, arith}
use Rattle.std.specs.Prelude.{Option, Some, None, option_map}
use Rattle.std.proofs.lemmas.Bool.{true≢false}
use Rattle.c_model.specs.Begin.{blank_task}
use Rattle.c_brackets.specs.Orderly.{AreCallsKept, AreInOrder, IsOrderly as IsOrderlyCode}
use Rattle.task_pool.specs.declared.task.Condition.{Condition}
use Rattle.task_pool.specs.declared.task.Task.{Task as PoolTask}
use Rattle.task_pool.specs.declared.task.TaskKind.TheVariants as kind
use Rattle.omp_model.specs.declared.event.Callback.{Callback}
use Rattle.omp_model.specs.declared.event.Event.{Event}
use Rattle.omp_model.specs.declared.event.Event.TheVariants.{TaskCreate, TaskEnd}
use Rattle.omp_model.specs.State.{Run, State, World, first, first_world, pending_at, pooled_at, task_at}
use Rattle.omp_model.specs.Conditions.{IsOrderly, PendingOrderly}
use Rattle.omp_model.specs.MadeWorld.{IsMadeState, MadePending}
use Rattle.omp_model.proofs.Touching.{Returns, come_to, pooled_back}
use Rattle.omp_model.proofs.MadeRuns.{first-made}
use Rattle.omp_model.proofs.OrderlyRuns.{orderly-after}
use Rattle.nested_runs.proofs.Recorded.{event_in, inside}
use Rattle.nested_runs.proofs.Knows.{IsSound, IsSoundEvent, IsWholeRun}
use Rattle.nested_runs.proofs.Standing.{HasCourse}
use Rattle.nested_runs.proofs.Touching.{AreCodes}
use Rattle.nested_runs.proofs.Codes.{main-orderly}

-- where there is no code it stands in order, and is behind all that it has
pub blank-orderly : IsOrderlyCode blank_task
unfolding AreInOrder AreCallsKept
blank-orderly = record { now = tt; framed = λ none. absurd (true≢false (sym none)); calls = tt }

pub blank-course : HasCourse blank_task
blank-course ahead = absurd (true≢false ahead)

-- what a state of a run has, for its world
sound-pending : (W : World) (t : ℕ) (callback : Option Callback) (event : Event) → MadePending W t callback → PendingOrderly W t callback →
    option_map event_in callback ≡ Some event →
    IsSoundEvent W t event
sound-pending W t None event made orderly is = cc
sound-pending W t (Some callback) event made orderly is =
    let same : callback.event ≡ event = cc in
    rw (← same) (record { occurred = made; orderly = orderly })

pub sound-state : (run : Run) (S : State) → IsWholeRun run → IsMadeState run S → IsOrderly S → IsSound run S.world (inside S)
sound-state run S whole made orderly =
    record {
      whole = whole;
      threads = made.threads;
      made = made.world;
      orderly = orderly.world;
      events = λ t event is. sound-pending S.world t (pending_at S t) event (made.pending t) (orderly.pending t) is;
    }

-- at the start
pub sound-first : (run : Run) → IsWholeRun run → IsSound run (first_world run) (inside (first run))
sound-first run whole = sound-state run (first run) whole (first-made run whole.some) (orderly-after run [] whole.some)

first-codes : (run : Run) → IsWholeRun run → (k : ℕ) → IsOrderlyCode (task_at (first_world run) k).code
first-codes run whole zero = blank-orderly
first-codes run whole (suc zero) = main-orderly run.program whole.returns
first-codes run whole (suc (suc k)) = blank-orderly

first-courses : (run : Run) (k : ℕ) → (pooled_at (first_world run) k).kind ≡ kind.Implicit → k < 2 → HasCourse (task_at (first_world run) k).code
first-courses run zero is below = blank-course
first-courses run (suc zero) is below = cc
first-courses run (suc (suc k)) is below = absurd (omega arith)

pub codes-first : (run : Run) → IsWholeRun run → AreCodes (first_world run)
codes-first run whole = record { none = refl; orderly = first-codes run whole; course = first-courses run }

-- after a Back
pub kind-if : (b : Bool) (task : PoolTask) (now : Condition) → (if b then come_to task now else task).kind ≡ task.kind
kind-if true task now = refl
kind-if false task now = refl

pub kind-back : (W : World) (e : Event) (k : ℕ) → (pooled_back W e k).kind ≡ (pooled_at W k).kind
kind-back W (TaskCreate task true codeptr) k = refl
kind-back W (TaskCreate task false codeptr) k = kind-if (k == task) (pooled_at W k) _
kind-back W (TaskEnd task) k = kind-if (k == task) (pooled_at W k) _
kind-back W other k = refl

pub codes-back : (W after : World) (t : ℕ) (e : Event) → Returns W after t e → AreCodes W → AreCodes after
codes-back W after t e returns codes =
    record {
      none = rw (returns.code 0) codes.none;
      orderly = λ k. rw (returns.code k) (codes.orderly k);
      course = λ k is below. rw (returns.code k)
          (codes.course k (sym (ap (λ (x : PoolTask). x.kind) (returns.pooled k) ∙ kind-back W e k) ∙ is) (omega (arith, below, returns.tasks)));
    }
