-- How far a thread has come that comes to a step or an event. Proofs stand on it.
use Rattle.std.specs.Prelude.{ℕ, ◌≡◌, ◌≤◌, ◌≢◌, true, Some, None}
use Rattle.task_pool.specs.declared.task.Condition.TheVariants as condition
use Rattle.omp_model.specs.declared.limits.TheConstants.{IMPLICIT_REGION, INITIAL_TASK}
use Rattle.omp_model.specs.declared.parts.ThreadStage.TheVariants as thread_stage
use Rattle.omp_model.specs.declared.event.Share.{Share}
use Rattle.omp_model.specs.State.{World, pooled_at, thread_at}
use Rattle.omp_model.specs.Members.{current}
use Rattle.omp_model.specs.Gates.{has_no_tasks, main_returned}

-- the thread has begun, and is to join no region and to start no undeferred task
pub record IsFree (W : World) (t : ℕ) : Type 0 where
  pub stage : (thread_at W t).stage ≡ thread_stage.Begun
  pub invited : (thread_at W t).invited ≡ 0
  pub undeferred : (thread_at W t).undeferred ≡ 0

-- .. and has no share of work to tell
pub record IsQuiet (W : World) (t : ℕ) : Type 0 where
  pub free : IsFree W t
  pub taken : (thread_at W t).taken ≡ None

-- .. and its current task has come to an event, or the end, of its code
pub record IsInTask (W : World) (t : ℕ) : Type 0 where
  pub quiet : IsQuiet W t
  pub some : 1 ≤ current W t

-- a worker ends where main has returned, and thread 0 behind the initial task
pub record MainIsOver (W : World) : Type 0 where
  pub returned : main_returned W ≡ true
  pub tasks : has_no_tasks W IMPLICIT_REGION ≡ true

pub record ComesToThreadEnd (W : World) (t : ℕ) : Type 0 where
  pub quiet : IsQuiet W t
  pub none : current W t ≡ 0
  pub first : t ≡ 0 → (pooled_at W INITIAL_TASK).condition ≡ condition.Finished
  pub worker : t ≢ 0 → MainIsOver W

-- a share of work that was taken is told
pub record ComesToDispatch (W : World) (t : ℕ) (share : Share) : Type 0 where
  pub free : IsFree W t
  pub taken : (thread_at W t).taken ≡ Some share
