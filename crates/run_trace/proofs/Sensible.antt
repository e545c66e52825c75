-- What the laws need of the events of runs beside their words.
use Rattle.std.specs.Prelude.{◌≡◌, ◌≢◌, ◌≤◌, ◌⊎◌, ⊤}
use Rattle.c_model.specs.declared.point.MutexKind.TheVariants as mutex
use Rattle.task_pool.specs.declared.task.TaskKind.TheVariants as kind
use Rattle.omp_model.specs.declared.event.Event.{Event}
use Rattle.omp_model.specs.declared.event.Event.TheVariants.{Dispatch, MutexReleased, TaskCreate}
use Rattle.omp_model.specs.declared.event.Halt.{Halt}
use Rattle.omp_model.specs.declared.event.Halt.TheVariants.{Limit, Trap}
use Rattle.omp_model.proofs.Alike.{IsSomeShare}
use Rattle.omp_model.specs.State.{World, pooled_at}
use Rattle.omp_model.specs.Words.{null_word, region_word, task_word}

-- the words of no region and no task have no value
pub record HasNulls (W : World) : Type 0 where
  pub region : region_word W 0 ≡ null_word
  pub task : task_word W 0 ≡ null_word

-- a chunk that is told has an iteration, what is released is no test of a lock, and what is created is an explicit task
abbrev pub IsSensible : World → Event → Type 0
IsSensible W (Dispatch share) = IsSomeShare share
IsSensible W (MutexReleased which wait_id codeptr) = which ≢ mutex.TestLock
IsSensible W (TaskCreate task undeferred codeptr) = ((pooled_at W task).kind ≡ kind.Explicit) ⊎ ((pooled_at W task).kind ≡ kind.Undeferred)
IsSensible W other = ⊤

-- traps have the numbers 1 to 10, and limits 1 to 7
abbrev pub IsKnownHalt : Halt → Type 0
IsKnownHalt (Trap number) = (1 ≤ number) × (number ≤ 10)
IsKnownHalt (Limit number) = (1 ≤ number) × (number ≤ 7)
