-- What is so of a world in which a thread has come to an event: how far the thread has come, and what the event's gate and its expressions have told.
use Rattle.std.specs.Prelude.{ℕ, ◌≡◌, ◌≤◌, ◌≢◌, ◌⊎◌, true, false, length, [], Option, Some, None}
use Rattle.c_model.specs.declared.point.MutexKind.{MutexKind}
use Rattle.c_model.specs.declared.point.SyncKind.{SyncKind}
use Rattle.c_model.specs.declared.point.SyncStage.{SyncStage}
use Rattle.c_model.specs.declared.point.SyncStage.TheVariants as stage
use Rattle.task_pool.specs.declared.task.Condition.TheVariants as condition
use Rattle.task_pool.specs.declared.task.TaskKind.TheVariants as kind
use Rattle.sync_objects.specs.declared.lock.Lock.{Lock}
use Rattle.sync_objects.specs.Owners.{look_up}
use Rattle.omp_model.specs.declared.limits.TheConstants.{INITIAL_TASK}
use Rattle.omp_model.specs.declared.parts.ThreadStage.TheVariants as thread_stage
use Rattle.omp_model.specs.declared.event.Endpoint.TheVariants.{Begin}
use Rattle.omp_model.specs.declared.event.Event.{Event}
use Rattle.omp_model.specs.declared.event.Event.TheVariants.{Dispatch, InitialTaskBegin, InitialTaskEnd, LockDestroy, LockInit, MemberBegin, MemberEnd, MutexAcquired, MutexReleased, ParallelBegin, ParallelEnd, Sync, TaskBegin, TaskCreate, TaskEnd, ThreadBegin, ThreadEnd, Work}
use Rattle.omp_model.specs.State.{World, pooled_at, task_at, thread_at}
use Rattle.omp_model.specs.Members.{current, current_region, is_explicit_task, region_of}
use Rattle.omp_model.specs.Gates.{all_left, has_no_tasks, is_barrier, may_end, workers_over}
use Rattle.omp_model.proofs.Arrivals.{ComesToDispatch, ComesToThreadEnd, IsInTask, IsQuiet}
use Rattle.nested_runs.proofs.Shown.{opens_at}
use Rattle.nested_runs.proofs.Standing.{is_behind, stand_at}
use Rattle.nested_runs.proofs.Standing.Stand.{Free, AtFork, AtMutex}
use Rattle.nested_runs.proofs.Effects.{EndsNewest, effect_of_event, is_in_region_barrier, stand_before}

-- ---- beside all code

pub record ComesToInitial (W : World) (t : ℕ) : Type 0 where
  pub quiet : IsQuiet W t
  pub zeroth : t ≡ 0
  pub none : current W t ≡ 0
  pub made : (pooled_at W INITIAL_TASK).condition ≡ condition.Made

pub record ComesToInitialEnd (W : World) (t : ℕ) : Type 0 where
  pub within : IsInTask W t
  pub task : current W t ≡ INITIAL_TASK
  pub closed : opens_at W INITIAL_TASK ≡ []
  pub tasks : has_no_tasks W (current_region W t) ≡ true
  pub workers : workers_over W ≡ true

pub record ComesToMember (W : World) (t r k : ℕ) : Type 0 where
  pub stage : (thread_at W t).stage ≡ thread_stage.Begun
  pub region : (thread_at W t).invited ≡ r
  pub some : 1 ≤ r
  pub task : k ≡ length W.tasks

pub record ComesToMemberEnd (W : World) (t r k : ℕ) : Type 0 where
  pub within : IsInTask W t
  pub task : k ≡ current W t
  pub region : r ≡ region_of W k
  pub kind : (pooled_at W k).kind ≡ kind.Implicit
  pub closed : opens_at W k ≡ []
  pub stand : stand_at W k ≡ Free
  pub behind : is_behind (task_at W k).code ≡ true

-- a task is started that is ready, in a wait or behind main; or an undeferred one
pub record PicksTask (W : World) (t k : ℕ) : Type 0 where
  pub within : IsInTask W t
  pub ready : (pooled_at W k).condition ≡ condition.Ready
  pub region : region_of W k ≡ current_region W t
  pub apart : stand_at W (current W t) ≢ AtFork
  pub unasked : (which : MutexKind) (id : ℕ) → stand_at W (current W t) ≢ AtMutex which id

pub record PicksUndeferred (W : World) (t k : ℕ) : Type 0 where
  pub task : (thread_at W t).undeferred ≡ k
  pub invited : (thread_at W t).invited ≡ 0

pub record ComesToTask (W : World) (t prior k : ℕ) : Type 0 where
  pub stage : (thread_at W t).stage ≡ thread_stage.Begun
  pub before : prior ≡ current W t
  pub some : 1 ≤ k
  pub picks : PicksTask W t k ⊎ PicksUndeferred W t k

pub record ComesToTaskEnd (W : World) (t k : ℕ) : Type 0 where
  pub within : IsInTask W t
  pub task : k ≡ current W t
  pub explicit : is_explicit_task W k ≡ true
  pub closed : opens_at W k ≡ []
  pub stand : stand_at W k ≡ Free

-- ---- events of the code

-- an event of the code stands where its kind does, and ends what is the newest. A member's code is behind at the events of its region's barrier but for
-- the first, and at no others
pub record ComesInCode (W : World) (t : ℕ) (event : Event) : Type 0 where
  pub within : IsInTask W t
  pub stand : stand_at W (current W t) ≡ stand_before event
  pub ends : EndsNewest (effect_of_event event) (opens_at W (current W t))
  pub course : (pooled_at W (current W t)).kind ≡ kind.Implicit → is_behind (task_at W (current W t)).code ≡ is_in_region_barrier event

pub record ForksRegion (W : World) (r requested : ℕ) : Type 0 where
  pub region : r ≡ length W.regions
  pub some : 1 ≤ requested

pub record EndsRegion (W : World) (t r : ℕ) : Type 0 where
  pub region : r ≡ (task_at W (current W t)).forked
  pub left : all_left W r ≡ true

-- a construct that members meet isn't one of an explicit task
abbrev pub IsPlain : World → ℕ → Type 0
IsPlain W t = is_explicit_task W (current W t) ≡ false

-- a lock that is there, with this owner
pub record HasLock (W : World) (id : ℕ) (owner : Option ℕ) : Type 0 where
  pub lock : Lock
  pub found : look_up W.locks.locks id ≡ Some lock
  pub owner_is : lock.owner ≡ owner

abbrev pub SyncsAt : World → ℕ → SyncKind → SyncStage → Type 0
SyncsAt W t which stage.RegionBegin = is_barrier which ≡ true → IsPlain W t
SyncsAt W t which stage.WaitEnd = may_end W t which ≡ true
SyncsAt W t which other = Unit {0}

abbrev pub Tells : World → ℕ → Event → Type 0
Tells W t (ParallelBegin r requested codeptr) = ForksRegion W r requested
Tells W t (ParallelEnd r codeptr) = EndsRegion W t r
Tells W t (TaskCreate task undeferred codeptr) = task ≡ length W.tasks
Tells W t (Work Begin which count codeptr) = IsPlain W t
Tells W t (Sync which at codeptr) = SyncsAt W t which at
Tells W t (MutexAcquired which id codeptr) = HasLock W id None
Tells W t (MutexReleased which id codeptr) = HasLock W id (Some (current W t))
Tells W t (LockInit id codeptr) = look_up W.locks.locks id ≡ None
Tells W t (LockDestroy id codeptr) = HasLock W id None
Tells W t other = Unit {0}

-- ---- all

abbrev pub Comes : World → ℕ → Event → Type 0
Comes W t ThreadBegin = (thread_at W t).stage ≡ thread_stage.Made
Comes W t ThreadEnd = ComesToThreadEnd W t
Comes W t InitialTaskBegin = ComesToInitial W t
Comes W t InitialTaskEnd = ComesToInitialEnd W t
Comes W t (MemberBegin r k) = ComesToMember W t r k
Comes W t (MemberEnd r k) = ComesToMemberEnd W t r k
Comes W t (TaskBegin prior task) = ComesToTask W t prior task
Comes W t (TaskEnd task) = ComesToTaskEnd W t task
Comes W t (Dispatch share) = ComesToDispatch W t share
Comes W t other = ComesInCode W t other × Tells W t other
