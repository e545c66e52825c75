-- What the call of an event tells, read off the event.
use Rattle.std.specs.Prelude.{ℕ, ◌==◌, if◌then◌else◌, Option, Some, None}
use Rattle.c_model.specs.declared.point.SyncKind.{SyncKind}
use Rattle.c_model.specs.declared.point.SyncStage.{SyncStage}
use Rattle.c_model.specs.declared.point.SyncStage.TheVariants as stage
use Rattle.omp_model.specs.declared.limits.TheConstants.{INITIAL_TASK}
use Rattle.omp_model.specs.declared.event.Endpoint.TheVariants.{Begin, End}
use Rattle.omp_model.specs.declared.event.Event.{Event}
use Rattle.omp_model.specs.declared.event.Event.TheVariants.{InitialTaskBegin, InitialTaskEnd, Masked, MemberBegin, MemberEnd, MutexAcquired, MutexReleased, ParallelBegin, ParallelEnd, Sync, TaskBegin, TaskCreate, TaskEnd, Work}
use Rattle.omp_model.specs.State.{World, region_at}
use Rattle.omp_model.specs.Members.{current, current_region, member_index}
use Rattle.omp_model.specs.Gates.{is_barrier}
use Rattle.omp_model.specs.EventEffects.{sync_number}
use Rattle.omp_model.specs.Calls.{work_number}
use Rattle.trace_check.specs.declared.bracket.Bracket.TheVariants.{Parallel, Implicit, Explicit, Worksharing, Masking, Syncing, Waiting}
use Rattle.trace_check.specs.declared.change.Change.{Change}
use Rattle.trace_check.specs.declared.change.Change.TheVariants.{Opens, Closes, Stays}
use Rattle.trace_check.specs.Before.{Creation, Join}

-- what it does to the brackets of its thread, in the world after the Go
abbrev pub change_at : ℕ → SyncKind → SyncStage → Change
change_at k which stage.RegionBegin = Opens (Syncing k (sync_number which))
change_at k which stage.WaitBegin = Opens (Waiting k (sync_number which))
change_at k which stage.WaitEnd = Closes (Waiting k (sync_number which))
change_at k which stage.RegionEnd = Closes (Syncing k (sync_number which))

abbrev pub change_by : World → ℕ → Event → Change
change_by W t InitialTaskBegin = Opens (Implicit INITIAL_TASK)
change_by W t InitialTaskEnd = Closes (Implicit INITIAL_TASK)
change_by W t (ParallelBegin r requested codeptr) = Opens (Parallel r)
change_by W t (ParallelEnd r codeptr) = Closes (Parallel r)
change_by W t (MemberBegin r k) = Opens (Implicit k)
change_by W t (MemberEnd r k) = Closes (Implicit k)
change_by W t (TaskBegin prior task) = Opens (Explicit prior task)
change_by W t (TaskEnd task) = Closes (Explicit (current W t) task)
change_by W t (Work Begin which count codeptr) = Opens (Worksharing (current_region W t) (current W t) (work_number which) count)
change_by W t (Work End which count codeptr) = Closes (Worksharing (current_region W t) (current W t) (work_number which) count)
change_by W t (Masked Begin codeptr) = Opens (Masking (current W t))
change_by W t (Masked End codeptr) = Closes (Masking (current W t))
change_by W t (Sync which at codeptr) = change_at (current W t) which at
change_by W t other = Stays

-- the region that begins, and the one that ends
abbrev pub begun_by : Event → Option ℕ
begun_by (ParallelBegin r requested codeptr) = Some r
begun_by other = None

abbrev pub ended_by : Event → Option ℕ
ended_by (ParallelEnd r codeptr) = Some r
ended_by other = None

-- the member that begins, and the implicit task that ends
abbrev pub joined_by : World → ℕ → Event → Option Join
joined_by W t (MemberBegin r k) = Some (record { region = r; task = k; actual = (region_at W r).head.size; index = member_index W t r })
joined_by W t other = None

abbrev pub left_by : Event → Option ℕ
left_by InitialTaskEnd = Some INITIAL_TASK
left_by (MemberEnd r k) = Some k
left_by other = None

-- the task that begins to wait at a barrier
abbrev pub waiting_by : World → ℕ → Event → Option ℕ
waiting_by W t (Sync which stage.WaitBegin codeptr) = if is_barrier which then Some (current W t) else None
waiting_by W t other = None

-- the identities that are made
abbrev pub region_by : Event → ℕ
region_by (ParallelBegin r requested codeptr) = r
region_by other = 0

abbrev pub task_by : Event → ℕ
task_by (MemberBegin r k) = k
task_by (TaskCreate task undeferred codeptr) = task
task_by other = 0

-- created tasks
abbrev pub created_by : World → ℕ → Event → Option Creation
created_by W t (TaskCreate task undeferred codeptr) = Some (record { creator = current W t; task = task })
created_by W t other = None

abbrev pub started_by : Event → Option ℕ
started_by (TaskBegin prior task) = Some task
started_by other = None

abbrev pub completed_by : Event → Option ℕ
completed_by (TaskEnd task) = Some task
completed_by other = None

-- the thread that holds a wait identifier
abbrev pub held_by : ℕ → ℕ → Event → Option ℕ → Option ℕ
held_by id t (MutexAcquired which wait_id codeptr) before = if wait_id == id then Some t else before
held_by id t (MutexReleased which wait_id codeptr) before = if wait_id == id then None else before
held_by id t other before = before
