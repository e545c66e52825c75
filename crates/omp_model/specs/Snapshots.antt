-- What a tool can inquire during the callback of an event: the state right after the event's Go. OpenMP 5.2 has the inquiries in 19.6.1, and the
-- states of threads in 19.4.4. The levels of a worker are this machine's.
use Rattle.std.specs.Prelude.{ℕ, ◌==◌, ◌-◌, if◌then◌else◌, List, [], ◌∷◌, ◌++◌, Option, Some, None, length, slice_index_or}
use Rattle.c_model.specs.declared.point.MutexKind.{MutexKind}
use Rattle.c_model.specs.declared.point.MutexKind.TheVariants as mutex
use Rattle.c_model.specs.declared.point.SyncKind.{SyncKind}
use Rattle.c_model.specs.declared.point.SyncKind.TheVariants as sync
use Rattle.c_model.specs.declared.point.SyncStage.{SyncStage}
use Rattle.c_model.specs.declared.point.SyncStage.TheVariants as stage
use Rattle.c_model.specs.Task.{Item}
use Rattle.c_model.specs.Task.Item.{Sync as SyncItem}
use Rattle.omp_codes.specs.declared.states.TheConstants as thread_state
use Rattle.omp_codes.specs.declared.task_flags.TheConstants as task_flag
use Rattle.task_pool.specs.declared.task.TaskKind.{TaskKind}
use Rattle.task_pool.specs.declared.task.TaskKind.TheVariants as kind
use Rattle.ompt_calls.specs.declared.snapshot.Snapshot.{Snapshot}
use Rattle.ompt_calls.specs.declared.snapshot.TaskLevel.{TaskLevel}
use Rattle.ompt_calls.specs.declared.snapshot.RegionLevel.{RegionLevel}
use Rattle.ompt_calls.specs.declared.snapshot.Target.{Target}
use Rattle.ompt_calls.specs.declared.snapshot.Target.TheVariants as target
use Rattle.omp_model.specs.declared.limits.TheConstants.{INITIAL_TASK, IMPLICIT_REGION}
use Rattle.omp_model.specs.declared.event.Event.{Event}
use Rattle.omp_model.specs.declared.event.Event.TheVariants.{InitialTaskEnd, MemberEnd, MutexAcquire, ParallelBegin, ParallelEnd, Sync, TaskCreate, TaskEnd, ThreadBegin, ThreadEnd}
use Rattle.omp_model.specs.State.{World, pooled_at, region_at, task_at, thread_at}
use Rattle.omp_model.specs.Members.{current, current_region, is_outermost, member_index, region_of}
use Rattle.omp_model.specs.Words.{region_word, task_word, thread_word}
use Rattle.omp_model.specs.Frames.{frame_of}

-- a thread at work: in the implicit region of the initial task, or in a parallel region
abbrev pub work_state : World → ℕ → ℕ
work_state W t = if current_region W t == IMPLICIT_REGION then thread_state.WORK_SERIAL else thread_state.WORK_PARALLEL

-- a member that leaves its region: a worker is idle, unless the region is a nested one, and the initial thread is in the runtime
abbrev pub left_state : World → ℕ → ℕ → ℕ
left_state W t r = if t == 0 then thread_state.OVERHEAD else if is_outermost W r then thread_state.IDLE else thread_state.OVERHEAD

-- a wait
abbrev pub wait_state : SyncKind → ℕ
wait_state sync.Barrier = thread_state.WAIT_BARRIER_EXPLICIT
wait_state sync.Taskwait = thread_state.WAIT_TASKWAIT
wait_state sync.Worksharing = thread_state.WAIT_BARRIER_IMPLICIT_WORKSHARE
wait_state sync.Parallel = thread_state.WAIT_BARRIER_IMPLICIT_PARALLEL

abbrev pub sync_state : SyncKind → SyncStage → ℕ
sync_state which stage.WaitBegin = wait_state which
sync_state which other = thread_state.OVERHEAD

-- who asks for a lock or a critical may have to wait. A test doesn't wait
abbrev pub acquire_state : World → ℕ → MutexKind → ℕ
acquire_state W t mutex.Lock = thread_state.WAIT_LOCK
acquire_state W t mutex.TestLock = work_state W t
acquire_state W t mutex.Critical = thread_state.WAIT_CRITICAL

-- a thread that goes back to a task: to one in a wait, to the initial one after main has returned, or to work
abbrev pub resumed_state : World → ℕ → List Item → ℕ
resumed_state W t (SyncItem tree which stage.WaitEnd ∷ items) = wait_state which
resumed_state W t [] = if current W t == INITIAL_TASK then thread_state.OVERHEAD else work_state W t
resumed_state W t other = work_state W t

-- the `ompt_state_t` of a thread at its event; where nothing else is said, it is at work
unfoldable pub state_of : World → ℕ → Event → ℕ
state_of W t ThreadBegin = thread_state.OVERHEAD
state_of W t ThreadEnd = thread_state.OVERHEAD
state_of W t InitialTaskEnd = thread_state.OVERHEAD
state_of W t (ParallelBegin r requested codeptr) = thread_state.OVERHEAD
state_of W t (ParallelEnd r codeptr) = thread_state.OVERHEAD
state_of W t (MemberEnd r k) = left_state W t r
state_of W t (TaskEnd task) = resumed_state W t (task_at W (current W t)).code.todo
state_of W t (Sync which at codeptr) = sync_state which at
state_of W t (MutexAcquire which wait_id codeptr) = acquire_state W t which
state_of W t other = work_state W t

-- what the thread waits for, where it is in one of the two states of waiting for a lock or critical
abbrev pub awaited : MutexKind → ℕ → ℕ
awaited mutex.TestLock wait_id = 0
awaited other wait_id = wait_id

abbrev pub wait_id_of : Event → ℕ
wait_id_of (MutexAcquire which wait_id codeptr) = awaited which wait_id
wait_id_of other = 0

-- `ompt_task_flag_t`
abbrev pub task_flags : TaskKind → ℕ
task_flags kind.Initial = task_flag.INITIAL
task_flags kind.Implicit = task_flag.IMPLICIT
task_flags kind.Explicit = task_flag.EXPLICIT
task_flags kind.Undeferred = task_flag.EXPLICIT_UNDEFERRED

-- a task of thread u with so many below it, at an event of thread t
abbrev pub task_level : World → ℕ → Event → ℕ → ℕ → ℕ → TaskLevel
task_level W t event u k below =
    record {
      flags = task_flags (pooled_at W k).kind;
      word = task_word W k;
      frame = frame_of W t event u k below;
      region = region_word W (region_of W k);
      index = member_index W u (region_of W k);
    }

-- the tasks of thread u from one of its stack on down
unfoldable pub levels_from : World → ℕ → Event → ℕ → List ℕ → List TaskLevel
levels_from W t event u [] = []
levels_from W t event u (k ∷ below) = task_level W t event u k (length below) ∷ levels_from W t event u below

-- a stack from this task on down
unfoldable pub down_from : ℕ → List ℕ → List ℕ
down_from k [] = []
down_from k (task ∷ below) = if task == k then task ∷ below else down_from k below

-- beyond a stack whose lowest task isn't the initial one: the encountering task of that task's region, and the tasks below it on the stack of
-- thread 0
abbrev pub outer_tasks : World → ℕ → List ℕ
outer_tasks W lowest =
    if lowest == 0 then [] else if lowest == INITIAL_TASK then []
    else down_from (region_at W (region_of W lowest)).head.task (thread_at W 0).stack

abbrev pub lowest_of : List ℕ → ℕ
lowest_of stack = slice_index_or stack (length stack - 1) 0

-- the levels of tasks: those of the stack, from top to bottom, and those beyond
abbrev pub task_levels : World → ℕ → Event → List TaskLevel
task_levels W t event =
    levels_from W t event t (thread_at W t).stack ++ levels_from W t event 0 (outer_tasks W (lowest_of (thread_at W t).stack))

-- the regions of these levels after one with this identity, each once where it repeats directly
unfoldable pub regions_after : World → ℕ → List TaskLevel → List RegionLevel
regions_after W last [] = []
regions_after W last (level ∷ rest) =
    if level.region.identity == last then regions_after W last rest
    else record { word = level.region; team = (region_at W level.region.identity).head.size } ∷ regions_after W level.region.identity rest

-- the levels of regions. No region has the identity 0
abbrev pub region_levels : World → List TaskLevel → List RegionLevel
region_levels W levels = regions_after W 0 levels

-- what the event makes, into whose word its callback may store at once
abbrev pub fresh_of : Event → Option Target
fresh_of (ParallelBegin r requested codeptr) = Some (target.Parallel r)
fresh_of (TaskCreate task undeferred codeptr) = Some (target.Task task)
fresh_of other = None

-- the snapshot at an event of thread t, in the world after the Go
abbrev pub snap_of : World → ℕ → Event → Snapshot
snap_of W t event =
    let levels = task_levels W t event in
    record {
      thread = thread_word W t;
      state = state_of W t event;
      wait_id = wait_id_of event;
      tasks = levels;
      regions = region_levels W levels;
      fresh = fresh_of event;
    }
