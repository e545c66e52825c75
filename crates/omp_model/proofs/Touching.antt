-- What of the world the Go of an event changes, and its Back, told by the event, beside the code of tasks. Proofs stand on it.
use Rattle.std.specs.Prelude.{ℕ, ◌≡◌, ◌+◌, ◌==◌, ◌&&◌, nat_lt, Bool, true, false, if◌then◌else◌, List, ◌∷◌, drop, length, slice_set, Some, None, Ok}
use Rattle.c_model.specs.declared.point.SyncKind.{SyncKind}
use Rattle.c_model.specs.declared.point.SyncStage.{SyncStage}
use Rattle.c_model.specs.declared.point.SyncStage.TheVariants as stage
use Rattle.task_pool.specs.declared.task.Condition.{Condition}
use Rattle.task_pool.specs.declared.task.Condition.TheVariants as condition
use Rattle.task_pool.specs.declared.task.Task.{Task as PoolTask}
use Rattle.task_pool.specs.declared.task.TaskKind.TheVariants as kind
use Rattle.task_pool.specs.View.{fresh_task}
use Rattle.team_parts.specs.declared.meeting.Meeting.{Meeting}
use Rattle.team_parts.specs.Meetings.{is_barrier as meets_at_barrier}
use Rattle.team_parts.specs.Team.{TeamView, after_meeting, with_begun, with_passed}
use Rattle.sync_objects.specs.declared.lock.Lock.{Lock}
use Rattle.sync_objects.specs.Owners.{free_lock, in_order, with_owner, without}
use Rattle.omp_model.specs.declared.limits.TheConstants.{IMPLICIT_REGION, INITIAL_TASK}
use Rattle.omp_model.specs.declared.parts.RegionHead.{RegionHead}
use Rattle.omp_model.specs.declared.parts.ThreadStage.TheVariants as thread_stage
use Rattle.omp_model.specs.declared.event.Endpoint.TheVariants.{Begin}
use Rattle.omp_model.specs.declared.event.Event.{Event}
use Rattle.omp_model.specs.declared.event.Event.TheVariants.{Dispatch, InitialTaskBegin, InitialTaskEnd, LockDestroy, LockInit, MemberBegin, MemberEnd, MutexAcquired, MutexReleased, ParallelBegin, ParallelEnd, Sync, TaskBegin, TaskCreate, TaskEnd, ThreadBegin, ThreadEnd, Work}
use Rattle.omp_model.specs.State.{Thread, World, fresh_head, fresh_team, pooled_at, region_at, task_at, thread_at}
use Rattle.omp_model.specs.Members.{current, current_index, current_region, is_outermost, member_index}
use Rattle.omp_model.specs.Gates.{is_barrier}
use Rattle.omp_model.specs.Changes.{with_invitation}
use Rattle.omp_model.specs.EventEffects.{barrier_met, kind_of_task, meeting_at, team_size}

-- an event of the code of the thread's current task, or one beside all code
abbrev pub is_of_code : Event → Bool
is_of_code ThreadBegin = false
is_of_code ThreadEnd = false
is_of_code InitialTaskBegin = false
is_of_code InitialTaskEnd = false
is_of_code (MemberBegin r k) = false
is_of_code (MemberEnd r k) = false
is_of_code (TaskBegin prior task) = false
is_of_code (TaskEnd task) = false
is_of_code (Dispatch share) = false
is_of_code other = true

-- ---- threads

abbrev pub started_on : Thread → ℕ → Thread
started_on thread k = record thread { stack = k ∷ thread.stack; invited = 0; undeferred = 0 }

abbrev pub ended_on : Thread → Thread
ended_on thread = record thread { stack = drop 1 thread.stack }

abbrev pub thread_after : Event → Thread → Thread
thread_after ThreadBegin thread = record thread { stage = thread_stage.Begun }
thread_after InitialTaskBegin thread = started_on thread INITIAL_TASK
thread_after InitialTaskEnd thread = ended_on thread
thread_after (MemberBegin r k) thread = started_on thread k
thread_after (MemberEnd r k) thread = ended_on thread
thread_after (TaskBegin prior task) thread = started_on thread task
thread_after (TaskEnd task) thread = ended_on thread
thread_after (Dispatch share) thread = record thread { taken = None }
thread_after other thread = thread

-- ---- tasks

-- how many tasks and regions there are
abbrev pub tasks_after : Event → ℕ → ℕ
tasks_after (MemberBegin r k) count = count + 1
tasks_after (TaskCreate task undeferred codeptr) count = count + 1
tasks_after other count = count

abbrev pub regions_after : Event → ℕ → ℕ
regions_after (ParallelBegin r requested codeptr) count = count + 1
regions_after other count = count

-- the thread that has taken a task up
abbrev pub owner_after : ℕ → Event → ℕ → ℕ → ℕ
owner_after t InitialTaskBegin k owner = if k == INITIAL_TASK then t else owner
owner_after t (MemberBegin r task) k owner = if k == task then t else owner
owner_after t (TaskBegin prior task) k owner = if k == task then t else owner
owner_after t other k owner = owner

-- the region that it has forked
abbrev pub forked_after : World → ℕ → Event → ℕ → ℕ → ℕ
forked_after W t (ParallelBegin r requested codeptr) k forked = if k == current W t then r else forked
forked_after W t other k forked = forked

-- what the pool has of it
abbrev pub come_to : PoolTask → Condition → PoolTask
come_to task now = record task { condition = now }

abbrev pub pooled_after : World → ℕ → Event → ℕ → PoolTask
pooled_after W t InitialTaskBegin k = if k == INITIAL_TASK then come_to (pooled_at W k) condition.Started else pooled_at W k
pooled_after W t InitialTaskEnd k = if k == INITIAL_TASK then come_to (pooled_at W k) condition.Finished else pooled_at W k
pooled_after W t (MemberBegin r task) k =
    if k == task then come_to (fresh_task (region_at W r).head.task r kind.Implicit) condition.Started else pooled_at W k
pooled_after W t (MemberEnd r task) k = if k == task then come_to (pooled_at W k) condition.Finished else pooled_at W k
pooled_after W t (TaskCreate task undeferred codeptr) k =
    if k == task then fresh_task (current W t) (current_region W t) (kind_of_task undeferred) else pooled_at W k
pooled_after W t (TaskBegin prior task) k = if k == task then come_to (pooled_at W k) condition.Started else pooled_at W k
pooled_after W t other k = pooled_at W k

-- ---- regions

abbrev pub joined_by : RegionHead → ℕ → ℕ → RegionHead
joined_by head index k = record head { members = slice_set head.members index k }

abbrev pub head_after : World → ℕ → Event → ℕ → RegionHead
head_after W t (ParallelBegin r requested codeptr) q =
    if q == r then fresh_head (current W t) (team_size W t requested) else (region_at W q).head
head_after W t (ParallelEnd r codeptr) q = if q == r then record (region_at W q).head { ended = true } else (region_at W q).head
head_after W t InitialTaskBegin q = if q == IMPLICIT_REGION then joined_by (region_at W q).head 0 INITIAL_TASK else (region_at W q).head
head_after W t (MemberBegin r k) q = if q == r then joined_by (region_at W q).head (member_index W t r) k else (region_at W q).head
head_after W t other q = (region_at W q).head

-- a member has met this, which was new to the team or the same that the others met
pub record Meets (W after : World) (t q : ℕ) (what : Meeting) : Type 0 where
  pub first : Bool
  pub answer : meeting_at W t what ≡ Ok first
  pub team : (region_at after q).team
      ≡ (if q == current_region W t then after_meeting (region_at W q).team (current_index W t) what else (region_at W q).team)

pub record MeetsWork (W after : World) (t q : ℕ) : Type 0 where
  pub what : Meeting
  pub work : meets_at_barrier what ≡ false
  pub meets : Meets W after t q what

abbrev pub SameTeam : World → World → ℕ → Type 0
SameTeam W after q = (region_at after q).team ≡ (region_at W q).team

-- at a barrier the one is so, and else the other
abbrev pub AtBarrierElse : Bool → Type 0 → Type 0 → Type 0
AtBarrierElse true P Q = P
AtBarrierElse false P Q = Q

abbrev pub TeamAtSync : World → World → ℕ → ℕ → SyncKind → SyncStage → ℕ → Type 0
TeamAtSync W after t q which stage.RegionBegin codeptr =
    AtBarrierElse (is_barrier which) (Meets W after t q (barrier_met codeptr which)) (SameTeam W after q)
TeamAtSync W after t q which stage.WaitEnd codeptr =
    (region_at after q).team
    ≡ (if is_barrier which then (if q == current_region W t then with_passed (region_at W q).team (current_index W t) else (region_at W q).team)
    else (region_at W q).team)
TeamAtSync W after t q which other codeptr = SameTeam W after q

abbrev pub TeamAfter : World → World → ℕ → Event → ℕ → Type 0
TeamAfter W after t (ParallelBegin r requested codeptr) q =
    (region_at after q).team ≡ (if q == r then fresh_team (team_size W t requested) else (region_at W q).team)
TeamAfter W after t (Work Begin which count codeptr) q = MeetsWork W after t q
TeamAfter W after t (Sync which at codeptr) q = TeamAtSync W after t q which at codeptr
TeamAfter W after t other q = SameTeam W after q

-- ---- locks

abbrev pub locks_after : World → ℕ → Event → List Lock → List Lock
locks_after W t (MutexAcquired which id codeptr) locks = with_owner locks id (Some (current W t))
locks_after W t (MutexReleased which id codeptr) locks = with_owner locks id None
locks_after W t (LockInit id codeptr) locks = in_order locks (free_lock id)
locks_after W t (LockDestroy id codeptr) locks = without locks id
locks_after W t other locks = locks

-- ---- the Go of an event

pub record TouchesWorld (W after : World) (t : ℕ) (event : Event) : Type 0 where
  -- threads
  pub own : thread_at after t ≡ thread_after event (thread_at W t)
  pub others : (u : ℕ) → (u ≡ t → ⊥) → thread_at after u ≡ thread_at W u
  pub threads : length after.threads ≡ length W.threads
  -- tasks
  pub tasks : length after.tasks ≡ tasks_after event (length W.tasks)
  pub owner : (k : ℕ) → (task_at after k).thread ≡ owner_after t event k (task_at W k).thread
  pub forked : (k : ℕ) → (task_at after k).forked ≡ forked_after W t event k (task_at W k).forked
  pub pooled : (k : ℕ) → pooled_at after k ≡ pooled_after W t event k
  -- regions
  pub regions : length after.regions ≡ regions_after event (length W.regions)
  pub head : (q : ℕ) → (region_at after q).head ≡ head_after W t event q
  pub team : (q : ℕ) → TeamAfter W after t event q
  -- locks
  pub locks : after.locks.locks ≡ locks_after W t event W.locks.locks

-- ---- the Back of an event

-- the threads that are to join a region: the first ones, or the encountering one
abbrev pub is_summoned : World → ℕ → ℕ → ℕ → Bool
is_summoned W t r u = if is_outermost W r then nat_lt u (region_at W r).head.size else u == t

abbrev pub thread_back : World → ℕ → Event → ℕ → Thread
thread_back W t ThreadEnd u = if u == t then record (thread_at W u) { stage = thread_stage.Ended } else thread_at W u
thread_back W t (ParallelBegin r requested codeptr) u = if is_summoned W t r u then with_invitation r (thread_at W u) else thread_at W u
thread_back W t (TaskCreate task true codeptr) u = if u == t then record (thread_at W u) { undeferred = task } else thread_at W u
thread_back W t other u = thread_at W u

abbrev pub forked_back : World → ℕ → Event → ℕ → ℕ
forked_back W t (ParallelEnd r codeptr) k = if k == current W t then 0 else (task_at W k).forked
forked_back W t other k = (task_at W k).forked

abbrev pub pooled_back : World → Event → ℕ → PoolTask
pooled_back W (TaskCreate task false codeptr) k = if k == task then come_to (pooled_at W k) condition.Ready else pooled_at W k
pooled_back W (TaskEnd task) k = if k == task then come_to (pooled_at W k) condition.Finished else pooled_at W k
pooled_back W other k = pooled_at W k

abbrev pub head_back : World → ℕ → Event → ℕ → RegionHead
head_back W t (MemberEnd r k) q =
    if q == r then record (region_at W q).head { left = slice_set (region_at W q).head.left (member_index W t r) true } else (region_at W q).head
head_back W t other q = (region_at W q).head

abbrev pub team_back : World → ℕ → Event → ℕ → TeamView
team_back W t (Sync which stage.WaitBegin codeptr) q =
    if is_barrier which && q == current_region W t then with_begun (region_at W q).team (current_index W t) else (region_at W q).team
team_back W t other q = (region_at W q).team

pub record Returns (W after : World) (t : ℕ) (event : Event) : Type 0 where
  pub thread : (u : ℕ) → thread_at after u ≡ thread_back W t event u
  pub threads : length after.threads ≡ length W.threads
  pub tasks : length after.tasks ≡ length W.tasks
  pub owner : (k : ℕ) → (task_at after k).thread ≡ (task_at W k).thread
  pub forked : (k : ℕ) → (task_at after k).forked ≡ forked_back W t event k
  pub pooled : (k : ℕ) → pooled_at after k ≡ pooled_back W event k
  pub code : (k : ℕ) → (task_at after k).code ≡ (task_at W k).code
  pub regions : length after.regions ≡ length W.regions
  pub head : (q : ℕ) → (region_at after q).head ≡ head_back W t event q
  pub team : (q : ℕ) → (region_at after q).team ≡ team_back W t event q
  pub locks : after.locks ≡ W.locks
