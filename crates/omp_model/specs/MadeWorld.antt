-- What is made: each task and region that a state names was made, and a thread stands only in regions of which it is a member.
use Rattle.std.specs.Prelude.{◌≡◌, ℕ, ◌+◌, ◌<◌, ◌≤◌, true, All, Option, Some, None, length}
use Rattle.team_parts.specs.declared.meeting.TheConstants.{TEAM_LIMIT}
use Rattle.omp_model.specs.declared.limits.TheConstants.{IMPLICIT_REGION, INITIAL_TASK}
use Rattle.omp_model.specs.declared.event.Callback.{Callback}
use Rattle.omp_model.specs.declared.event.Event.{Event}
use Rattle.omp_model.specs.declared.event.Event.TheVariants.{MemberBegin, MemberEnd, ParallelBegin, ParallelEnd, TaskBegin, TaskCreate, TaskEnd}
use Rattle.omp_model.specs.State.{Run, Region, State, Thread, World, pending_at, region_at, task_at, thread_at}
use Rattle.omp_model.specs.Members.{member_index, region_of}
use Rattle.omp_model.specs.Words.{is_made_thread}

-- one of so many, of which 0 stands for none
pub record IsIdentity (identity count : ℕ) : Type 0 where
  pub some : 1 ≤ identity
  pub below : identity < count

-- a task, a region and a thread that was made
abbrev pub IsTask : World → ℕ → Type 0
IsTask W k = IsIdentity k (length W.tasks)

abbrev pub IsRegion : World → ℕ → Type 0
IsRegion W r = IsIdentity r (length W.regions)

abbrev pub IsThread : World → ℕ → Type 0
IsThread W t = is_made_thread (thread_at W t).stage ≡ true

-- a region that was made and that a task has forked: any but the implicit one
pub record IsForkedRegion (W : World) (r : ℕ) : Type 0 where
  pub made : IsRegion W r
  pub forked : 2 ≤ r

-- a region that was made, and the thread has its number in the region's team
pub record IsRegionOf (W : World) (t r : ℕ) : Type 0 where
  pub made : IsRegion W r
  pub member : member_index W t r < length (region_at W r).team.members

-- a task that was made, in such a region
pub record IsTaskOf (W : World) (t k : ℕ) : Type 0 where
  pub made : IsTask W k
  pub within : IsRegionOf W t (region_of W k)

-- what a thread names: the tasks that it has taken up, the region that it is to join, which was forked, and the undeferred task that it is to start,
-- where there is one
pub record MadeThread (W : World) (t : ℕ) (thread : Thread) : Type 0 where
  pub stacked : All (IsTaskOf W t) thread.stack
  pub joins : 1 ≤ thread.invited → IsRegionOf W t thread.invited
  pub forks : 1 ≤ thread.invited → 2 ≤ thread.invited
  pub starts : 1 ≤ thread.undeferred → IsTaskOf W t thread.undeferred

-- a region among so many tasks and threads: its encountering task is 0 or one of them, and its team has members, no more than there are threads
pub record MadeRegion (tasks threads : ℕ) (region : Region) : Type 0 where
  pub task : region.head.task < tasks
  pub team : length region.team.members ≡ region.head.size
  pub some : 1 ≤ region.head.size
  pub fits : region.head.size ≤ threads

-- a team has from one member to sixteen, as many as its region says
pub record IsTeam (region : Region) : Type 0 where
  pub members : length region.team.members ≡ region.head.size
  pub some : 1 ≤ region.head.size
  pub fits : region.head.size ≤ TEAM_LIMIT

-- The pool's tasks are the machine's, and the initial task and its region are there. Threads, tasks and regions name what was made; the first region
-- has no encountering task, and each other one has one; each task in the ready order was made.
pub record IsMadeWorld (W : World) : Type 0 where
  pub pooled : length W.tasks ≡ length W.pool.tasks + 1
  pub initial : IsTask W INITIAL_TASK
  pub implicit : IsRegion W IMPLICIT_REGION
  pub threads : (t : ℕ) → MadeThread W t (thread_at W t)
  pub forked : (k : ℕ) → (task_at W k).forked < length W.regions
  pub placed : (k : ℕ) → IsTask W k → IsRegion W (region_of W k)
  pub regions : (r : ℕ) → IsRegion W r → MadeRegion (length W.tasks) (length W.threads) (region_at W r)
  pub unencountered : (region_at W IMPLICIT_REGION).head.task ≡ 0
  pub encountered : (r : ℕ) → 2 ≤ r → r < length W.regions → 1 ≤ (region_at W r).head.task
  pub ready : All (IsTask W) W.pool.ready

-- a region and a task
pub record MadeMember (W : World) (r k : ℕ) : Type 0 where
  pub region : IsRegion W r
  pub task : IsTask W k

-- a task that the thread begins, and its task before that, or 0
pub record MadeSwitch (W : World) (prior k : ℕ) : Type 0 where
  pub before : prior < length W.tasks
  pub task : IsTask W k

-- what an event names; the region that is over may be 0
abbrev pub MadeEvent : World → ℕ → Event → Type 0
MadeEvent W t (ParallelBegin r requested codeptr) = IsForkedRegion W r
MadeEvent W t (ParallelEnd r codeptr) = r < length W.regions
MadeEvent W t (MemberBegin r k) = MadeMember W r k
MadeEvent W t (MemberEnd r k) = MadeMember W r k
MadeEvent W t (TaskCreate task undeferred codeptr) = IsTaskOf W t task
MadeEvent W t (TaskBegin prior task) = MadeSwitch W prior task
MadeEvent W t (TaskEnd task) = IsTask W task
MadeEvent W t other = Unit {0}

-- an event that has occurred on a thread: the thread was made, and so was what the event names
pub record HasOccurred (W : World) (t : ℕ) (event : Event) : Type 0 where
  pub thread : IsThread W t
  pub named : MadeEvent W t event

-- the callback that a thread is inside, if it is inside one
abbrev pub MadePending : World → ℕ → Option Callback → Type 0
MadePending W t None = Unit {0}
MadePending W t (Some callback) = HasOccurred W t callback.event

-- there are as many threads as the run has, with a place for the callback of each, and all that is named was made
pub record IsMadeState (run : Run) (S : State) : Type 0 where
  pub threads : length S.world.threads ≡ run.threads
  pub places : length S.pending ≡ run.threads
  pub world : IsMadeWorld S.world
  pub pending : (t : ℕ) → MadePending S.world t (pending_at S t)
