-- What the events so far tell of the machine's state, part by part. A part is kept by itself: by each event, by each return, and by what is no event.
use Rattle.std.specs.Prelude.{ℕ, ◌≡◌, ◌≢◌, ◌<◌, ◌≤◌, ◌+◌, ◌==◌, ◌&&◌, ◌||◌, ◌⊎◌, not, nat_le, nat_lt, Bool, true, false, All, if◌then◌else◌, List, [], ◌∷◌, length, drop, take, count_by, slice_index_or, Option, Some, None}
use Rattle.std.specs.List.{list_any}
use Rattle.c_model.specs.declared.point.SyncKind.TheVariants as sync
use Rattle.c_model.specs.declared.point.SyncStage.TheVariants as stage
use Rattle.task_pool.specs.declared.task.Condition.TheVariants as condition
use Rattle.task_pool.specs.declared.task.TaskKind.TheVariants as kind
use Rattle.task_pool.specs.Tasks.{is_open}
use Rattle.team_parts.specs.declared.meeting.Meeting.{Meeting}
use Rattle.team_parts.specs.declared.meeting.Meeting.TheVariants as meeting
use Rattle.team_parts.specs.declared.meeting.TheConstants.{TEAM_LIMIT}
use Rattle.team_parts.specs.Meetings.{is_barrier as meets_at_barrier}
use Rattle.team_parts.specs.Team.{member_at}
use Rattle.sync_objects.specs.declared.lock.Lock.{Lock}
use Rattle.sync_objects.specs.Owners.{look_up}
use Rattle.ompt_calls.specs.declared.call.Call.{Call}
use Rattle.ompt_calls.specs.declared.event.EventRecord.{EventRecord}
use Rattle.omp_model.specs.declared.limits.TheConstants.{IMPLICIT_REGION, INITIAL_TASK}
use Rattle.omp_model.specs.declared.parts.ThreadStage.{ThreadStage}
use Rattle.omp_model.specs.declared.parts.ThreadStage.TheVariants as thread_stage
use Rattle.omp_model.specs.declared.event.Event.{Event}
use Rattle.omp_model.specs.declared.event.Event.TheVariants.{MemberEnd, ParallelBegin, ParallelEnd, Sync, TaskCreate, TaskEnd, ThreadBegin, ThreadEnd}
use Rattle.omp_model.specs.State.{World, pooled_at, region_at, task_at, thread_at}
use Rattle.omp_model.specs.Members.{current, current_region, is_explicit_task, is_outermost, member_index, region_of}
use Rattle.omp_model.specs.Gates.{all_left, is_barrier}
use Rattle.omp_model.specs.EventEffects.{sync_number}
use Rattle.omp_model.specs.Calls.{mutex_number}
use Rattle.omp_model.specs.Conditions.{has_started}
use Rattle.omp_model.specs.MadeWorld.{IsTask}
use Rattle.omp_model.proofs.Alike.{what_met}
use Rattle.trace_check.specs.Before.{Creation, Join, creations, events_of, greatest_region, greatest_task, has_begun_region, has_ended, has_ended_region, has_left, has_started as was_started, holder, is_complete, is_created, joins_of, latest, opened, waits_of}
use Rattle.trace_check.specs.Rules.{asks_for}
use Rattle.nested_runs.proofs.Recorded.{Inside}
use Rattle.nested_runs.proofs.Shown.{opens_at, shown}
use Rattle.nested_runs.proofs.Standing.{Stand, is_behind, stand_at}
use Rattle.nested_runs.proofs.Standing.Stand.{Free, AtFork, AtMutex, AtSync}
use Rattle.nested_runs.proofs.Touching.{MayTake}

-- ---- threads (rules 2 and 3)

abbrev pub is_begun : ThreadStage → Bool
is_begun thread_stage.Unmade = false
is_begun thread_stage.Made = false
is_begun thread_stage.Begun = true
is_begun thread_stage.Ended = true

abbrev pub is_over : ThreadStage → Bool
is_over thread_stage.Ended = true
is_over other = false

abbrev pub is_ending : Option Event → Bool
is_ending (Some ThreadEnd) = true
is_ending other = false

-- a thread has had events where it has begun, and its end where it has ended, or is inside its end
pub record TellsThread (now : ThreadStage) (event : Option Event) (t : ℕ) (past : List EventRecord) : Type 0 where
  pub none : (events_of t past == 0) ≡ not (is_begun now)
  pub ended : has_ended t past ≡ (is_over now || is_ending event)

abbrev pub TellsThreads : World → Inside → List EventRecord → Type 0
TellsThreads W I past = (t : ℕ) → TellsThread (thread_at W t).stage (I t) t past

-- ---- brackets (rule 6)

-- what is open on a thread is what the tasks on its stack show; a task that hasn't started has nothing open, and stands at nothing
pub record TellsBrackets (W : World) (I : Inside) (past : List EventRecord) : Type 0 where
  pub open_on : (t : ℕ) → opened t past ≡ shown W (thread_at W t).stack
  pub fresh : (k : ℕ) → has_started (pooled_at W k).condition ≡ false → opens_at W k ≡ []
  pub unmoved : (k : ℕ) → has_started (pooled_at W k).condition ≡ false → stand_at W k ≡ Free

-- ---- numbers (rules 4 and 10)

pub record TellsNumbers (W : World) (past : List EventRecord) : Type 0 where
  pub regions : greatest_region past + 1 ≡ length W.regions
  pub tasks : greatest_task past + 1 ≡ length W.tasks

-- ---- where tasks stand on stacks, and what threads are to do (rule 14)

-- a region that was forked and isn't over
pub record IsOpenRegion (W : World) (r : ℕ) : Type 0 where
  pub forked : 2 ≤ r
  pub made : r < length W.regions
  pub open_still : (region_at W r).head.ended ≡ false

-- one task stands on another one: as the member of the region that this one has forked, or as an explicit task of its region
pub record IsMemberOn (W : World) (above below : ℕ) : Type 0 where
  pub kind : (pooled_at W above).kind ≡ kind.Implicit
  pub region : region_of W above ≡ (task_at W below).forked
  pub stand : stand_at W below ≡ AtFork

pub record IsTaskOn (W : World) (above below : ℕ) : Type 0 where
  pub explicit : is_explicit_task W above ≡ true
  pub region : region_of W above ≡ region_of W below
  pub stand : stand_at W below ≢ AtFork

-- the first task of a stack: the initial one on thread 0, and on another thread the member of an outermost region
pub record IsInitialOn (t k : ℕ) : Type 0 where
  pub thread : t ≡ 0
  pub task : k ≡ INITIAL_TASK

pub record IsMemberOf (W : World) (t k : ℕ) : Type 0 where
  pub thread : t ≢ 0
  pub kind : (pooled_at W k).kind ≡ kind.Implicit
  pub outermost : is_outermost W (region_of W k) ≡ true

abbrev pub IsChain : World → ℕ → List ℕ → Type 0
IsChain W t [] = Unit {0}
IsChain W t (k ∷ []) = IsInitialOn t k ⊎ IsMemberOf W t k
IsChain W t (above ∷ below ∷ rest) = (IsMemberOn W above below ⊎ IsTaskOn W above below) × IsChain W t (below ∷ rest)

abbrev pub stands_on : ℕ → List ℕ → Bool
stands_on k stack = list_any (λ (other : ℕ). other == k) stack

-- the task that has forked an open region stands at its end, on its thread
pub record HoldsRegion (W : World) (r : ℕ) : Type 0 where
  pub forked : (task_at W (region_at W r).head.task).forked ≡ r
  pub stand : stand_at W (region_at W r).head.task ≡ AtFork
  pub stacked : stands_on (region_at W r).head.task (thread_at W (task_at W (region_at W r).head.task).thread).stack ≡ true

-- a task at the end of a region has forked it
pub record HasForked (W : World) (k : ℕ) : Type 0 where
  pub region : IsOpenRegion W (task_at W k).forked
  pub task : (region_at W (task_at W k).forked).head.task ≡ k

-- A thread that is to join a region is the one that has forked it, or has no task and the region is an outermost one. It is to do nothing else.
pub record IsForker (W : World) (t r : ℕ) : Type 0 where
  pub some : 1 ≤ current W t
  pub task : (region_at W r).head.task ≡ current W t

pub record IsIdle (W : World) (t r : ℕ) : Type 0 where
  pub stack : (thread_at W t).stack ≡ []
  pub outermost : is_outermost W r ≡ true
  pub other : t ≢ 0

pub record IsInvited (W : World) (t r : ℕ) : Type 0 where
  pub region : IsOpenRegion W r
  pub on : IsForker W t r ⊎ IsIdle W t r
  pub undeferred : (thread_at W t).undeferred ≡ 0
  pub taken : (thread_at W t).taken ≡ None

-- a thread that is to start an undeferred task is in a task of that one's region, which stands at nothing, and is to do nothing else
pub record IsDetained (W : World) (t k : ℕ) : Type 0 where
  pub some : 1 ≤ current W t
  pub region : region_of W k ≡ current_region W t
  pub stand : stand_at W (current W t) ≡ Free
  pub invited : (thread_at W t).invited ≡ 0
  pub taken : (thread_at W t).taken ≡ None

-- a thread that is to do nothing but what its task's code comes to
pub record HasNoErrand (W : World) (t : ℕ) : Type 0 where
  pub some : 1 ≤ current W t
  pub invited : (thread_at W t).invited ≡ 0
  pub undeferred : (thread_at W t).undeferred ≡ 0
  pub taken : (thread_at W t).taken ≡ None

-- inside the begin of a region: its members are still to be invited
pub record IsForking (W : World) (t r : ℕ) : Type 0 where
  pub errand : HasNoErrand W t
  pub region : IsOpenRegion W r
  pub task : (region_at W r).head.task ≡ current W t
  pub uninvited : (u : ℕ) → (thread_at W u).invited ≢ r

pub record IsCreating (W : World) (t k : ℕ) : Type 0 where
  pub errand : HasNoErrand W t
  pub region : region_of W k ≡ current_region W t
  pub stand : stand_at W (current W t) ≡ Free

pub record IsJoining (W : World) (t : ℕ) : Type 0 where
  pub some : 1 ≤ current W t
  pub stand : stand_at W (current W t) ≢ AtFork

-- inside a thread's end it has no task
abbrev pub IsBusy : World → ℕ → Option Event → Type 0
IsBusy W t (Some ThreadEnd) = (thread_at W t).stack ≡ []
IsBusy W t (Some (ParallelBegin r requested codeptr)) = IsForking W t r
IsBusy W t (Some (ParallelEnd r codeptr)) = IsJoining W t
IsBusy W t (Some (TaskCreate task undeferred codeptr)) = IsCreating W t task
IsBusy W t other = Unit {0}

abbrev pub is_running : ThreadStage → Bool
is_running thread_stage.Begun = true
is_running other = false

pub record AreSeated (W : World) (I : Inside) : Type 0 where
  pub initial : region_of W INITIAL_TASK ≡ IMPLICIT_REGION
  pub idle : (t : ℕ) → is_running (thread_at W t).stage ≡ false → (thread_at W t).stack ≡ []
  pub chain : (t : ℕ) → IsChain W t (thread_at W t).stack
  pub holds : (r : ℕ) → IsOpenRegion W r → HoldsRegion W r
  pub forks : (k : ℕ) → stand_at W k ≡ AtFork → HasForked W k
  pub outer : (q r : ℕ) → IsOpenRegion W q → IsOpenRegion W r → is_outermost W q ≡ true → is_outermost W r ≡ true → q ≡ r
  pub invited : (t : ℕ) → 1 ≤ (thread_at W t).invited → IsInvited W t (thread_at W t).invited
  pub detained : (t : ℕ) → 1 ≤ (thread_at W t).undeferred → IsDetained W t (thread_at W t).undeferred
  pub shares : (t : ℕ) → MayTake W t (thread_at W t).taken
  pub busy : (t : ℕ) → IsBusy W t (I t)

-- ---- members (rules 5 and 7)

-- the implicit task of a region with this index, or 0
abbrev pub task_of_member : World → ℕ → ℕ → ℕ
task_of_member W r i = slice_index_or (region_at W r).head.members i 0

abbrev pub has_left_region : World → ℕ → ℕ → Bool
has_left_region W r i = slice_index_or (region_at W r).head.left i false

abbrev pub is_some_task : ℕ → Bool
is_some_task k = not (k == 0)

pub record IsJoin (W : World) (r : ℕ) (join : Join) : Type 0 where
  pub actual : join.actual ≡ (region_at W r).head.size
  pub index : join.index < (region_at W r).head.size
  pub task : task_of_member W r join.index ≡ join.task
  pub some : 1 ≤ join.task

pub record HasGone (W : World) (past : List EventRecord) (k : ℕ) : Type 0 where
  pub some : 1 ≤ k
  pub left : has_left k past ≡ true
  pub finished : (pooled_at W k).condition ≡ condition.Finished

-- the member with this number has begun, with this task
pub record IsMemberTask (W : World) (r i k : ℕ) : Type 0 where
  pub made : IsTask W k
  pub kind : (pooled_at W k).kind ≡ kind.Implicit
  pub region : region_of W k ≡ r
  pub index : member_index W (task_at W k).thread r ≡ i
  pub started : has_started (pooled_at W k).condition ≡ true

-- the joins of a forked region are its members that have begun, each once, and who has left it had begun
pub record TellsRegion (W : World) (past : List EventRecord) (r : ℕ) : Type 0 where
  pub members : length (region_at W r).head.members ≡ TEAM_LIMIT
  pub left : length (region_at W r).head.left ≡ TEAM_LIMIT
  pub implicit : (i : ℕ) → 1 ≤ task_of_member W r i → IsMemberTask W r i (task_of_member W r i)
  pub joined : All (IsJoin W r) (joins_of r past)
  pub there : (i : ℕ) → 1 ≤ task_of_member W r i →
      list_any (λ (join : Join). (join.index == i) && (join.task == task_of_member W r i)) (joins_of r past) ≡ true
  pub count : length (joins_of r past) ≡ count_by is_some_task (region_at W r).head.members
  pub beyond : (i : ℕ) → (region_at W r).head.size ≤ i → task_of_member W r i ≡ 0
  pub gone : (i : ℕ) → has_left_region W r i ≡ true → HasGone W past (task_of_member W r i)
  pub ended : (region_at W r).head.ended ≡ true → all_left W r ≡ true

-- an implicit task is the member of its region with the number of its thread
pub record IsSeated (W : World) (k : ℕ) : Type 0 where
  pub region : 2 ≤ region_of W k
  pub member : task_of_member W (region_of W k) (member_index W (task_at W k).thread (region_of W k)) ≡ k

abbrev pub IsLeaving : World → List EventRecord → ℕ → Option Event → Type 0
IsLeaving W past t (Some (MemberEnd r k)) = HasGone W past k × ((2 ≤ r) × (task_of_member W r (member_index W t r) ≡ k))
IsLeaving W past t (Some (ParallelBegin r requested codeptr)) = (i : ℕ) → task_of_member W r i ≡ 0
IsLeaving W past t other = Unit {0}

pub record TellsMembers (W : World) (I : Inside) (past : List EventRecord) : Type 0 where
  pub begun : (r : ℕ) → has_begun_region r past ≡ (nat_le 2 r && nat_lt r (length W.regions))
  pub ended : (r : ℕ) → has_ended_region r past ≡ (region_at W r).head.ended
  pub region : (r : ℕ) → 2 ≤ r → r < length W.regions → TellsRegion W past r
  pub unjoined : (r : ℕ) → length W.regions ≤ r → joins_of r past ≡ []
  pub seated : (k : ℕ) → IsTask W k → (pooled_at W k).kind ≡ kind.Implicit → IsSeated W k
  pub room : (t : ℕ) → 1 ≤ (thread_at W t).invited → task_of_member W (thread_at W t).invited (member_index W t (thread_at W t).invited) ≡ 0
  pub leaving : (t : ℕ) → IsLeaving W past t (I t)

-- ---- the first events of thread 0 (rule 5)

abbrev pub IsFirstEvent : Option Event → Type 0
IsFirstEvent None = Unit {0}
IsFirstEvent (Some ThreadBegin) = Unit {0}
IsFirstEvent other = ⊥

-- before the initial task has begun only thread 0 is there, and nothing is open
pub record IsEarly (W : World) (t : ℕ) (event : Option Event) : Type 0 where
  pub stack : (thread_at W t).stack ≡ []
  pub invited : (thread_at W t).invited ≡ 0
  pub undeferred : (thread_at W t).undeferred ≡ 0
  pub taken : (thread_at W t).taken ≡ None
  pub first : IsFirstEvent event
  pub alone : t ≢ 0 → (thread_at W t).stage ≡ thread_stage.Unmade

pub record TellsFirst (W : World) (I : Inside) (past : List EventRecord) : Type 0 where
  pub made : (thread_at W 0).stage ≢ thread_stage.Unmade
  pub unready : (pooled_at W INITIAL_TASK).condition ≢ condition.Ready
  pub early : (pooled_at W INITIAL_TASK).condition ≡ condition.Made → (t : ℕ) → IsEarly W t (I t)
  pub one : (pooled_at W INITIAL_TASK).condition ≡ condition.Made → events_of 0 past ≤ 1
  pub more : has_started (pooled_at W INITIAL_TASK).condition ≡ true → 2 ≤ events_of 0 past
  pub over : (is_over (thread_at W 0).stage || is_ending (I 0)) ≡ true → (pooled_at W INITIAL_TASK).condition ≡ condition.Finished

-- ---- locks (rules 8 and 9)

abbrev pub thread_of_owner : World → Option ℕ → Option ℕ
thread_of_owner W None = None
thread_of_owner W (Some k) = Some (task_at W k).thread

abbrev pub holder_of : World → Option Lock → Option ℕ
holder_of W None = None
holder_of W (Some lock) = thread_of_owner W lock.owner

-- an owner is a task that was made and has started, so that its thread stays
pub record IsStarted (W : World) (k : ℕ) : Type 0 where
  pub below : k < length W.tasks
  pub started : has_started (pooled_at W k).condition ≡ true

abbrev pub IsOwner : World → Option ℕ → Type 0
IsOwner W None = Unit {0}
IsOwner W (Some k) = IsStarted W k

abbrev pub AreOwners : World → List Lock → Type 0
AreOwners W [] = Unit {0}
AreOwners W (lock ∷ locks) = IsOwner W lock.owner × AreOwners W locks

-- the locks are in rising order
abbrev pub AreAbove : ℕ → List Lock → Type 0
AreAbove id [] = Unit {0}
AreAbove id (lock ∷ locks) = (id < lock.id) × AreAbove id locks

abbrev pub AreRising : List Lock → Type 0
AreRising [] = Unit {0}
AreRising (lock ∷ locks) = AreAbove lock.id locks × AreRising locks

-- a thread whose task stands before a lock has asked for it last
abbrev pub HasAsked : Stand → Option Call → Type 0
HasAsked (AtMutex which id) call = asks_for (mutex_number which) id call ≡ true
HasAsked other call = Unit {0}

abbrev pub HasNotAsked : Stand → Type 0
HasNotAsked (AtMutex which id) = ⊥
HasNotAsked other = Unit {0}

pub record TellsLocks (W : World) (past : List EventRecord) : Type 0 where
  pub holder : (id : ℕ) → holder id past ≡ holder_of W (look_up W.locks.locks id)
  pub owners : AreOwners W W.locks.locks
  pub rising : AreRising W.locks.locks
  pub asked : (t : ℕ) → HasAsked (stand_at W (current W t)) (latest t past)
  pub below : (t : ℕ) → All (λ (k : ℕ). HasNotAsked (stand_at W k)) (drop 1 (thread_at W t).stack)

-- ---- created tasks (rule 11, and taskwait of rule 12)

abbrev pub IsOver : List EventRecord → Option Event → Type 0
IsOver past (Some (TaskEnd task)) = is_complete task past ≡ true
IsOver past other = Unit {0}

pub record TellsTasks (W : World) (I : Inside) (past : List EventRecord) : Type 0 where
  pub created : (k : ℕ) → is_created k past ≡ is_explicit_task W k
  pub started : (k : ℕ) → was_started k past ≡ (is_explicit_task W k && has_started (pooled_at W k).condition)
  pub creators : All (λ (creation : Creation). (pooled_at W creation.task).parent ≡ creation.creator) (creations past)
  pub finished : (k : ℕ) → is_explicit_task W k ≡ true → (pooled_at W k).condition ≡ condition.Finished → is_complete k past ≡ true
  pub ready : (k : ℕ) → (pooled_at W k).condition ≡ condition.Ready → is_explicit_task W k ≡ true
  pub over : (t : ℕ) → IsOver past (I t)

-- ---- barriers (rule 12)

-- a barrier that the task has met, and at which it hasn't begun to wait
abbrev pub owed : Stand → ℕ
owed (AtSync which stage.WaitBegin) = if is_barrier which then 1 else 0
owed other = 0

-- what is so of each member that has begun, and of one that hasn't
pub record TellsMember (W : World) (past : List EventRecord) (r i k : ℕ) : Type 0 where
  pub waits : waits_of k past + owed (stand_at W k) ≡ (member_at (region_at W r).team i).barriers
  pub begun : (member_at (region_at W r).team i).begun ≤ waits_of k past

pub record HasNotMet (W : World) (r i : ℕ) : Type 0 where
  pub met : (member_at (region_at W r).team i).met ≡ 0
  pub barriers : (member_at (region_at W r).team i).barriers ≡ 0
  pub begun : (member_at (region_at W r).team i).begun ≡ 0
  pub passed : (member_at (region_at W r).team i).passed ≡ 0

-- no wait of a member has ended at more barriers than each other one has begun to wait at
abbrev pub HaveBegun : World → ℕ → Type 0
HaveBegun W r =
    (i j : ℕ) → i < (region_at W r).head.size → j < (region_at W r).head.size →
    (member_at (region_at W r).team i).passed ≤ (member_at (region_at W r).team j).begun

-- a task at a barrier is a member's, or the initial one; a member that waits has begun to
abbrev pub AtBarrier : World → List EventRecord → ℕ → Stand → Type 0
AtBarrier W past k (AtSync which stage.WaitEnd) =
    is_barrier which ≡ true → (is_explicit_task W k ≡ false) × ((pooled_at W k).kind ≡ kind.Implicit → 1 ≤ waits_of k past)
AtBarrier W past k (AtSync which at) = is_barrier which ≡ true → is_explicit_task W k ≡ false
AtBarrier W past k other = Unit {0}

abbrev pub IsWaiting : World → ℕ → Option Event → Type 0
IsWaiting W t (Some (Sync which stage.WaitBegin codeptr)) = (1 ≤ current W t) × (stand_at W (current W t) ≡ AtSync which stage.WaitEnd)
IsWaiting W t other = Unit {0}

pub record TellsBarriers (W : World) (I : Inside) (past : List EventRecord) : Type 0 where
  pub member : (r i : ℕ) → 2 ≤ r → r < length W.regions → 1 ≤ task_of_member W r i → TellsMember W past r i (task_of_member W r i)
  pub unmet : (r i : ℕ) → 2 ≤ r → r < length W.regions → task_of_member W r i ≡ 0 → HasNotMet W r i
  pub passed : (r : ℕ) → 2 ≤ r → r < length W.regions → HaveBegun W r
  pub at : (k : ℕ) → AtBarrier W past k (stand_at W k)
  pub fresh : (k : ℕ) → length W.tasks ≤ k → waits_of k past ≡ 0
  pub waiting : (t : ℕ) → IsWaiting W t (I t)

-- ---- the last barrier of a region (rule 13)

-- the barrier of a region itself
abbrev pub is_last : Meeting → Bool
is_last (meeting.Barrier codeptr which) = which == sync_number sync.Parallel
is_last other = false

-- what a member has met
abbrev pub met_by : World → ℕ → ℕ → List Meeting
met_by W r i = take (member_at (region_at W r).team i).met (what_met (region_at W r).team)

abbrev pub has_met_last : World → ℕ → ℕ → Bool
has_met_last W r i = list_any is_last (met_by W r i)

-- no explicit task of the region is unfinished
abbrev pub HasNoTasks : World → ℕ → Type 0
HasNoTasks W r = (k : ℕ) → region_of W k ≡ r → is_open (pooled_at W k) ≡ false

-- the wait of a member has ended at all barriers that it has met, of which the last is the region's
pub record HasPassed (W : World) (r i : ℕ) : Type 0 where
  pub met : has_met_last W r i ≡ true
  pub passed : (member_at (region_at W r).team i).passed ≡ (member_at (region_at W r).team i).barriers

-- a member's code that is behind the wait of its region's barrier
abbrev pub is_past_wait : Stand → Bool
is_past_wait Free = true
is_past_wait (AtSync which stage.RegionEnd) = true
is_past_wait other = false

pub record TellsLast (W : World) (r : ℕ) : Type 0 where
  pub met : (i : ℕ) → (member_at (region_at W r).team i).met ≤ length (region_at W r).team.meetings
  pub barriers : (i : ℕ) → (member_at (region_at W r).team i).barriers ≡ count_by meets_at_barrier (met_by W r i)
  pub passed : (i : ℕ) → (member_at (region_at W r).team i).passed ≤ (member_at (region_at W r).team i).barriers
  -- the region's barrier is the last meeting
  pub last : (n : ℕ) (codeptr : ℕ) → slice_index_or (what_met (region_at W r).team) n (meeting.Single 0) ≡ meeting.Barrier codeptr (sync_number sync.Parallel) →
      n + 1 ≡ length (region_at W r).team.meetings
  -- a member's code is behind where it has met that
  pub behind : (i : ℕ) → 1 ≤ task_of_member W r i → is_behind (task_at W (task_of_member W r i)).code ≡ has_met_last W r i
  pub over : (i : ℕ) → 1 ≤ task_of_member W r i → is_behind (task_at W (task_of_member W r i)).code ≡ true →
      is_past_wait (stand_at W (task_of_member W r i)) ≡ true → HasPassed W r i
  pub gone : (i : ℕ) → has_left_region W r i ≡ true → HasPassed W r i
  -- where one has passed it, all have met it and no task is unfinished
  pub all_met : (i j : ℕ) → HasPassed W r i → j < (region_at W r).head.size → has_met_last W r j ≡ true
  pub no_tasks : (i : ℕ) → HasPassed W r i → HasNoTasks W r

-- a thread is inside the end of a member that has passed it, or inside that of an explicit task
abbrev pub IsGoing : World → ℕ → Option Event → Type 0
IsGoing W t (Some (MemberEnd r k)) = HasPassed W r (member_index W t r)
IsGoing W t (Some (TaskEnd task)) = is_explicit_task W task ≡ true
IsGoing W t other = Unit {0}

pub record TellsLasts (W : World) (I : Inside) : Type 0 where
  pub region : (r : ℕ) → 2 ≤ r → r < length W.regions → TellsLast W r
  pub going : (t : ℕ) → IsGoing W t (I t)
  pub initial : (pooled_at W INITIAL_TASK).condition ≡ condition.Finished → HasNoTasks W 1
