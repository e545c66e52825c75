-- What the events before one tell, the newest first.
use Rattle.std.specs.Prelude.{ℕ, ◌==◌, ◌&&◌, ◌||◌, Bool, true, false, not, max, List, [], ◌∷◌, filter, count_by, Option, Some, None, if◌then◌else◌}
use Rattle.std.specs.List.{list_any}
use Rattle.omp_codes.specs.declared.endpoints.TheConstants.{BEGIN, END}
use Rattle.omp_codes.specs.declared.sync_kinds.TheConstants as sync_kind
use Rattle.omp_codes.specs.declared.task_flags.TheConstants.{INITIAL}
use Rattle.omp_codes.specs.declared.task_statuses.TheConstants.{COMPLETE, SWITCH}
use Rattle.ompt_calls.specs.declared.call.Call.{Call}
use Rattle.ompt_calls.specs.declared.call.Call.TheVariants.{ThreadBegin, ThreadEnd, ParallelBegin, ParallelEnd, TaskCreate, TaskSchedule, ImplicitTask, SyncRegionWait, MutexReleased, MutexAcquired}
use Rattle.ompt_calls.specs.declared.event.EventRecord.{EventRecord}
use Rattle.trace_check.specs.declared.bracket.Bracket.{Bracket}
use Rattle.trace_check.specs.Brackets.{change_of, changed, current_in}

-- ---- threads

abbrev pub is_of : ℕ → EventRecord → Bool
is_of t event = event.thread == t

abbrev pub is_begin : Call → Bool
is_begin (ThreadBegin kind thread) = true
is_begin other = false

abbrev pub is_end : Call → Bool
is_end (ThreadEnd thread) = true
is_end other = false

-- how many events the thread had, and whether it had its end
abbrev pub events_of : ℕ → List EventRecord → ℕ
events_of t past = count_by (is_of t) past

abbrev pub has_ended : ℕ → List EventRecord → Bool
has_ended t past = list_any (λ (event : EventRecord). is_of t event && is_end event.call) past

-- the newest event of the thread
abbrev pub latest : ℕ → List EventRecord → Option Call
latest t [] = None
latest t (event ∷ past) = if is_of t event then Some event.call else latest t past

-- its open brackets, and its current task
abbrev pub opened : ℕ → List EventRecord → List Bracket
opened t [] = []
opened t (event ∷ past) = if is_of t event then changed (change_of event.call) (opened t past) else opened t past

abbrev pub current : ℕ → List EventRecord → Option ℕ
current t past = current_in (opened t past)

-- ---- regions, and the implicit tasks that they had

abbrev pub region_begun : Call → Option ℕ
region_begun (ParallelBegin task frame region requested flags codeptr) = Some region.identity
region_begun other = None

abbrev pub region_ended : Call → Option ℕ
region_ended (ParallelEnd region task flags codeptr) = Some region.identity
region_ended other = None

abbrev pub is_just : ℕ → Option ℕ → Bool
is_just n None = false
is_just n (Some m) = m == n

abbrev pub has_begun_region : ℕ → List EventRecord → Bool
has_begun_region r past = list_any (λ (event : EventRecord). is_just r (region_begun event.call)) past

abbrev pub has_ended_region : ℕ → List EventRecord → Bool
has_ended_region r past = list_any (λ (event : EventRecord). is_just r (region_ended event.call)) past

-- it had its begin, and no end yet
abbrev pub is_open_region : ℕ → List EventRecord → Bool
is_open_region r past = has_begun_region r past && not (has_ended_region r past)

-- the begin of an implicit task: its region, its number, how many the team has, and its index. The initial task isn't one
pub record Join : Type 0 where
  pub region : ℕ
  pub task : ℕ
  pub actual : ℕ
  pub index : ℕ

abbrev pub join_of : Call → Option Join
join_of (ImplicitTask endpoint region task actual index flags) =
    if (endpoint == BEGIN) && not (flags == INITIAL) then Some (record { region = region.identity; task = task.identity; actual = actual; index = index }) else None
join_of other = None

abbrev pub and_more : Option Join → List Join → List Join
and_more None joins = joins
and_more (Some join) joins = join ∷ joins

abbrev pub joins : List EventRecord → List Join
joins [] = []
joins (event ∷ past) = and_more (join_of event.call) (joins past)

-- those of one region
abbrev pub joins_of : ℕ → List EventRecord → List Join
joins_of r past = filter (λ (join : Join). join.region == r) (joins past)

-- the end of an implicit task
abbrev pub left_task : Call → Option ℕ
left_task (ImplicitTask endpoint region task actual index flags) = if endpoint == END then Some task.identity else None
left_task other = None

abbrev pub has_left : ℕ → List EventRecord → Bool
has_left task past = list_any (λ (event : EventRecord). is_just task (left_task event.call)) past

-- ---- waits at barriers

-- explicit barriers, and the implicit ones of worksharing and of regions
abbrev pub is_barrier : ℕ → Bool
is_barrier kind =
    (kind == sync_kind.BARRIER_EXPLICIT) || ((kind == sync_kind.BARRIER_IMPLICIT_WORKSHARE) || (kind == sync_kind.BARRIER_IMPLICIT_PARALLEL))

abbrev pub waiter : Call → Option ℕ
waiter (SyncRegionWait kind endpoint region task codeptr) = if (endpoint == BEGIN) && is_barrier kind then Some task.identity else None
waiter other = None

-- how many waits at barriers the task has begun
abbrev pub waits_of : ℕ → List EventRecord → ℕ
waits_of task past = count_by (λ (event : EventRecord). is_just task (waiter event.call)) past

-- ---- tasks

abbrev pub region_made : Call → ℕ
region_made (ParallelBegin task frame region requested flags codeptr) = region.identity
region_made other = 0

abbrev pub task_made : Call → ℕ
task_made (ImplicitTask endpoint region task actual index flags) = if (endpoint == BEGIN) && not (flags == INITIAL) then task.identity else 0
task_made (TaskCreate task frame fresh flags has_dependences codeptr) = fresh.identity
task_made other = 0

-- the greatest identity that was made so far. Region 1 and task 1 are made from the start
abbrev pub greatest_region : List EventRecord → ℕ
greatest_region [] = 1
greatest_region (event ∷ past) = max (region_made event.call) (greatest_region past)

abbrev pub greatest_task : List EventRecord → ℕ
greatest_task [] = 1
greatest_task (event ∷ past) = max (task_made event.call) (greatest_task past)

-- the creation of a task: its creator and its number
pub record Creation : Type 0 where
  pub creator : ℕ
  pub task : ℕ

abbrev pub creation_of : Call → Option Creation
creation_of (TaskCreate task frame fresh flags has_dependences codeptr) = Some (record { creator = task.identity; task = fresh.identity })
creation_of other = None

abbrev pub and_one : Option Creation → List Creation → List Creation
and_one None creations = creations
and_one (Some creation) creations = creation ∷ creations

abbrev pub creations : List EventRecord → List Creation
creations [] = []
creations (event ∷ past) = and_one (creation_of event.call) (creations past)

-- the task that a thread goes to, and the one that is complete
abbrev pub task_started : Call → Option ℕ
task_started (TaskSchedule prior status next) = if status == SWITCH then Some next.identity else None
task_started other = None

abbrev pub task_completed : Call → Option ℕ
task_completed (TaskSchedule prior status next) = if status == COMPLETE then Some prior.identity else None
task_completed other = None

abbrev pub has_started : ℕ → List EventRecord → Bool
has_started task past = list_any (λ (event : EventRecord). is_just task (task_started event.call)) past

abbrev pub is_complete : ℕ → List EventRecord → Bool
is_complete task past = list_any (λ (event : EventRecord). is_just task (task_completed event.call)) past

abbrev pub is_created : ℕ → List EventRecord → Bool
is_created task past = list_any (λ (creation : Creation). creation.task == task) (creations past)

-- ---- wait identifiers

-- the thread that holds a wait identifier: the one that acquired it last, unless it was released since
abbrev pub held_after : ℕ → ℕ → Call → Option ℕ → Option ℕ
held_after id thread (MutexAcquired kind wait_id codeptr) before = if wait_id == id then Some thread else before
held_after id thread (MutexReleased kind wait_id codeptr) before = if wait_id == id then None else before
held_after id thread other before = before

abbrev pub holder : ℕ → List EventRecord → Option ℕ
holder id [] = None
holder id (event ∷ past) = held_after id event.thread event.call (holder id past)
