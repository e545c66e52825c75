-- When a charged event leads to a later one: eight cases. The events before an event stand with the newest first.
use Rattle.std.specs.Prelude.{ℕ, ◌+◌, ◌==◌, ◌&&◌, ◌||◌, Bool, false, not, List, [], ◌∷◌, Option, Some, None, if◌then◌else◌}
use Rattle.omp_codes.specs.declared.endpoints.TheConstants.{BEGIN, END}
use Rattle.omp_codes.specs.declared.sync_kinds.TheConstants.{TASKWAIT}
use Rattle.omp_codes.specs.declared.task_flags.TheConstants.{EXPLICIT_UNDEFERRED, INITIAL}
use Rattle.ompt_calls.specs.declared.call.Call.{Call}
use Rattle.ompt_calls.specs.declared.call.Call.TheVariants.{ImplicitTask, SyncRegionWait, TaskCreate}
use Rattle.ompt_calls.specs.declared.event.EventRecord.{EventRecord}
use Rattle.trace_check.specs.Before.{is_barrier, is_just, left_task, region_begun, region_ended, task_completed, task_started, waiter, waits_of}
use Rattle.tool_tasks.specs.declared.making.Making.{Making}
use Rattle.tool_tasks.specs.declared.making.Making.TheVariants.{Implicit, Explicit}
use Rattle.tool_tasks.specs.Charge.{charged_task, charges_of, one_if}
use Rattle.tool_tasks.specs.Tree.{Origin, making_by, or_else, origin_of}

-- ---- regions of tasks

-- The region of an implicit task is the one that it joined, and that of the initial task is 1. An explicit task's is that of its creator.
abbrev pub region_by : ℕ → (ℕ → Option ℕ) → Making → Option ℕ
region_by k region_before (Implicit task region flags) = if task == k then Some region else None
region_by k region_before (Explicit task creator flags) = if task == k then region_before creator else None
region_by k region_before other = None

abbrev pub region_of : ℕ → List EventRecord → Option ℕ
region_of k [] = if k == 1 then Some 1 else None
region_of k (event ∷ past) = or_else (region_by k (λ (task : ℕ). region_of task past) (making_by event.call)) (region_of k past)

-- the region of an implicit or initial task
abbrev pub joins_by : ℕ → Making → Option ℕ
joins_by k (Implicit task region flags) = if task == k then Some region else None
joins_by k other = None

abbrev pub joined_region : ℕ → List EventRecord → Option ℕ
joined_region k [] = if k == 1 then Some 1 else None
joined_region k (event ∷ past) = or_else (joins_by k (making_by event.call)) (joined_region k past)

-- how many waits at barriers a task has ended
abbrev pub ended_wait : Call → Option ℕ
ended_wait (SyncRegionWait kind endpoint region task codeptr) = if (endpoint == END) && is_barrier kind then Some task.identity else None
ended_wait other = None

abbrev pub ends_of : ℕ → List EventRecord → ℕ
ends_of task [] = 0
ends_of task (event ∷ past) = ends_of task past + one_if (is_just task (ended_wait event.call))

-- ---- readings of an event: what it is about, where it is about such a thing

-- of what a first reading is about
abbrev pub and_then : {A : Type 0} → Option ℕ → (ℕ → Option A) → Option A
and_then None reading = None
and_then (Some n) reading = reading n

-- with a number
abbrev pub numbered : Option ℕ → (ℕ → ℕ) → Option (ℕ × ℕ)
numbered None number = None
numbered (Some n) number = Some (n, number n)

-- the task to which an event is charged, with how many events were charged to it before, and with how many are now
abbrev pub place_of : List EventRecord → EventRecord → Option (ℕ × ℕ)
place_of past event = numbered (charged_task past event) (λ (task : ℕ). charges_of task past)

abbrev pub place_after : List EventRecord → EventRecord → Option (ℕ × ℕ)
place_after past event = numbered (charged_task past event) (λ (task : ℕ). charges_of task past + 1)

-- the region of which an implicit task begins, or ends
abbrev pub region_entered : Call → Option ℕ
region_entered (ImplicitTask endpoint region task actual index flags) =
    if (endpoint == BEGIN) && not (flags == INITIAL) then Some region.identity else None
region_entered other = None

abbrev pub region_left : List EventRecord → Call → Option ℕ
region_left past call = and_then (left_task call) (λ (task : ℕ). joined_region task past)

-- the task that is created
abbrev pub task_created : Call → Option ℕ
task_created (TaskCreate task frame fresh flags has_dependences codeptr) = Some fresh.identity
task_created other = None

-- the parent and the region of the task that is complete
abbrev pub parent_of : Option Origin → Option ℕ
parent_of None = None
parent_of (Some origin) = Some origin.parent

abbrev pub parent_completed : List EventRecord → Call → Option ℕ
parent_completed past call = and_then (task_completed call) (λ (task : ℕ). parent_of (origin_of task past))

abbrev pub region_completed : List EventRecord → Call → Option ℕ
region_completed past call = and_then (task_completed call) (λ (task : ℕ). region_of task past)

-- the parent of the task that is complete, if this one was undeferred, with how many events are charged to the parent by then
abbrev pub parent_if_undeferred : Option Origin → Option ℕ
parent_if_undeferred None = None
parent_if_undeferred (Some origin) = if origin.flags == EXPLICIT_UNDEFERRED then Some origin.parent else None

abbrev pub place_freed : List EventRecord → EventRecord → Call → Option (ℕ × ℕ)
place_freed past event call =
    and_then (task_completed call) (λ (task : ℕ). numbered (parent_if_undeferred (origin_of task past)) (λ (parent : ℕ). charges_of parent (event ∷ past)))

-- the task whose wait at a taskwait ends
abbrev pub taskwait_ended : Call → Option ℕ
taskwait_ended (SyncRegionWait kind endpoint region task codeptr) =
    if (endpoint == END) && (kind == TASKWAIT) then Some task.identity else None
taskwait_ended other = None

-- the region at whose barrier the wait of an implicit task ends. That of the initial task is 1
abbrev pub barrier_ended : List EventRecord → Call → Option ℕ
barrier_ended past call = and_then (ended_wait call) (λ (task : ℕ). joined_region task past)

-- the region of the task that begins a wait at a barrier, with how many it began before; and that at whose barrier the wait of an implicit task ends,
-- with how many waits this task ended before
abbrev pub wait_begun : List EventRecord → Call → Option (ℕ × ℕ)
wait_begun past call = and_then (waiter call) (λ (task : ℕ). numbered (region_of task past) (λ (region : ℕ). waits_of task past))

abbrev pub wait_ended : List EventRecord → Call → Option (ℕ × ℕ)
wait_ended past call = and_then (ended_wait call) (λ (task : ℕ). numbered (joined_region task past) (λ (region : ℕ). ends_of task past))

-- region 1, where the initial task ends
abbrev pub initial_ended : Call → Option ℕ
initial_ended (ImplicitTask endpoint region task actual index flags) = if (endpoint == END) && (flags == INITIAL) then Some 1 else None
initial_ended other = None

-- ---- an event leads to a later one

-- two readings are there, and the same
abbrev pub same : Option ℕ → Option ℕ → Bool
same (Some n) (Some m) = m == n
same first second = false

abbrev pub same_two : Option (ℕ × ℕ) → Option (ℕ × ℕ) → Bool
same_two (Some n) (Some m) = (m.0 == n.0) && (m.1 == n.1)
same_two first second = false

-- An event with these before it leads to one with those before it: in any of eight cases.
--  1  They are consecutive events of one task.
--  2  A region begins, and an implicit task of it.
--  3  An implicit task of a region ends, and the region.
--  4  A task is created, and begins.
--  5  A task is complete, and a wait for it ends: at a taskwait of its parent, or at a barrier of an implicit task of its region.
--  6  A task begins its k-th wait at a barrier, and an implicit task of the same region ends its k-th.
--  7  An undeferred task is complete, and this is the next event of its parent.
--  8  A task of region 1 is complete, and the initial task ends.
abbrev pub leads : List EventRecord → EventRecord → List EventRecord → EventRecord → Bool
leads before event past later =
    same_two (place_after before event) (place_of past later)
    || (same (region_begun event.call) (region_entered later.call)
    || (same (region_left before event.call) (region_ended later.call)
    || (same (task_created event.call) (task_started later.call)
    || ((same (parent_completed before event.call) (taskwait_ended later.call) || same (region_completed before event.call) (barrier_ended past later.call))
    || (same_two (wait_begun before event.call) (wait_ended past later.call)
    || (same_two (place_freed before event event.call) (place_of past later)
    || same (region_completed before event.call) (initial_ended later.call)))))))
