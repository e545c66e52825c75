-- The rules on events, each as a test of an event after those before it. All are judged on what stands before the event.
use Rattle.std.specs.Prelude.{ℕ, ◌+◌, ◌==◌, ◌&&◌, ◌||◌, Bool, true, false, not, nat_le, nat_lt, List, [], ◌∷◌, length, Option, Some, None, if◌then◌else◌}
use Rattle.std.specs.List.{list_all, list_any, range_with_len}
use Rattle.omp_codes.specs.declared.dispatch_kinds.TheConstants as dispatch_kind
use Rattle.omp_codes.specs.declared.endpoints.TheConstants.{BEGIN, END}
use Rattle.omp_codes.specs.declared.sync_kinds.TheConstants.{TASKWAIT}
use Rattle.omp_codes.specs.declared.task_flags.TheConstants.{INITIAL}
use Rattle.omp_codes.specs.declared.task_statuses.TheConstants.{SWITCH}
use Rattle.omp_codes.specs.declared.thread_kinds.TheConstants as thread_kind
use Rattle.omp_codes.specs.declared.work_kinds.TheConstants as work_kind
use Rattle.ompt_calls.specs.declared.call.Call.{Call}
use Rattle.ompt_calls.specs.declared.call.Call.TheVariants.{ThreadBegin, ParallelBegin, ParallelEnd, TaskCreate, TaskSchedule, ImplicitTask, SyncRegionWait, MutexReleased, MutexAcquire, MutexAcquired, Dispatch}
use Rattle.ompt_calls.specs.declared.event.EventRecord.{EventRecord}
use Rattle.trace_check.specs.declared.bracket.Bracket.{Bracket}
use Rattle.trace_check.specs.declared.bracket.Bracket.TheVariants.{Parallel, Implicit, Explicit, Worksharing, Masking, Syncing, Waiting}
use Rattle.trace_check.specs.declared.change.Change.{Change}
use Rattle.trace_check.specs.declared.change.Change.TheVariants.{Opens, Closes, Stays}
use Rattle.trace_check.specs.Brackets.{change_of, is_innermost}
use Rattle.trace_check.specs.Before.{Creation, Join, creations, current, events_of, greatest_region, greatest_task, has_ended, has_left, has_started, holder, is_barrier, is_begin, is_complete, is_created, is_end, is_just, is_open_region, join_of, joins, joins_of, latest, opened, waits_of}

-- rule 2: thread_begin is the first event of its thread and stands nowhere else, and nothing follows thread_end
abbrev pub keeps_threads : List EventRecord → EventRecord → Bool
keeps_threads past event =
    if is_begin event.call then events_of event.thread past == 0
    else not (events_of event.thread past == 0) && not (has_ended event.thread past)

-- the kind of thread t
abbrev pub kind_of_thread : ℕ → ℕ
kind_of_thread t = if t == 0 then thread_kind.INITIAL else thread_kind.WORKER

-- rule 3: thread t begins with identity t + 1, and is the initial thread exactly where t is 0
abbrev pub keeps_kind : List EventRecord → ℕ → Call → Bool
keeps_kind past t (ThreadBegin kind thread) = (thread.identity == t + 1) && (kind == kind_of_thread t)
keeps_kind past t other = true

-- rule 4: a region is the next one, and its encountering task is the thread's current one
abbrev pub keeps_regions : List EventRecord → ℕ → Call → Bool
keeps_regions past t (ParallelBegin task frame region requested flags codeptr) =
    (region.identity == greatest_region past + 1) && is_just task.identity (current t past)
keeps_regions past t other = true

-- rule 5: the second event of thread 0 is the begin of the initial task, and stands nowhere else
abbrev pub is_initial : Call → Bool
is_initial (ImplicitTask endpoint region task actual index flags) =
    (endpoint == BEGIN) && ((flags == INITIAL) && ((region.identity == 1) && ((task.identity == 1) && ((actual == 1) && (index == 1)))))
is_initial other = false

abbrev pub begins_initial : Call → Bool
begins_initial (ImplicitTask endpoint region task actual index flags) = (endpoint == BEGIN) && (flags == INITIAL)
begins_initial other = false

-- the begin of an implicit task is of an open region, has the next number, and an index below its team's size, which is that of the others, that none
-- of them had
abbrev pub may_join : List EventRecord → Option Join → Bool
may_join past None = true
may_join past (Some join) =
    is_open_region join.region past && ((join.task == greatest_task past + 1) && (nat_lt join.index join.actual
    && list_all (λ (other : Join). not (other.index == join.index) && (other.actual == join.actual)) (joins_of join.region past)))

abbrev pub keeps_tasks : List EventRecord → ℕ → Call → Bool
keeps_tasks past t call =
    (if (t == 0) && (events_of 0 past == 1) then is_initial call else not (begins_initial call)) && may_join past (join_of call)

-- rule 6: begins and ends match as brackets, what a task enters is entered by the thread's current task, and a thread ends with no bracket open
abbrev pub may_open : List EventRecord → ℕ → Bracket → Bool
may_open past t (Parallel region) = true
may_open past t (Implicit task) = true
may_open past t (Explicit prior next) = is_just prior (current t past)
may_open past t (Worksharing region task kind count) = is_just task (current t past)
may_open past t (Masking task) = is_just task (current t past)
may_open past t (Syncing task kind) = is_just task (current t past)
may_open past t (Waiting task kind) = is_just task (current t past)

abbrev pub may_change : List EventRecord → ℕ → Change → Bool
may_change past t (Opens bracket) = may_open past t bracket
may_change past t (Closes bracket) = is_innermost (opened t past) bracket
may_change past t Stays = true

abbrev pub keeps_brackets : List EventRecord → ℕ → Call → Bool
keeps_brackets past t call = may_change past t (change_of call) && (not (is_end call) || (length (opened t past) == 0))

-- rule 7: at its end a region had as many implicit tasks as its team's size, one at least, and each has its end
abbrev pub keeps_teams : List EventRecord → Call → Bool
keeps_teams past (ParallelEnd region task flags codeptr) =
    not (length (joins_of region.identity past) == 0)
    && list_all (λ (join : Join). (join.actual == length (joins_of region.identity past)) && has_left join.task past) (joins_of region.identity past)
keeps_teams past other = true

-- rule 8: directly before it acquires something its thread asks for it
abbrev pub asks_for : ℕ → ℕ → Option Call → Bool
asks_for kind wait_id None = false
asks_for kind wait_id (Some (MutexAcquire asked hint variant id codeptr)) = (asked == kind) && (id == wait_id)
asks_for kind wait_id (Some other) = false

abbrev pub keeps_asking : List EventRecord → ℕ → Call → Bool
keeps_asking past t (MutexAcquired kind wait_id codeptr) = asks_for kind wait_id (latest t past)
keeps_asking past t other = true

-- rule 9: no thread holds what is acquired, and this thread holds what is released
abbrev pub is_free : Option ℕ → Bool
is_free None = true
is_free (Some thread) = false

abbrev pub keeps_holders : List EventRecord → ℕ → Call → Bool
keeps_holders past t (MutexAcquired kind wait_id codeptr) = is_free (holder wait_id past)
keeps_holders past t (MutexReleased kind wait_id codeptr) = is_just t (holder wait_id past)
keeps_holders past t other = true

-- rule 10: a created task is the next one, and its creator is the thread's current task
abbrev pub keeps_creations : List EventRecord → ℕ → Call → Bool
keeps_creations past t (TaskCreate task frame fresh flags has_dependences codeptr) =
    (fresh.identity == greatest_task past + 1) && is_just task.identity (current t past)
keeps_creations past t other = true

-- rule 11: a thread goes to a task that was created and hasn't started
abbrev pub keeps_starts : List EventRecord → Call → Bool
keeps_starts past (TaskSchedule prior status next) =
    not (status == SWITCH) || (is_created next.identity past && not (has_started next.identity past))
keeps_starts past other = true

-- rule 12: at the end of a wait at a barrier each index of the task's open region has begun, with at least as many such waits as the task; at the end of
-- a taskwait each task that the task created is complete. Task 1 has the one index 1
abbrev pub have_waited : List EventRecord → ℕ → ℕ → ℕ → Bool
have_waited past region actual waits =
    list_all (λ (index : ℕ). list_any (λ (join : Join). (join.index == index) && nat_le waits (waits_of join.task past)) (joins_of region past)) (range_with_len 0 actual)

abbrev pub may_pass : List EventRecord → ℕ → Bool
may_pass past task =
    (task == 1)
    || list_any (λ (join : Join). (join.task == task) && (is_open_region join.region past && have_waited past join.region join.actual (waits_of task past))) (joins past)

abbrev pub has_no_child : List EventRecord → ℕ → Bool
has_no_child past task = list_all (λ (creation : Creation). not (creation.creator == task) || is_complete creation.task past) (creations past)

abbrev pub keeps_waits : List EventRecord → Call → Bool
keeps_waits past (SyncRegionWait kind endpoint region task codeptr) =
    not (endpoint == END) || ((not (is_barrier kind) || may_pass past task.identity) && (not (kind == TASKWAIT) || has_no_child past task.identity))
keeps_waits past other = true

-- rule 14: a dispatch stands directly in a work of its region and task, a chunk in a loop and a section in sections, and a chunk ends within the loop
abbrev pub is_work_of : ℕ → ℕ → ℕ → ℕ → ℕ → List Bracket → Bool
is_work_of region task kind start iterations [] = false
is_work_of region task kind start iterations (Worksharing others other like count ∷ rest) =
    (others == region) && ((other == task)
    && (((kind == dispatch_kind.WS_LOOP_CHUNK) && ((like == work_kind.LOOP) && nat_le (start + iterations) count))
    || ((kind == dispatch_kind.SECTION) && (like == work_kind.SECTIONS))))
is_work_of region task kind start iterations (bracket ∷ rest) = false

abbrev pub keeps_dispatches : List EventRecord → ℕ → Call → Bool
keeps_dispatches past t (Dispatch region task kind start iterations) = is_work_of region.identity task.identity kind start iterations (opened t past)
keeps_dispatches past t other = true

-- an event after those before it keeps the rule with this number. Rules 1 and 13 are on the whole trace
abbrev pub keeps : ℕ → List EventRecord → EventRecord → Bool
keeps rule past event =
    if rule == 2 then keeps_threads past event
    else if rule == 3 then keeps_kind past event.thread event.call
    else if rule == 4 then keeps_regions past event.thread event.call
    else if rule == 5 then keeps_tasks past event.thread event.call
    else if rule == 6 then keeps_brackets past event.thread event.call
    else if rule == 7 then keeps_teams past event.call
    else if rule == 8 then keeps_asking past event.thread event.call
    else if rule == 9 then keeps_holders past event.thread event.call
    else if rule == 10 then keeps_creations past event.thread event.call
    else if rule == 11 then keeps_starts past event.call
    else if rule == 12 then keeps_waits past event.call
    else if rule == 14 then keeps_dispatches past event.thread event.call
    else true

-- the first rule that it breaks, if it breaks one
abbrev pub first_broken : List EventRecord → EventRecord → Option ℕ
first_broken past event =
    if not (keeps_threads past event) then Some 2
    else if not (keeps_kind past event.thread event.call) then Some 3
    else if not (keeps_regions past event.thread event.call) then Some 4
    else if not (keeps_tasks past event.thread event.call) then Some 5
    else if not (keeps_brackets past event.thread event.call) then Some 6
    else if not (keeps_teams past event.call) then Some 7
    else if not (keeps_asking past event.thread event.call) then Some 8
    else if not (keeps_holders past event.thread event.call) then Some 9
    else if not (keeps_creations past event.thread event.call) then Some 10
    else if not (keeps_starts past event.call) then Some 11
    else if not (keeps_waits past event.call) then Some 12
    else if not (keeps_dispatches past event.thread event.call) then Some 14
    else None
