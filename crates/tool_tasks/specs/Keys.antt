-- Keys, which say the same: an event leads to a later one where it gives a key that the later one takes. They serve the contracts of private functions
-- and the proofs. The events before an event stand with the newest first.
use Rattle.std.specs.Prelude.{ℕ, ◌+◌, ◌==◌, ◌&&◌, Bool, false, not, List, [], ◌∷◌, Option, Some, None, if◌then◌else◌}
use Rattle.std.specs.List.{list_any}
use Rattle.omp_codes.specs.declared.endpoints.TheConstants.{BEGIN, END}
use Rattle.omp_codes.specs.declared.sync_kinds.TheConstants.{TASKWAIT}
use Rattle.omp_codes.specs.declared.task_flags.TheConstants.{EXPLICIT_UNDEFERRED, INITIAL}
use Rattle.omp_codes.specs.declared.task_statuses.TheConstants.{COMPLETE, SWITCH}
use Rattle.ompt_calls.specs.declared.call.Call.{Call}
use Rattle.ompt_calls.specs.declared.call.Call.TheVariants.{ImplicitTask, ParallelBegin, ParallelEnd, SyncRegionWait, TaskCreate, TaskSchedule}
use Rattle.ompt_calls.specs.declared.event.EventRecord.{EventRecord}
use Rattle.trace_check.specs.Before.{is_barrier, waits_of}
use Rattle.tool_tasks.specs.declared.key.Key.{Key}
use Rattle.tool_tasks.specs.declared.key.Key.TheVariants.{Next, Begun, Left, Created, Child, Ended, Wait}
use Rattle.tool_tasks.specs.Charge.{charged_task, charges_of}
use Rattle.tool_tasks.specs.Leads.{ends_of, joined_region, parent_of, region_of}
use Rattle.tool_tasks.specs.Tree.{Origin, origin_of}

-- ---- keys that an event gives

abbrev pub key_of : (ℕ → Key) → Option ℕ → Option Key
key_of key None = None
key_of key (Some n) = Some (key n)

-- An event charged to a task gives the place of the task's next one.
abbrev pub next_given : List EventRecord → Option ℕ → Option Key
next_given past None = None
next_given past (Some task) = Some (Next task (charges_of task past + 1))

-- A task that was undeferred, when it is complete, gives the place of its parent's next event.
abbrev pub parent_next : List EventRecord → EventRecord → Option Origin → Option Key
parent_next past event None = None
parent_next past event (Some origin) =
    if origin.flags == EXPLICIT_UNDEFERRED then Some (Next origin.parent (charges_of origin.parent (event ∷ past))) else None

-- what the completion of a task gives, and the begin of its wait at a barrier
abbrev pub given_by_completion : List EventRecord → EventRecord → ℕ → Option Key × Option Key × Option Key
given_by_completion past event task =
    (key_of Child (parent_of (origin_of task past)), key_of Ended (region_of task past), parent_next past event (origin_of task past))

abbrev pub given_by_wait : List EventRecord → ℕ → Option Key
given_by_wait past task = key_of (λ (region : ℕ). Wait region (waits_of task past)) (region_of task past)

-- what the begin of a region gives, the end of an implicit task, a creation, the completion of a task, and the begin of a wait at a barrier
abbrev pub given_by : List EventRecord → EventRecord → Call → Option Key × Option Key × Option Key
given_by past event (ParallelBegin task frame region requested flags codeptr) = (Some (Begun region.identity), None, None)
given_by past event (ImplicitTask endpoint region task actual index flags) =
    (if endpoint == END then key_of Left (joined_region task.identity past) else None, None, None)
given_by past event (TaskCreate task frame fresh flags has_dependences codeptr) = (Some (Created fresh.identity), None, None)
given_by past event (TaskSchedule prior status next) =
    if status == COMPLETE then given_by_completion past event prior.identity else (None, None, None)
given_by past event (SyncRegionWait kind endpoint region task codeptr) =
    (if (endpoint == BEGIN) && is_barrier kind then given_by_wait past task.identity else None, None, None)
given_by past event other = (None, None, None)

abbrev pub with_three : Option Key → Option Key × Option Key × Option Key → List (Option Key)
with_three next keys = next ∷ keys.0 ∷ keys.1 ∷ keys.2 ∷ []

abbrev pub gives : List EventRecord → EventRecord → List (Option Key)
gives past event = with_three (next_given past (charged_task past event)) (given_by past event event.call)

-- ---- keys that an event takes

abbrev pub next_taken : List EventRecord → Option ℕ → Option Key
next_taken past None = None
next_taken past (Some task) = Some (Next task (charges_of task past))

-- what the end of a task's wait takes
abbrev pub taken_by_wait : List EventRecord → ℕ → ℕ → Option Key × Option Key
taken_by_wait past kind task =
    if kind == TASKWAIT then (Some (Child task), None)
    else if is_barrier kind
    then (key_of Ended (joined_region task past), key_of (λ (region : ℕ). Wait region (ends_of task past)) (joined_region task past))
    else (None, None)

-- what the begin of an implicit task takes, and the end of the initial one, the end of a region, a switch to a task, and the end of a wait
abbrev pub taken_by : List EventRecord → Call → Option Key × Option Key
taken_by past (ImplicitTask endpoint region task actual index flags) =
    if (endpoint == BEGIN) && not (flags == INITIAL) then (Some (Begun region.identity), None)
    else if (endpoint == END) && (flags == INITIAL) then (Some (Ended 1), None)
    else (None, None)
taken_by past (ParallelEnd region task flags codeptr) = (Some (Left region.identity), None)
taken_by past (TaskSchedule prior status next) = if status == SWITCH then (Some (Created next.identity), None) else (None, None)
taken_by past (SyncRegionWait kind endpoint region task codeptr) =
    if endpoint == END then taken_by_wait past kind task.identity else (None, None)
taken_by past other = (None, None)

abbrev pub with_two : Option Key → Option Key × Option Key → List (Option Key)
with_two next keys = next ∷ keys.0 ∷ keys.1 ∷ []

abbrev pub takes : List EventRecord → EventRecord → List (Option Key)
takes past event = with_two (next_taken past (charged_task past event)) (taken_by past event.call)

-- ---- a key is given and taken

abbrev pub same_key : Key → Key → Bool
same_key (Next task n) (Next other m) = (task == other) && (n == m)
same_key (Begun region) (Begun other) = region == other
same_key (Left region) (Left other) = region == other
same_key (Created task) (Created other) = task == other
same_key (Child parent) (Child other) = parent == other
same_key (Ended region) (Ended other) = region == other
same_key (Wait region n) (Wait other m) = (region == other) && (n == m)
same_key key other = false

abbrev pub is_key : Key → Option Key → Bool
is_key key None = false
is_key key (Some other) = same_key key other

abbrev pub has_key : Key → List (Option Key) → Bool
has_key key keys = list_any (is_key key) keys

abbrev pub is_among_keys : List (Option Key) → Option Key → Bool
is_among_keys keys None = false
is_among_keys keys (Some key) = has_key key keys

-- an event with these before it gives a key that one with those before it takes
abbrev pub leads_by_keys : List EventRecord → EventRecord → List EventRecord → EventRecord → Bool
leads_by_keys before event past later = list_any (is_among_keys (gives before event)) (takes past later)
