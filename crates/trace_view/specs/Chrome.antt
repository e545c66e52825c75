-- A trace in the Trace Event Format, which trace viewers open: an array of JSON with an object for each mark of an event.
use Rattle.std.specs.Prelude.{ℕ, ◌==◌, List, [], ◌∷◌, ◌++◌, codes, if◌then◌else◌}
use Rattle.std.specs.List.{flat_map}
use Rattle.std.specs.Fmt.{decimal}
use Rattle.omp_codes.specs.declared.mutex_kinds.TheConstants.{CRITICAL, TEST_LOCK}
use Rattle.omp_codes.specs.declared.task_statuses.TheConstants.{SWITCH}
use Rattle.ompt_calls.specs.declared.call.Call.{Call}
use Rattle.ompt_calls.specs.declared.call.Call.TheVariants.{ThreadBegin, ThreadEnd, TaskCreate, TaskSchedule, MutexReleased, LockInit, LockDestroy, MutexAcquire, MutexAcquired, Dispatch}
use Rattle.ompt_calls.specs.declared.event.EventRecord.{EventRecord}
use Rattle.trace_check.specs.declared.bracket.Bracket.{Bracket}
use Rattle.trace_check.specs.declared.bracket.Bracket.TheVariants.{Parallel, Implicit, Explicit, Worksharing, Masking, Syncing, Waiting}
use Rattle.trace_check.specs.declared.change.Change.{Change}
use Rattle.trace_check.specs.declared.change.Change.TheVariants.{Opens, Closes, Stays}
use Rattle.trace_check.specs.Brackets.{change_of}
use Rattle.trace_format.specs.declared.item.Item.{Item}
use Rattle.trace_format.specs.declared.item.Item.TheVariants as item
use Rattle.trace_format.specs.declared.trace.EndMark.{EndMark}
use Rattle.trace_format.specs.declared.trace.Trace.{Trace}
use Rattle.trace_view.specs.NamedLines.{named_call}
use Rattle.trace_view.specs.Names.{dispatch_kind_text, ending_text, sync_kind_text, work_kind_text}

-- A mark: the letter of its phase, the fields that its phase asks for, its name, and the first of its arguments.
pub record Mark : Type 0 where
  pub phase : List ℕ
  pub fields : List ℕ
  pub name : List ℕ
  pub argument : List ℕ

-- a slice of the thread begins, and ends
abbrev pub begins : List ℕ → Mark
begins name = record { phase = codes "B"; fields = []; name = name; argument = [] }

abbrev pub ends : List ℕ → Mark
ends name = record { phase = codes "E"; fields = []; name = name; argument = [] }

-- something comes to pass on the thread
abbrev pub happens : List ℕ → Mark
happens name = record { phase = codes "i"; fields = codes ",\"s\":\"t\""; name = name; argument = [] }

-- an arrow leads from where a task is created to where a thread first goes to it
abbrev pub flows_from : ℕ → Mark
flows_from task =
    record { phase = codes "s"; fields = codes ",\"cat\":\"task\",\"id\":" ++ decimal task; name = codes "task"; argument = [] }

abbrev pub flows_to : ℕ → Mark
flows_to task =
    record {
      phase = codes "f";
      fields = codes ",\"cat\":\"task\",\"bp\":\"e\",\"id\":" ++ decimal task;
      name = codes "task";
      argument = [];
    }

-- A slice beside the threads, of a wait identifier that is held, or of a thread that waits for one. Such slices needn't nest in those of
-- a thread.
abbrev pub holds : List ℕ → ℕ → List ℕ → Mark
holds phase wait_id name =
    record { phase = phase; fields = codes ",\"cat\":\"mutex\",\"id\":" ++ decimal wait_id; name = name; argument = [] }

abbrev pub waits : List ℕ → ℕ → List ℕ → Mark
waits phase thread name =
    record { phase = phase; fields = codes ",\"cat\":\"wait\",\"id\":" ++ decimal thread; name = codes "wait for " ++ name; argument = [] }

-- a thread has this name
abbrev pub names_thread : ℕ → Mark
names_thread thread = record {
  phase = codes "M";
  fields = [];
  name = codes "thread_name";
  argument = codes "\"name\":\"thread " ++ decimal thread ++ codes "\",";
}

-- the name of a slice: of a region, of a task, or of what a task is in
abbrev pub slice_name : Bracket → List ℕ
slice_name (Parallel region) = codes "region " ++ decimal region
slice_name (Implicit task) = codes "implicit task " ++ decimal task
slice_name (Explicit prior next) = codes "task " ++ decimal next
slice_name (Worksharing region task kind count) = work_kind_text kind
slice_name (Masking task) = codes "masked"
slice_name (Syncing task kind) = sync_kind_text kind
slice_name (Waiting task kind) = codes "wait " ++ sync_kind_text kind

-- the slices of a thread are the brackets of the rules
abbrev pub slice_marks : Change → List Mark
slice_marks (Opens bracket) = begins (slice_name bracket) ∷ []
slice_marks (Closes bracket) = ends (slice_name bracket) ∷ []
slice_marks Stays = []

-- the name of a critical (kind 5) or of a lock
abbrev pub mutex_name : ℕ → ℕ → List ℕ
mutex_name kind wait_id = (if kind == CRITICAL then codes "critical " else codes "lock ") ++ decimal wait_id

-- what a call has beside the slices. A thread that tests a lock (kind 2) doesn't wait for it
abbrev pub own_marks : ℕ → Call → List Mark
own_marks t (ThreadBegin kind thread) = names_thread t ∷ []
own_marks t (ThreadEnd thread) = happens (codes "thread_end") ∷ []
own_marks t (TaskCreate task frame fresh flags has_dependences codeptr) =
    happens (codes "task_create " ++ decimal fresh.identity) ∷ flows_from fresh.identity ∷ []
own_marks t (TaskSchedule prior status next) = if status == SWITCH then flows_to next.identity ∷ [] else []
own_marks t (MutexReleased kind wait_id codeptr) = holds (codes "e") wait_id (mutex_name kind wait_id) ∷ []
own_marks t (LockInit kind hint variant wait_id codeptr) = happens (codes "lock_init " ++ decimal wait_id) ∷ []
own_marks t (LockDestroy kind wait_id codeptr) = happens (codes "lock_destroy " ++ decimal wait_id) ∷ []
own_marks t (MutexAcquire kind hint variant wait_id codeptr) =
    if kind == TEST_LOCK then happens (codes "test_lock " ++ decimal wait_id) ∷ [] else waits (codes "b") t (mutex_name kind wait_id) ∷ []
own_marks t (MutexAcquired kind wait_id codeptr) =
    (if kind == TEST_LOCK then [] else waits (codes "e") t (mutex_name kind wait_id) ∷ [])
    ++ holds (codes "b") wait_id (mutex_name kind wait_id) ∷ []
own_marks t (Dispatch region task kind start iterations) = happens (dispatch_kind_text kind) ∷ []
own_marks t other = []

abbrev pub marks : EventRecord → List Mark
marks event = slice_marks (change_of event.call) ++ own_marks event.thread event.call

-- The object of a mark, behind those before it: the thread is a track, and the position in the history is the time. The process is 1,
-- since viewers take process 0 for the idle one.
abbrev pub mark_text : EventRecord → Mark → List ℕ
mark_text event mark =
    44 ∷ 10 ∷ codes "{\"ph\":\"" ++ mark.phase ++ codes "\",\"pid\":1,\"tid\":" ++ decimal event.thread
    ++ codes ",\"ts\":" ++ decimal event.seq ++ mark.fields ++ codes ",\"name\":\"" ++ mark.name
    ++ codes "\",\"args\":{" ++ mark.argument ++ codes "\"call\":\"" ++ named_call event.call ++ codes "\"}}"

abbrev pub chrome_event : EventRecord → List ℕ
chrome_event event = flat_map (mark_text event) (marks event)

-- how the array begins, with the name of the process
abbrev pub chrome_head : List ℕ
chrome_head = codes "[" ++ 10 ∷ codes "{\"ph\":\"M\",\"pid\":1,\"name\":\"process_name\",\"args\":{\"name\":\"ompt\"}}"

-- how it ends, with how the run ended
abbrev pub chrome_end : EndMark → List ℕ
chrome_end end =
    44 ∷ 10 ∷ codes "{\"ph\":\"M\",\"pid\":1,\"name\":\"process_labels\",\"args\":{\"labels\":\"" ++ ending_text end.status
    ++ 32 ∷ decimal end.detail ++ codes "\"}}" ++ 10 ∷ codes "]" ++ 10 ∷ []

-- what is written of an item, and of a trace
abbrev pub chrome_item : Item → List ℕ
chrome_item item.More = []
chrome_item (item.Header header) = chrome_head
chrome_item (item.Event event) = chrome_event event
chrome_item (item.End end) = chrome_end end

abbrev pub chrome_trace : Trace → List ℕ
chrome_trace trace = chrome_head ++ flat_map chrome_event trace.events ++ chrome_end trace.end
