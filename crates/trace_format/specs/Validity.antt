-- Which traces there are, and what each of them is written as.
use Rattle.std.specs.Prelude.{ℕ, ◌≡◌, if◌then◌else◌, ◌<◌, ◌≤◌, ◌+◌, ◌^◌, ◌==◌, ◌||◌, Bool, true, false, List, [], ◌∷◌, length}
use Rattle.omp_codes.specs.Answers.{in_profile}
use Rattle.omp_codes.specs.States.{states}
use Rattle.omp_codes.specs.declared.callbacks.TheConstants.{THREAD_BEGIN, THREAD_END, PARALLEL_BEGIN, PARALLEL_END, TASK_CREATE, TASK_SCHEDULE, IMPLICIT_TASK, SYNC_REGION_WAIT, MUTEX_RELEASED, WORK, MASKED, SYNC_REGION, LOCK_INIT, LOCK_DESTROY, MUTEX_ACQUIRE, MUTEX_ACQUIRED, DISPATCH}
use Rattle.omp_codes.specs.declared.dispatch_kinds.TheConstants as dispatch_kind
use Rattle.omp_codes.specs.declared.endpoints.TheConstants as scope
use Rattle.omp_codes.specs.declared.mutex_kinds.TheConstants as mutex_kind
use Rattle.omp_codes.specs.declared.parallel_flags.TheConstants as parallel_flag
use Rattle.omp_codes.specs.declared.sync_kinds.TheConstants as sync_kind
use Rattle.omp_codes.specs.declared.task_flags.TheConstants as task_flag
use Rattle.omp_codes.specs.declared.task_statuses.TheConstants as task_status
use Rattle.omp_codes.specs.declared.thread_kinds.TheConstants as thread_kind
use Rattle.omp_codes.specs.declared.work_kinds.TheConstants as work_kind
use Rattle.ompt_calls.specs.declared.call.Word.{Word}
use Rattle.ompt_calls.specs.declared.call.Frame.{Frame}
use Rattle.ompt_calls.specs.declared.call.Call.{Call}
use Rattle.ompt_calls.specs.declared.call.Call.TheVariants.{ThreadBegin, ThreadEnd, ParallelBegin, ParallelEnd, TaskCreate, TaskSchedule, ImplicitTask, SyncRegionWait, MutexReleased, Work, Masked, SyncRegion, LockInit, LockDestroy, MutexAcquire, MutexAcquired, Dispatch}
use Rattle.ompt_calls.specs.declared.event.EventRecord.{EventRecord}
use Rattle.ompt_calls.specs.Number.{is_registered, number_of}
use Rattle.trace_format.specs.declared.kind.Kind.{Kind}
use Rattle.trace_format.specs.declared.kind.Kind.TheVariants as arg
use Rattle.trace_format.specs.declared.trace.Header.{Header}
use Rattle.trace_format.specs.declared.trace.Trace.{Trace}
use Rattle.trace_format.specs.declared.trace.TheConstants.{SEQ_LIMIT, FIRST_VERSION, VERSION, RECORDED, MIGRATED}
use Rattle.trace_format.specs.Fields.{fields_of, spelling}

abbrev pub is_among : List ℕ → ℕ → Bool
is_among [] n = false
is_among (x ∷ rest) n = n == x || is_among rest n

abbrev pub IsAmong : List ℕ → ℕ → Type 0
IsAmong list n = is_among list n ≡ true

abbrev pub IsShort : ℕ → Type 0
IsShort n = n < 2 ^ 32

abbrev pub IsLong : ℕ → Type 0
IsLong n = n < 2 ^ 64

-- a word with identity 0 is NULL, and has no value
abbrev pub IsWord : Word → Type 0
IsWord word = IsShort word.identity × IsLong word.value × (word.identity ≡ 0 → word.value ≡ 0)

abbrev pub IsFrame : Frame → Type 0
IsFrame frame = IsShort frame.exit × IsShort frame.enter

-- Values of the specification's enumerations (OpenMP 5.2, 19.4.4), as far as a program's events have them.
abbrev pub thread_kinds : List ℕ
thread_kinds = thread_kind.INITIAL ∷ thread_kind.WORKER ∷ []

abbrev pub endpoints : List ℕ
endpoints = scope.BEGIN ∷ scope.END ∷ []

abbrev pub sync_kinds : List ℕ
sync_kinds =
    sync_kind.BARRIER_EXPLICIT ∷ sync_kind.TASKWAIT ∷ sync_kind.BARRIER_IMPLICIT_WORKSHARE ∷ sync_kind.BARRIER_IMPLICIT_PARALLEL ∷ []

abbrev pub mutex_kinds : List ℕ
mutex_kinds = mutex_kind.LOCK ∷ mutex_kind.TEST_LOCK ∷ mutex_kind.CRITICAL ∷ []

-- what is released is a lock or a critical
abbrev pub release_kinds : List ℕ
release_kinds = mutex_kind.LOCK ∷ mutex_kind.CRITICAL ∷ []

abbrev pub work_kinds : List ℕ
work_kinds = work_kind.LOOP ∷ work_kind.SECTIONS ∷ work_kind.SINGLE_EXECUTOR ∷ work_kind.SINGLE_OTHER ∷ []

abbrev pub dispatch_kinds : List ℕ
dispatch_kinds = dispatch_kind.SECTION ∷ dispatch_kind.WS_LOOP_CHUNK ∷ []

abbrev pub statuses : List ℕ
statuses = task_status.COMPLETE ∷ task_status.SWITCH ∷ []

abbrev pub parallel_flags : ℕ
parallel_flags = parallel_flag.TEAM_OF_PROGRAM

-- an explicit task, and one that is undeferred
abbrev pub task_flags : List ℕ
task_flags = task_flag.EXPLICIT ∷ task_flag.EXPLICIT_UNDEFERRED ∷ []

-- an initial task, and an implicit one
abbrev pub implicit_flags : List ℕ
implicit_flags = task_flag.INITIAL ∷ task_flag.IMPLICIT ∷ []

-- a section is no chunk of a loop, and has no iterations. A chunk has some
abbrev pub IsDispatched : ℕ → ℕ → Type 0
IsDispatched kind iterations =
    IsAmong dispatch_kinds kind × (kind ≡ dispatch_kind.SECTION → iterations ≡ 0) × (kind ≡ dispatch_kind.WS_LOOP_CHUNK → 1 ≤ iterations)
    × IsLong iterations

-- the arguments that a callback may have
abbrev pub IsCall : Call → Type 0
IsCall (ThreadBegin kind thread) = IsAmong thread_kinds kind × IsWord thread
IsCall (ThreadEnd thread) = IsWord thread
IsCall (ParallelBegin task frame region requested flags codeptr) =
    IsWord task × IsFrame frame × IsWord region × IsShort requested × (flags ≡ parallel_flags) × IsLong codeptr
IsCall (ParallelEnd region task flags codeptr) = IsWord region × IsWord task × (flags ≡ parallel_flags) × IsLong codeptr
IsCall (TaskCreate task frame fresh flags has_dependences codeptr) =
    IsWord task × IsFrame frame × IsWord fresh × IsAmong task_flags flags × (has_dependences ≡ 0) × IsLong codeptr
IsCall (TaskSchedule prior status next) = IsWord prior × IsAmong statuses status × IsWord next
IsCall (ImplicitTask endpoint region task actual index flags) =
    IsAmong endpoints endpoint × IsWord region × IsWord task × IsShort actual × IsShort index × IsAmong implicit_flags flags
IsCall (SyncRegionWait kind endpoint region task codeptr) =
    IsAmong sync_kinds kind × IsAmong endpoints endpoint × IsWord region × IsWord task × IsLong codeptr
IsCall (MutexReleased kind wait_id codeptr) = IsAmong release_kinds kind × IsShort wait_id × IsLong codeptr
IsCall (Work kind endpoint region task count codeptr) =
    IsAmong work_kinds kind × IsAmong endpoints endpoint × IsWord region × IsWord task × IsLong count × IsLong codeptr
IsCall (Masked endpoint region task codeptr) = IsAmong endpoints endpoint × IsWord region × IsWord task × IsLong codeptr
IsCall (SyncRegion kind endpoint region task codeptr) =
    IsAmong sync_kinds kind × IsAmong endpoints endpoint × IsWord region × IsWord task × IsLong codeptr
IsCall (LockInit kind hint variant wait_id codeptr) =
    (kind ≡ mutex_kind.LOCK) × (hint ≡ 0) × (variant ≡ 0) × IsShort wait_id × IsLong codeptr
IsCall (LockDestroy kind wait_id codeptr) = (kind ≡ mutex_kind.LOCK) × IsShort wait_id × IsLong codeptr
IsCall (MutexAcquire kind hint variant wait_id codeptr) =
    IsAmong mutex_kinds kind × (hint ≡ 0) × (variant ≡ 0) × IsShort wait_id × IsLong codeptr
IsCall (MutexAcquired kind wait_id codeptr) = IsAmong mutex_kinds kind × IsShort wait_id × IsLong codeptr
IsCall (Dispatch region task kind start iterations) = IsWord region × IsWord task × IsLong start × IsDispatched kind iterations

-- The kinds of a callback's arguments, by its number, by which the reader goes. That each argument is of its kind, and a dispatch has its
-- iterations, exactly where `IsCall` says so is proved.
abbrev pub kinds_of : ℕ → List Kind
kinds_of number =
    if number == THREAD_BEGIN then arg.OfThread ∷ arg.Word ∷ []
    else if number == THREAD_END then arg.Word ∷ []
    else if number == PARALLEL_BEGIN then arg.Word ∷ arg.Frame ∷ arg.Word ∷ arg.Short ∷ arg.ParallelFlags ∷ arg.Place ∷ []
    else if number == PARALLEL_END then arg.Word ∷ arg.Word ∷ arg.ParallelFlags ∷ arg.Place ∷ []
    else if number == TASK_CREATE then arg.Word ∷ arg.Frame ∷ arg.Word ∷ arg.TaskFlags ∷ arg.Zero ∷ arg.Place ∷ []
    else if number == TASK_SCHEDULE then arg.Word ∷ arg.Status ∷ arg.Word ∷ []
    else if number == IMPLICIT_TASK then arg.Endpoint ∷ arg.Word ∷ arg.Word ∷ arg.Short ∷ arg.Short ∷ arg.ImplicitFlags ∷ []
    else if number == SYNC_REGION_WAIT || number == SYNC_REGION then arg.OfSync ∷ arg.Endpoint ∷ arg.Word ∷ arg.Word ∷ arg.Place ∷ []
    else if number == MUTEX_RELEASED then arg.OfRelease ∷ arg.Short ∷ arg.Place ∷ []
    else if number == WORK then arg.OfWork ∷ arg.Endpoint ∷ arg.Word ∷ arg.Word ∷ arg.Long ∷ arg.Place ∷ []
    else if number == MASKED then arg.Endpoint ∷ arg.Word ∷ arg.Word ∷ arg.Place ∷ []
    else if number == LOCK_INIT then arg.OfLock ∷ arg.Zero ∷ arg.Zero ∷ arg.Short ∷ arg.Place ∷ []
    else if number == LOCK_DESTROY then arg.OfLock ∷ arg.Short ∷ arg.Place ∷ []
    else if number == MUTEX_ACQUIRE then arg.OfMutex ∷ arg.Zero ∷ arg.Zero ∷ arg.Short ∷ arg.Place ∷ []
    else if number == MUTEX_ACQUIRED then arg.OfMutex ∷ arg.Short ∷ arg.Place ∷ []
    else if number == DISPATCH then arg.Word ∷ arg.Word ∷ arg.OfDispatch ∷ arg.Long ∷ arg.Iterations ∷ []
    else []

-- the first version has no origin but its own
abbrev pub IsOrigin : ℕ → ℕ → Type 0
IsOrigin version origin = IsAmong (RECORDED ∷ MIGRATED ∷ []) origin × (version ≡ FIRST_VERSION → origin ≡ RECORDED)

-- only callbacks of the profile are registered, and dispatch only where a run was recorded in the second version
pub record IsMask (header : Header) : Type 0 where
  pub long : IsLong header.mask
  pub profile : (number : ℕ) → is_registered header.mask number ≡ true → in_profile number ≡ true
  pub dispatch : is_registered header.mask DISPATCH ≡ true → (header.version ≡ VERSION) × (header.origin ≡ RECORDED)

pub record IsHeader (header : Header) : Type 0 where
  pub version : IsAmong (FIRST_VERSION ∷ VERSION ∷ []) header.version
  pub some : 1 ≤ header.threads
  pub few : header.threads ≤ 16
  pub origin : IsOrigin header.version header.origin
  pub mask : IsMask header

-- an event in a trace with this header
pub record IsEvent (header : Header) (event : EventRecord) : Type 0 where
  pub registered : is_registered header.mask (number_of event.call) ≡ true
  pub thread : event.thread < header.threads
  pub state : IsAmong states event.state
  pub wait_id : IsShort event.wait_id
  pub call : IsCall event.call

-- events whose sequence numbers rise, from this least one on and below the limit
abbrev pub AreEvents : ℕ → Header → ℕ → List EventRecord → Type 0
AreEvents limit header least [] = Unit {0}
AreEvents limit header least (event ∷ rest) =
    (least ≤ event.seq) × (event.seq < limit) × IsEvent header event × AreEvents limit header (event.seq + 1) rest

-- what is told of each status: main's value isn't 0 where it returned another number, and traps and limits have numbers
pub record IsDetail (status detail : ℕ) : Type 0 where
  pub status_is : IsAmong (0 ∷ 1 ∷ 4 ∷ 5 ∷ 6 ∷ []) status
  pub short : IsShort detail
  pub none : IsAmong (0 ∷ 5 ∷ []) status → detail ≡ 0
  pub some : IsAmong (1 ∷ 4 ∷ 6 ∷ []) status → 1 ≤ detail
  pub trap : status ≡ 4 → detail ≤ 10
  pub limit : status ≡ 6 → detail ≤ 7

-- a trace whose sequence numbers lie below this limit
pub record IsTraceBelow (limit : ℕ) (trace : Trace) : Type 0 where
  pub header : IsHeader trace.header
  pub events : AreEvents limit trace.header 0 trace.events
  pub detail : IsDetail trace.end.status trace.end.detail
  pub count : trace.end.count ≡ length trace.events

abbrev pub IsTrace : Trace → Type 0
IsTrace trace = IsTraceBelow SEQ_LIMIT trace

-- the trace is written as these bytes
pub record Writes (trace : Trace) (bytes : List ℕ) : Type 0 where
  pub is_trace : IsTrace trace
  pub bytes_are : bytes ≡ spelling (fields_of trace)
