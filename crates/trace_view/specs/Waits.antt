-- The waits of a trace: for each construct and each thread how many there were, and how long they took.
use Rattle.std.specs.Prelude.{ℕ, ◌+◌, ◌-◌, ◌*◌, ◌==◌, ◌&&◌, ◌≡◌, ◌<◌, ◌≤◌, ◌⊎◌, Bool, true, false, Contains, List, [], ◌∷◌, ◌++◌, codes, count_by, Option, Some, None, if◌then◌else◌}
use Rattle.std.specs.Bool.{beq}
use Rattle.std.specs.List.{flat_map, sum_by}
use Rattle.std.specs.Fmt.{decimal}
use Rattle.omp_codes.specs.declared.endpoints.TheConstants.{END}
use Rattle.omp_codes.specs.declared.mutex_kinds.TheConstants.{CRITICAL, LOCK, TEST_LOCK}
use Rattle.ompt_calls.specs.declared.call.Call.{Call}
use Rattle.ompt_calls.specs.declared.call.Call.TheVariants.{SyncRegionWait, MutexAcquire, MutexAcquired}
use Rattle.ompt_calls.specs.declared.event.EventRecord.{EventRecord}
use Rattle.ompt_calls.specs.Line.{place_text, spaced}
use Rattle.trace_check.specs.Nested.{last_seq}
use Rattle.trace_view.specs.declared.wait_ends.WaitEnd.{WaitEnd}
use Rattle.trace_view.specs.declared.wait_ends.WaitKey.{WaitKey}
use Rattle.trace_view.specs.Names.{mutex_kind_text, sync_kind_text}

-- A begin or an end of a wait at a barrier or at a taskwait, or for a critical or a lock. A thread that tests a lock doesn't wait.
-- What is waited for, the cause, is a kind of synchronization, or 16 more than a kind of mutex.
abbrev pub mutex_wait : ℕ → ℕ → Bool → Option WaitEnd
mutex_wait kind codeptr is_end = if kind == TEST_LOCK then None else Some (record { place = codeptr; cause = 16 + kind; is_end = is_end })

abbrev pub wait_end : Call → Option WaitEnd
wait_end (SyncRegionWait kind endpoint region task codeptr) = Some (record { place = codeptr; cause = kind; is_end = endpoint == END })
wait_end (MutexAcquire kind hint variant wait_id codeptr) = mutex_wait kind codeptr false
wait_end (MutexAcquired kind wait_id codeptr) = mutex_wait kind codeptr true
wait_end other = None

-- Waits are counted by construct, cause and thread. Both ends of a wait have the same.
abbrev pub key_of : ℕ → WaitEnd → WaitKey
key_of thread wait = record { place = wait.place; cause = wait.cause; thread = thread }

abbrev pub same_key : WaitKey → WaitKey → Bool
same_key key other = (key.place == other.place) && ((key.cause == other.cause) && (key.thread == other.thread))

-- whether an event of a thread is the begin, or the end, of a wait that is counted under the key
abbrev pub is_end_of : WaitKey → Bool → ℕ → Option WaitEnd → Bool
is_end_of key is_end thread None = false
is_end_of key is_end thread (Some wait) = same_key (key_of thread wait) key && beq wait.is_end is_end

abbrev pub is_wait_of : WaitKey → Bool → EventRecord → Bool
is_wait_of key is_end event = is_end_of key is_end event.thread (wait_end event.call)

-- how many waits began and how many of them have ended, and the sums of the positions of their begins and of their ends
abbrev pub begun_waits : WaitKey → List EventRecord → ℕ
begun_waits key events = count_by (is_wait_of key false) events

abbrev pub ended_waits : WaitKey → List EventRecord → ℕ
ended_waits key events = count_by (is_wait_of key true) events

abbrev pub open_waits : WaitKey → List EventRecord → ℕ
open_waits key events = begun_waits key events - ended_waits key events

abbrev pub positions_of : WaitKey → Bool → List EventRecord → ℕ
positions_of key is_end events = sum_by (λ (event : EventRecord). if is_wait_of key is_end event then event.seq else 0) events

-- How many positions the waits took together, from the begin of each to its end. One that has no end takes until the last event.
abbrev pub waited : WaitKey → List EventRecord → ℕ
waited key events = positions_of key true events + open_waits key events * last_seq events - positions_of key false events

-- a wait for a lock or a critical is named by its kind of mutex
abbrev pub cause_text : ℕ → List ℕ
cause_text cause = if cause == 17 then mutex_kind_text LOCK else if cause == 21 then mutex_kind_text CRITICAL else sync_kind_text cause

-- a line: the place, the cause, the thread, how many waits, how long they took, and how many of them have no end
abbrev pub wait_line : List EventRecord → WaitKey → List ℕ
wait_line events key =
    spaced (place_text key.place ∷ cause_text key.cause ∷ decimal key.thread ∷ decimal (begun_waits key events)
    ∷ decimal (waited key events) ∷ decimal (open_waits key events) ∷ []) ++ 10 ∷ []

abbrev pub waits_head : List ℕ
waits_head = codes "place cause thread waits positions open" ++ 10 ∷ []

-- by place, then by cause, then by thread
abbrev pub IsBefore : WaitKey → WaitKey → Type 0
IsBefore key other =
    (key.place < other.place) ⊎ ((key.place ≡ other.place) × ((key.cause < other.cause)
    ⊎ ((key.cause ≡ other.cause) × (key.thread < other.thread))))

abbrev pub AreBefore : WaitKey → List WaitKey → Type 0
AreBefore key [] = Unit {0}
AreBefore key (other ∷ rest) = IsBefore key other × AreBefore other rest

abbrev pub AreInOrder : List WaitKey → Type 0
AreInOrder [] = Unit {0}
AreInOrder (key ∷ rest) = AreBefore key rest

-- The text for these events: a line for each construct, cause and thread with a wait, in order.
pub record IsWaitTable (events : List EventRecord) (text : List ℕ) : Type 0 where
  pub keys : List WaitKey
  pub in_order : AreInOrder keys
  pub some : (key : WaitKey) → Contains keys key → 1 ≤ begun_waits key events
  pub all : (key : WaitKey) → 1 ≤ begun_waits key events → Contains keys key
  pub text_is : text ≡ waits_head ++ flat_map (wait_line events) keys
