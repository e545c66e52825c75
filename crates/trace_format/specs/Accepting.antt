-- How a reader goes from field to field: which one comes next behind the fields of an item that has begun, how long it is, and whether its bytes may
-- stand there. That this is so of exactly the traces is a law of the format. And when an argument is of its kind, whatever its bytes.
use Rattle.std.specs.Prelude.{ℕ, ◌≡◌, ◌+◌, ◌++◌, ◌==◌, ◌&&◌, ◌||◌, not, nat_le, nat_lt, if◌then◌else◌, Bool, true, false, List, [], ◌∷◌, drop, length, Option, Some, None}
use Rattle.std.specs.Int.Bits.{bit_and}
use Rattle.byteorder.specs.Endian.{big_number}
use Rattle.omp_codes.specs.Answers.{in_profile}
use Rattle.omp_codes.specs.States.{states}
use Rattle.omp_codes.specs.declared.callbacks.TheConstants.{PROFILE_MASK, DISPATCH}
use Rattle.omp_codes.specs.declared.dispatch_kinds.TheConstants.{SECTION}
use Rattle.omp_codes.specs.declared.mutex_kinds.TheConstants.{LOCK}
use Rattle.ompt_calls.specs.declared.argument.Argument.{Argument}
use Rattle.ompt_calls.specs.declared.argument.Argument.TheVariants as argument
use Rattle.ompt_calls.specs.declared.call.Call.{Call}
use Rattle.ompt_calls.specs.declared.call.Call.TheVariants.{Dispatch}
use Rattle.ompt_calls.specs.Number.{is_registered}
use Rattle.trace_format.specs.declared.field.Field.{Field}
use Rattle.trace_format.specs.declared.field.Field.TheVariants.{Magic, Version, Threads, Origin, Mask, Number, Seq, Numbered, Count}
use Rattle.trace_format.specs.declared.kind.Kind.{Kind}
use Rattle.trace_format.specs.declared.kind.Kind.TheVariants.{Short, Long, Place, Word, Frame, OfThread, Endpoint, OfSync, OfMutex, OfRelease, OfWork, OfDispatch, Iterations, Status, OfLock, Zero, ParallelFlags, TaskFlags, ImplicitFlags}
use Rattle.trace_format.specs.declared.trace.Header.{Header}
use Rattle.trace_format.specs.declared.trace.TheConstants.{SEQ_LIMIT, FIRST_VERSION, VERSION, RECORDED, MIGRATED}
use Rattle.trace_format.specs.Fields.{magic}
use Rattle.trace_format.specs.Taking.{Stage}
use Rattle.trace_format.specs.Validity.{IsDispatched, IsFrame, IsLong, IsShort, IsWord, dispatch_kinds, is_among, endpoints, implicit_flags, mutex_kinds, parallel_flags, release_kinds, statuses, sync_kinds, task_flags, thread_kinds, work_kinds}
pub use Rattle.trace_format.specs.Validity.{kinds_of}

abbrev pub width_of : Kind → ℕ
width_of Long = 8
width_of Place = 8
width_of Word = 12
width_of Frame = 8
width_of Iterations = 8
width_of other = 4

-- which numbers of 32 bits an argument of the kind may be
abbrev pub accepts_number : Kind → ℕ → Bool
accepts_number Short n = true
accepts_number OfThread n = is_among thread_kinds n
accepts_number Endpoint n = is_among endpoints n
accepts_number OfSync n = is_among sync_kinds n
accepts_number OfMutex n = is_among mutex_kinds n
accepts_number OfRelease n = is_among release_kinds n
accepts_number OfWork n = is_among work_kinds n
accepts_number OfDispatch n = is_among dispatch_kinds n
accepts_number Status n = is_among statuses n
accepts_number OfLock n = n == LOCK
accepts_number Zero n = n == 0
accepts_number ParallelFlags n = n == parallel_flags
accepts_number TaskFlags n = is_among task_flags n
accepts_number ImplicitFlags n = is_among implicit_flags n
accepts_number other n = false

-- which bytes an argument of the kind may have, behind these arguments
abbrev pub accepts_kind : Kind → List (List ℕ) → List ℕ → Bool
accepts_kind Word before bytes = not (big_number 4 bytes == 0) || big_number 8 (drop 4 bytes) == 0
accepts_kind Iterations (region ∷ task ∷ kind ∷ rest) bytes =
    if big_number 4 kind == SECTION then big_number 8 bytes == 0 else nat_le 1 (big_number 8 bytes)
accepts_kind Iterations before bytes = true
accepts_kind Long before bytes = true
accepts_kind Place before bytes = true
accepts_kind Frame before bytes = true
accepts_kind other before bytes = accepts_number other (big_number 4 bytes)

-- the argument is of the kind
abbrev pub IsOf : Kind → Argument → Type 0
IsOf Long (argument.Long n) = IsLong n
IsOf Place (argument.Long n) = IsLong n
IsOf Iterations (argument.Long n) = IsLong n
IsOf Word (argument.Word word) = IsWord word
IsOf Frame (argument.Frame frame) = IsFrame frame
IsOf kind (argument.Short n) = IsShort n × (accepts_number kind n ≡ true)
IsOf kind other = ⊥

-- .. and each of its own
abbrev pub AreOf : List Kind → List Argument → Type 0
AreOf [] [] = Unit {0}
AreOf (kind ∷ kinds) (argument ∷ arguments) = IsOf kind argument × AreOf kinds arguments
AreOf kinds arguments = ⊥

-- what was dispatched has so many iterations as its kind has
abbrev pub HasItsIterations : Call → Type 0
HasItsIterations (Dispatch region task kind start iterations) = IsDispatched kind iterations
HasItsIterations other = Unit {0}

-- the field that comes next, its length, and which bytes it may have
pub record Next : Type 0 where
  pub field : Field
  pub width : ℕ
  pub accepts : List ℕ → Bool

-- which masks a header of this version and origin may have
abbrev pub accepts_mask : ℕ → ℕ → ℕ → Bool
accepts_mask version origin mask =
    bit_and mask PROFILE_MASK == mask && (not (is_registered mask DISPATCH) || (version == VERSION && origin == RECORDED))

abbrev pub header_next : List (List ℕ) → Option Next
header_next [] = Some (record { field = Magic; width = 4; accepts = λ bytes. big_number 4 bytes == big_number 4 magic })
header_next (first ∷ []) =
    Some (record { field = Version; width = 2; accepts = λ bytes. is_among (FIRST_VERSION ∷ VERSION ∷ []) (big_number 2 bytes) })
header_next (first ∷ version ∷ []) =
    Some (record { field = Threads; width = 1; accepts = λ bytes. nat_le 1 (big_number 1 bytes) && nat_le (big_number 1 bytes) 16 })
header_next (first ∷ version ∷ threads ∷ []) =
    Some (record {
      field = Origin;
      width = 1;
      accepts = λ bytes. big_number 1 bytes == RECORDED || (big_number 1 bytes == MIGRATED && big_number 2 version == VERSION);
    })
header_next (first ∷ version ∷ threads ∷ origin ∷ []) =
    Some (record { field = Mask; width = 8; accepts = λ bytes. accepts_mask (big_number 2 version) (big_number 1 origin) (big_number 8 bytes) })
header_next more = None

-- what is told of a status
abbrev pub accepts_detail : ℕ → ℕ → Bool
accepts_detail status detail =
    if status == 1 then nat_le 1 detail
    else if status == 4 then nat_le 1 detail && nat_le detail 10
    else if status == 6 then nat_le 1 detail && nat_le detail 7
    else detail == 0

-- behind the number 0
abbrev pub end_next : Stage → List (List ℕ) → Option Next
end_next stage [] = Some (record { field = Numbered 1; width = 1; accepts = λ bytes. is_among (0 ∷ 1 ∷ 4 ∷ 5 ∷ 6 ∷ []) (big_number 1 bytes) })
end_next stage (status ∷ []) =
    Some (record { field = Numbered 2; width = 4; accepts = λ bytes. accepts_detail (big_number 1 status) (big_number 4 bytes) })
end_next stage (status ∷ detail ∷ []) = Some (record { field = Count; width = 4; accepts = λ bytes. big_number 4 bytes == stage.count })
end_next stage more = None

-- behind these arguments, and where the kinds of the others are these
abbrev pub argument_next : List (List ℕ) → List Kind → List (List ℕ) → Option Next
argument_next before [] rest = None
argument_next before (kind ∷ kinds) [] =
    Some (record { field = Numbered (5 + length before); width = width_of kind; accepts = λ bytes. accepts_kind kind before bytes })
argument_next before (kind ∷ kinds) (bytes ∷ rest) = argument_next (before ++ bytes ∷ []) kinds rest

-- behind the number of a callback
abbrev pub event_next : Header → Stage → ℕ → List (List ℕ) → Option Next
event_next header stage number [] =
    Some (record { field = Seq; width = 4; accepts = λ bytes. nat_le stage.least (big_number 4 bytes) && nat_lt (big_number 4 bytes) SEQ_LIMIT })
event_next header stage number (seq ∷ []) =
    Some (record { field = Numbered 2; width = 1; accepts = λ bytes. nat_lt (big_number 1 bytes) header.threads })
event_next header stage number (seq ∷ thread ∷ []) =
    Some (record { field = Numbered 3; width = 2; accepts = λ bytes. is_among states (big_number 2 bytes) })
event_next header stage number (seq ∷ thread ∷ state ∷ []) = Some (record { field = Numbered 4; width = 4; accepts = λ bytes. true })
event_next header stage number (seq ∷ thread ∷ state ∷ wait_id ∷ arguments) = argument_next [] (kinds_of number) arguments

abbrev pub record_next : Header → Stage → List (List ℕ) → Option Next
record_next header stage [] =
    Some (record {
      field = Number;
      width = 1;
      accepts = λ bytes. big_number 1 bytes == 0 || (in_profile (big_number 1 bytes) && is_registered header.mask (big_number 1 bytes));
    })
record_next header stage (number ∷ rest) =
    if big_number 1 number == 0 then end_next stage rest else event_next header stage (big_number 1 number) rest

-- the field that comes next where an item has begun with these fields, if it isn't whole
abbrev pub next_in : Stage → Option Header → List (List ℕ) → Option Next
next_in stage None fields = header_next fields
next_in stage (Some header) fields = record_next header stage fields

abbrev pub next_of : Stage → List (List ℕ) → Option Next
next_of stage fields = if stage.over then None else next_in stage stage.header fields
