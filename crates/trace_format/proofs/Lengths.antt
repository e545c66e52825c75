-- How long items are.
use Rattle.std.proofs.Common.{◌≡◌, ℕ, ◌+◌, ◌≤◌, List, [], ◌∷◌, ◌++◌, length, refl, sym, ap, ap₂, arith}
use Rattle.ompt_calls.specs.declared.call.Call.{Call}
use Rattle.ompt_calls.specs.declared.call.Call.TheVariants.{ThreadBegin, ThreadEnd, ParallelBegin, ParallelEnd, TaskCreate, TaskSchedule, ImplicitTask, SyncRegionWait, MutexReleased, Work, Masked, SyncRegion, LockInit, LockDestroy, MutexAcquire, MutexAcquired, Dispatch}
use Rattle.ompt_calls.specs.declared.event.EventRecord.{EventRecord}
use Rattle.trace_format.specs.declared.item.Item.{Item}
use Rattle.trace_format.specs.declared.item.Item.TheVariants as item
use Rattle.trace_format.specs.declared.trace.EndMark.{EndMark}
use Rattle.trace_format.specs.declared.trace.Header.{Header}
use Rattle.trace_format.specs.Fields.{Spelt, arguments, numbered_from, spelling}
use Rattle.trace_format.specs.Items.{item_bytes, item_fields}
use Rattle.trace_format.specs.Reached.{flat}

-- the arguments of a callback
pub spelling_numbered : (place : ℕ) (fields : List (List ℕ)) → spelling (numbered_from place fields) ≡ flat fields
spelling_numbered place [] = refl
spelling_numbered place (bytes ∷ fields) = ap (λ (bs : List ℕ). bytes ++ bs) (spelling_numbered (place + 1) fields)

pub arguments_short : (call : Call) → length (flat (arguments call)) ≤ 48
arguments_short (ThreadBegin kind thread) = omega arith
arguments_short (ThreadEnd thread) = omega arith
arguments_short (ParallelBegin task of_task region requested flags codeptr) = omega arith
arguments_short (ParallelEnd region task flags codeptr) = omega arith
arguments_short (TaskCreate task of_task fresh flags has_dependences codeptr) = omega arith
arguments_short (TaskSchedule prior status next) = omega arith
arguments_short (ImplicitTask endpoint region task actual index flags) = omega arith
arguments_short (SyncRegionWait kind endpoint region task codeptr) = omega arith
arguments_short (MutexReleased kind wait_id codeptr) = omega arith
arguments_short (Work kind endpoint region task count codeptr) = omega arith
arguments_short (Masked endpoint region task codeptr) = omega arith
arguments_short (SyncRegion kind endpoint region task codeptr) = omega arith
arguments_short (LockInit kind hint variant wait_id codeptr) = omega arith
arguments_short (LockDestroy kind wait_id codeptr) = omega arith
arguments_short (MutexAcquire kind hint variant wait_id codeptr) = omega arith
arguments_short (MutexAcquired kind wait_id codeptr) = omega arith
arguments_short (Dispatch region task kind start iterations) = omega arith

pub header_length : (header : Header) → length (item_bytes (item.Header header)) ≡ 16
header_length header = refl

pub event_short : (event : EventRecord) → length (item_bytes (item.Event event)) ≤ 60
event_short event =
    let args = ap (λ (bs : List ℕ). length bs) (spelling_numbered 5 (arguments event.call)) in
    omega (arith, args, arguments_short event.call)

pub end_length : (end : EndMark) → length (item_bytes (item.End end)) ≡ 10
end_length end = refl

pub item_short : (it : Item) → length (item_bytes it) ≤ 60
item_short item.More = omega arith
item_short (item.Header header) = omega (arith, header_length header)
item_short (item.Event event) = event_short event
item_short (item.End end) = omega (arith, end_length end)

-- the first two fields of an item
first_two : (a b c d : Spelt) (us vs : List Spelt) → a ∷ b ∷ us ≡ c ∷ d ∷ vs → length c.bytes + length d.bytes ≡ length a.bytes + length b.bytes
first_two a b c d us vs same = let one : a ≡ c = cc in let two : b ≡ d = cc in ap₂ (λ (x y : Spelt). length x.bytes + length y.bytes) (sym one) (sym two)

pub two_short : (it : Item) (a b : Spelt) (more : List Spelt) → item_fields it ≡ a ∷ b ∷ more → length a.bytes + length b.bytes ≤ 6
two_short item.More a b more same = absurd (cc)
two_short (item.Header header) a b more same = omega (arith, first_two _ _ a b _ more same)
two_short (item.Event event) a b more same = omega (arith, first_two _ _ a b _ more same)
two_short (item.End end) a b more same = omega (arith, first_two _ _ a b _ more same)
