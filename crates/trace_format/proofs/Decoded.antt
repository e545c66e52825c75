-- What is decoded, as functions of the bytes: a callback by its number, an event and an item.
use Rattle.std.proofs.Common.{ℕ, ◌≡◌, ◌-◌, ◌==◌, if◌then◌else◌, List, length, drop, take, Option, Some, None}
use Rattle.std.proofs.lemmas.List.{take_rest}
use Rattle.byteorder.specs.Endian.{big_number}
use Rattle.omp_codes.specs.declared.callbacks.TheConstants.{THREAD_BEGIN, THREAD_END, PARALLEL_BEGIN, PARALLEL_END, TASK_CREATE, TASK_SCHEDULE, IMPLICIT_TASK, SYNC_REGION_WAIT, MUTEX_RELEASED, WORK, MASKED, SYNC_REGION, LOCK_INIT, LOCK_DESTROY, MUTEX_ACQUIRE, MUTEX_ACQUIRED}
use Rattle.ompt_calls.specs.declared.call.Call.{Call}
use Rattle.ompt_calls.specs.declared.call.Call.TheVariants.{ThreadBegin, ThreadEnd, ParallelBegin, ParallelEnd, TaskCreate, TaskSchedule, ImplicitTask, SyncRegionWait, MutexReleased, Work, Masked, SyncRegion, LockInit, LockDestroy, MutexAcquire, MutexAcquired, Dispatch}
use Rattle.ompt_calls.specs.declared.event.EventRecord.{EventRecord}
use Rattle.trace_format.specs.declared.item.Item.{Item}
use Rattle.trace_format.specs.declared.item.Item.TheVariants as item
use Rattle.trace_format.specs.declared.trace.Header.{Header}
use Rattle.trace_format.specs.Decoding.{IsCallIn, IsEventIn, end_in, frame_at, header_in, long_at, short_at, word_at}

-- the callback with this number whose arguments these bytes are
abbrev pub call_in : ℕ → List ℕ → Call
call_in number args =
    if number == THREAD_BEGIN then ThreadBegin (short_at 0 args) (word_at 4 args)
    else if number == THREAD_END then ThreadEnd (word_at 0 args)
    else if number == PARALLEL_BEGIN then ParallelBegin (word_at 0 args) (frame_at 12 args) (word_at 20 args) (short_at 32 args) (short_at 36 args) (long_at 40 args)
    else if number == PARALLEL_END then ParallelEnd (word_at 0 args) (word_at 12 args) (short_at 24 args) (long_at 28 args)
    else if number == TASK_CREATE then TaskCreate (word_at 0 args) (frame_at 12 args) (word_at 20 args) (short_at 32 args) (short_at 36 args) (long_at 40 args)
    else if number == TASK_SCHEDULE then TaskSchedule (word_at 0 args) (short_at 12 args) (word_at 16 args)
    else if number == IMPLICIT_TASK then ImplicitTask (short_at 0 args) (word_at 4 args) (word_at 16 args) (short_at 28 args) (short_at 32 args) (short_at 36 args)
    else if number == SYNC_REGION_WAIT then SyncRegionWait (short_at 0 args) (short_at 4 args) (word_at 8 args) (word_at 20 args) (long_at 32 args)
    else if number == MUTEX_RELEASED then MutexReleased (short_at 0 args) (short_at 4 args) (long_at 8 args)
    else if number == WORK then Work (short_at 0 args) (short_at 4 args) (word_at 8 args) (word_at 20 args) (long_at 32 args) (long_at 40 args)
    else if number == MASKED then Masked (short_at 0 args) (word_at 4 args) (word_at 16 args) (long_at 28 args)
    else if number == SYNC_REGION then SyncRegion (short_at 0 args) (short_at 4 args) (word_at 8 args) (word_at 20 args) (long_at 32 args)
    else if number == LOCK_INIT then LockInit (short_at 0 args) (short_at 4 args) (short_at 8 args) (short_at 12 args) (long_at 16 args)
    else if number == LOCK_DESTROY then LockDestroy (short_at 0 args) (short_at 4 args) (long_at 8 args)
    else if number == MUTEX_ACQUIRE then MutexAcquire (short_at 0 args) (short_at 4 args) (short_at 8 args) (short_at 12 args) (long_at 16 args)
    else if number == MUTEX_ACQUIRED then MutexAcquired (short_at 0 args) (short_at 4 args) (long_at 8 args)
    else Dispatch (word_at 0 args) (word_at 12 args) (short_at 24 args) (long_at 28 args) (long_at 36 args)

abbrev pub event_in : List ℕ → EventRecord
event_in bytes =
    record {
      seq = short_at 1 bytes;
      thread = big_number 1 (drop 5 bytes);
      state = big_number 2 (drop 6 bytes);
      wait_id = short_at 8 bytes;
      call = call_in (big_number 1 bytes) (drop 12 bytes);
    }

-- the item whose bytes these are, where the header has come or not
abbrev pub item_in : Option Header → List ℕ → Item
item_in None bytes = item.Header (header_in bytes)
item_in (Some header) bytes = if big_number 1 bytes == 0 then item.End (end_in bytes) else item.Event (event_in bytes)

-- an event that was made of its parts
pub event_made : (bytes : List ℕ) (seq thread state wait_id number : ℕ) (call : Call) → seq ≡ short_at 1 bytes → thread ≡ big_number 1 (drop 5 bytes) → state ≡ big_number 2 (drop 6 bytes) → wait_id ≡ short_at 8 bytes → number ≡ big_number 1 bytes → IsCallIn number (take (length bytes - 12) (drop 12 bytes)) call → IsEventIn bytes (record { seq = seq; thread = thread; state = state; wait_id = wait_id; call = call })
event_made bytes seq thread state wait_id number call e1 e2 e3 e4 e5 is =
    record { seq = e1; thread = e2; state = e3; wait_id = e4; call = rw (take_rest, e5) at is }
