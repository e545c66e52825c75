-- The trace of a run: its header, what was heard of its history, and how it ended.
use Rattle.std.specs.Prelude.{ℕ, pos, negsuc, ◌<◌, ◌^◌, ⊤, List, length}
use Rattle.std.specs.Int.{w32, cast_unsigned}
use Rattle.ompt_calls.specs.declared.event.EventRecord.{EventRecord}
use Rattle.omp_model.specs.declared.cause.Cause.{Cause}
use Rattle.omp_model.specs.declared.cause.Cause.TheVariants.{Done, Returned, Trapped, Deadlock, Limit, Memory}
use Rattle.omp_model.specs.declared.history.Entry.{Entry}
use Rattle.omp_model.specs.State.{Run}
use Rattle.omp_model.specs.Records.{records_of}
use Rattle.trace_format.specs.declared.trace.Trace.{Trace}
use Rattle.trace_format.specs.declared.trace.TheConstants.{VERSION, RECORDED}

-- the status of the end mark. A run that found no memory has no trace
abbrev pub status_of : Cause → ℕ
status_of Done = 0
status_of (Returned value) = 1
status_of (Trapped number) = 4
status_of Deadlock = 5
status_of (Limit number) = 6
status_of Memory = 10

-- what the end mark tells beside the status: what main returned, as two's complement, or the number of the trap or of the limit
abbrev pub detail_of : Cause → ℕ
detail_of Done = 0
detail_of (Returned value) = cast_unsigned w32 value
detail_of (Trapped number) = number
detail_of Deadlock = 0
detail_of (Limit number) = number
detail_of Memory = 0

-- the trace of a run with so many threads and these callbacks registered, with these events, that ended in this cause
abbrev pub trace_with : ℕ → ℕ → Cause → List EventRecord → Trace
trace_with threads mask cause events =
    record {
      header = record { version = VERSION; threads = threads; origin = RECORDED; mask = mask };
      events = events;
      end = record { status = status_of cause; detail = detail_of cause; count = length events };
    }

-- the trace of a run with this history
abbrev pub trace_of : Run → Cause → List Entry → Trace
trace_of run cause history = trace_with run.threads run.mask cause (records_of run history)

-- what main returned fits its type, whose least value is -2^31
abbrev pub FitsCause : Cause → Type 0
FitsCause (Returned (pos n)) = n < 2 ^ 31
FitsCause (Returned (negsuc n)) = n < 2 ^ 31
FitsCause other = ⊤
