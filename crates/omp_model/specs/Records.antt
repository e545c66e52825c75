-- The records of a history, and their lines.
use Rattle.std.specs.Prelude.{ℕ, List, map}
use Rattle.std.specs.List.{flat_map}
use Rattle.ompt_calls.specs.Item.{Item}
use Rattle.ompt_calls.specs.Line.{line_text}
use Rattle.omp_model.specs.declared.history.Entry.{Entry}
use Rattle.ompt_calls.specs.declared.event.EventRecord.{EventRecord}
use Rattle.omp_model.specs.State.{Run}
use Rattle.omp_model.specs.Heard.{heard}

-- what is recorded of an item
abbrev pub record_of : Item → EventRecord
record_of item =
    record {
      seq = item.seq;
      thread = item.thread;
      state = item.snapshot.state;
      wait_id = item.snapshot.wait_id;
      call = item.call;
    }

-- the records of what is heard of a history on all threads, in order of position
abbrev pub records_of : Run → List Entry → List EventRecord
records_of run history = map record_of (heard run history)

-- a line for each record
abbrev pub lines_of : List EventRecord → List ℕ
lines_of records = flat_map (λ (event : EventRecord). line_text event.seq event.thread event.call) records
