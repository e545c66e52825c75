use Rattle.std.proofs.Common.{◌≡◌, ◌≤◌, ◌++◌, List, length, map}
use Rattle.std.specs.List.{range_with_len}
use Rattle.ompt_calls.specs.declared.event.EventRecord.{EventRecord}
use Rattle.tool_report.specs.Moments.{moments_of}
use Rattle.tool_report.specs.Order.{AreRising}
use Rattle.tool_report.specs.Timeline.{column_end, column_letter}
use Rattle.tool_report.proofs.Fronts.{up_to}
use Rattle.tool_report.proofs.timeline_report.push_letters.Given as goal

abbrev pub invariant-loop-column : goal.invariant-loop-column
invariant-loop-column l = record {
  within : l.past ≤ length l.moments;
  front : (events : List EventRecord) → AreRising events → l.moments ≡ moments_of events → l.past ≤ length (up_to (column_end l.columns l.span l.column) events);
  text : (events : List EventRecord) → AreRising events → l.moments ≡ moments_of events → l.text.items ≡ l.initial.text.items ++ map (column_letter l.columns l.span events) (range_with_len 0 l.column);
}
