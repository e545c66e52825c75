use Rattle.std.proofs.Common.{◌≡◌, List}
use Rattle.ompt_calls.specs.declared.event.EventRecord.{EventRecord}
use Rattle.tool_report.specs.Moments.{moments_of}
use Rattle.tool_report.specs.Order.{AreKept}
use Rattle.tool_report.specs.Timeline.{span_of, state_line}
use Rattle.tool_report.proofs.Rows.{lines_to}
use Rattle.tool_report.proofs.timeline_report.timeline_text.Given as goal

abbrev pub invariant-loop-thread : goal.invariant-loop-thread
invariant-loop-thread l = (events : List EventRecord) → AreKept moments_of events l.parts → l.text.items ≡ lines_to (state_line l.columns (span_of events)) events l.thread
