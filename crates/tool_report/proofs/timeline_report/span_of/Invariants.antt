use Rattle.std.proofs.Common.{◌≡◌, ℕ, ◌<◌, ◌≤◌, List, length, get_or, map}
use Rattle.ompt_calls.specs.declared.event.EventRecord.{EventRecord}
use Rattle.tool_report.specs.Moments.{moments_of}
use Rattle.tool_report.specs.Order.{AreRising}
use Rattle.tool_report.specs.declared.timeline.Moment.{Moment}
use Rattle.tool_report.proofs.Spans.{span_of_first}
use Rattle.tool_report.proofs.timeline_report.span_of.Given as goal

abbrev pub invariant-loop-part : goal.invariant-loop-part
invariant-loop-part l = record {
  few : l.span ≤ 4294967296;
  some : (thread : ℕ) (d : List Moment) → thread < l.part-index → 1 ≤ length (get_or l.parts thread d) → 1 ≤ l.span;
  span : (shares : List (List EventRecord)) → ((k : ℕ) (d : List EventRecord) → k < length shares → AreRising (get_or shares k d)) → l.parts ≡ map moments_of shares → l.span ≡ span_of_first l.part-index shares;
}
