use Rattle.std.proofs.Common.{◌≡◌, ◌-◌, ◌≤◌, List, length}
use Rattle.ompt_calls.specs.declared.event.EventRecord.{EventRecord}
use Rattle.tool_report.specs.Moments.{moments_of}
use Rattle.tool_report.specs.Order.{AreRising}
use Rattle.tool_report.proofs.Fronts.{up_to}
use Rattle.tool_report.proofs.timeline_report.passed.Given as goal

abbrev pub invariant-loop-passed : goal.invariant-loop-passed
invariant-loop-passed l = record {
  within : l.passed ≤ length l.moments;
  front : (events : List EventRecord) → AreRising events → l.moments ≡ moments_of events → l.from ≤ length (up_to l.position events) → l.passed ≤ length (up_to l.position events);
}

abbrev pub decreases-loop-passed : goal.decreases-loop-passed
decreases-loop-passed l = length l.moments - l.passed
