use Rattle.std.proofs.Common.{◌-◌, ◌≤◌, length}
use Rattle.trace_view.specs.Cells.{AreAfter, events_before}
use Rattle.trace_view.proofs.cells.take_until.Given as goal

abbrev pub invariant-loop-past : goal.invariant-loop-past
invariant-loop-past l = record {
  least : l.from ≤ l.past;
  front : l.past ≤ length (events_before l.columns l.end l.events);
  cells : AreAfter l.cells l.events l.from l.past;
}

abbrev pub decreases-loop-past : goal.decreases-loop-past
decreases-loop-past l = length l.events - l.past
