use Rattle.std.proofs.Common.{◌≡◌, ◌≤◌, take}
use Rattle.trace_view.specs.Svg.{span_of}
use Rattle.trace_view.proofs.cells.span_of.Given as goal

abbrev pub invariant-loop-event : goal.invariant-loop-event
invariant-loop-event l = record {
  span : l.span ≡ span_of (take l.event-index l.events);
  few : l.span ≤ 4294967296;
}
