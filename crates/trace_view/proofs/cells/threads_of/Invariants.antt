use Rattle.std.proofs.Common.{◌≡◌, ◌≤◌, take}
use Rattle.trace_view.specs.Svg.{threads_of}
use Rattle.trace_view.proofs.cells.threads_of.Given as goal

abbrev pub invariant-loop-event : goal.invariant-loop-event
invariant-loop-event l = record {
  threads : l.threads ≡ threads_of (take l.event-index l.events);
  few : l.threads ≤ 16;
}
