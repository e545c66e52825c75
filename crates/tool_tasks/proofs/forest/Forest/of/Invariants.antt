use Rattle.std.proofs.Common.{reverse, take}
use Rattle.trace_check.specs.Checking.{Unbroken}
use Rattle.tool_tasks.specs.Holding.{Builds, HoldsChains}
use Rattle.tool_tasks.proofs.forest.Forest.of.Given as goal

abbrev pub invariant-loop-event : goal.invariant-loop-event
invariant-loop-event l = record {
  builds : Builds l.builder (reverse (take l.event-index l.trace.events));
  chains : HoldsChains l.chains (reverse (take l.event-index l.trace.events));
  unbroken : Unbroken (reverse (take l.event-index l.trace.events));
}
