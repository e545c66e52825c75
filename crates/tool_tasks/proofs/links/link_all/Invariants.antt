use Rattle.std.proofs.Common.{◌≤◌, List, length}
use Rattle.ompt_calls.specs.declared.event.EventRecord.{EventRecord}
use Rattle.trace_check.specs.Checking.{Unbroken}
use Rattle.tool_tasks.specs.Holding.{HoldsLinks, HoldsNodes}
use Rattle.tool_tasks.proofs.links.link_all.Given as goal

abbrev pub invariant-loop-rest : goal.invariant-loop-rest
invariant-loop-rest l = record {
  within : l.rest ≤ length l.nodes;
  links : (past : List EventRecord) → Unbroken past → HoldsNodes l.fn.nodes past past → HoldsLinks l.nodes past l.rest;
}

abbrev pub decreases-loop-rest : goal.decreases-loop-rest
decreases-loop-rest l = l.rest
