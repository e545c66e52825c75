use Rattle.std.proofs.Common.{◌≡◌, ◌++◌}
use Rattle.tool_tasks.specs.Holding.{walked}
use Rattle.tool_tasks.proofs.forest.walk_back.Given as goal

abbrev pub invariant-loop-left : goal.invariant-loop-left
invariant-loop-left l = l.chain.items ++ walked l.links l.left l.number ≡ l.initial.chain.items ++ walked l.links l.fn.reach.length l.fn.reach.link

abbrev pub decreases-loop-left : goal.decreases-loop-left
decreases-loop-left l = l.left
