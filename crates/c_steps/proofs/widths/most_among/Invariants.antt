use Rattle.std.proofs.Common.{◌≡◌, drop, max}
use Rattle.c_steps.specs.Widths.{most_among}
use Rattle.c_steps.proofs.widths.most_among.Given as goal

abbrev pub invariant-loop-node : goal.invariant-loop-node
invariant-loop-node l = max l.most (most_among l.inner (drop l.node-index l.nodes)) ≡ most_among l.inner l.nodes
