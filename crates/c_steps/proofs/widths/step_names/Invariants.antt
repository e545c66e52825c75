use Rattle.std.proofs.Common.{◌≡◌, drop, max}
use Rattle.c_steps.specs.Widths.{most_of_steps}
use Rattle.c_steps.proofs.widths.step_names.Given as goal

abbrev pub invariant-loop-node : goal.invariant-loop-node
invariant-loop-node l = max l.most (most_of_steps (drop l.node l.tree.trees)) ≡ most_of_steps l.tree.trees
