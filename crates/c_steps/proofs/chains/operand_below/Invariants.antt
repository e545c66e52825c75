use Rattle.std.proofs.Common.{◌≡◌, ◌<◌, ◌≤◌, ◌+◌, length}
use Rattle.c_syntax.specs.language.Numbered.{tree_at}
use Rattle.c_steps.specs.Chains.{left_below}
use Rattle.c_steps.proofs.chains.operand_below.Given as goal

-- the node is as many operators down as turns were made
abbrev pub invariant-loop-level : goal.invariant-loop-level
invariant-loop-level l =
    record {
      node : l.below < length l.tree.trees;
      operand : tree_at l.tree.trees l.below ≡ left_below l._level (tree_at l.tree.trees l.node);
      within : l.below + l._level ≤ l.node;
    }
