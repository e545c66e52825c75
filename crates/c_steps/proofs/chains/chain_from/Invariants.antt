use Rattle.std.proofs.Common.{◌≡◌, ◌<◌, ◌≤◌, ◌+◌, length}
use Rattle.c_syntax.specs.language.Numbered.{tree_at}
use Rattle.c_steps.specs.Chains.{IsChain, left_below}
use Rattle.c_steps.proofs.chains.chain_from.Given as goal

-- so far it is a chain, and the lowest node is the one below it
abbrev pub invariant-loop-left : goal.invariant-loop-left
invariant-loop-left l =
    record {
      node : l.chain.lowest < length l.tree.trees;
      chain : IsChain l.chain.levels (tree_at l.tree.trees l.node);
      lowest : tree_at l.tree.trees l.chain.lowest ≡ left_below l.chain.levels (tree_at l.tree.trees l.node);
      within : l.chain.lowest + l.chain.levels ≤ l.node;
    }

abbrev pub decreases-loop-left : goal.decreases-loop-left
decreases-loop-left l = l.chain.lowest
