use Rattle.std.proofs.Common.{◌≡◌, ◌<◌, ◌+◌, length, sum_by}
use Rattle.std.specs.List.{All, list_any}
use Rattle.c_syntax.specs.language.Numbered.{tree_at}
use Rattle.c_check.specs.Loops as loops
use Rattle.c_check.specs.Tasks.{children_left}
use Rattle.c_check.specs.Weights.{weight_among}
use Rattle.c_check.proofs.acts.shared_loops.stands_in.Given as goal

-- the name stands in the expression exactly if it stands in what isn't looked at yet
abbrev pub invariant-loop-node : goal.invariant-loop-node
invariant-loop-node l = record {
  left : list_any (λ at. loops.stands_among l.name (children_left l.tree.trees at.0 at.1)) l.left.items ≡ loops.stands_in l.name (tree_at l.tree.trees l.expression);
  there : All (λ at. at.0 < length l.tree.trees) l.left.items;
}

abbrev pub decreases-loop-node : goal.decreases-loop-node
decreases-loop-node l = sum_by (λ at. weight_among (children_left l.tree.trees at.0 at.1) + 1) l.left.items
