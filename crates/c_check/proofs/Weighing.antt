-- How heavy children are from a place on.
use Rattle.std.proofs.Common.{◌≡◌, ℕ, zero, suc, ◌+◌, ◌*◌, ◌<◌, ◌≤◌, Some, ap, arith}
use Rattle.c_syntax.specs.declared.node.NodeKind.TheVariants as node
use Rattle.c_syntax.specs.language.Tree.{Tree, Children, at_place, children_of}
use Rattle.c_syntax.specs.language.Tree.Tree.{Node}
use Rattle.c_syntax.specs.language.Tree.Children.{Over, Child, Absent}
use Rattle.c_check.specs.Tasks.{from_place}
use Rattle.c_check.specs.Weights.{walk_weight, weight_among, weight_below, weight_if}
use Rattle.c_check.specs.Steps.{clause_in}
use Rattle.c_check.proofs.Behind.{behind_child}

pub weighs_child : (children : Children) (place next : ℕ) (tree : Tree) → Some tree ≡ at_place children place → next ≡ place + 1 → weight_among (from_place place children) ≡ walk_weight tree + weight_among (from_place next children) + 1
unfolding walk_weight
weighs_child children place next tree at after = ap weight_among (behind_child children place next tree at after)

-- a node is heavier than its children together
pub weight_children : (tree : Tree) → weight_among (from_place 0 (children_of tree)) < walk_weight tree
unfolding walk_weight from_place
weight_children (Node kind spot name number text children) = omega arith

pub weight_is : (tree : Tree) → walk_weight tree ≡ weight_below tree + 1
unfolding walk_weight
weight_is (Node kind spot name number text children) = omega arith

-- children from a later place on are no heavier
pub weighs_part : (children : Children) (place : ℕ) → weight_if (at_place children place) + weight_among (from_place (suc place) children) ≤ weight_among (from_place place children)
unfolding walk_weight from_place
weighs_part Over place = omega arith
weighs_part (Absent rest) zero = omega arith
weighs_part (Child tree rest) zero = omega arith
weighs_part (Absent rest) (suc place) = weighs_part rest place
weighs_part (Child tree rest) (suc place) = weighs_part rest place

-- a node that is a clause is heavier than what is in it
pub weighs_clause : (clause tree : Tree) → Some clause ≡ clause_in tree → weight_among (children_of clause) + 1 ≤ walk_weight tree
unfolding walk_weight from_place
weighs_clause clause (Node (node.Clause lead) spot name number text children) at = inner children at
  where
    inner : (children : Children) → Some clause ≡ at_place children 0 → weight_among (children_of clause) + 1 ≤ 3 * weight_among children + 4
    inner Over at = absurd (cc)
    inner (Absent rest) at = absurd (cc)
    inner (Child tree rest) at = let same : clause ≡ tree = cc in rw same (omega (arith, weight_children tree))
weighs_clause clause (Node other spot name number text children) at = absurd (cc)

pub weighs_parts : (children : Children) → weight_if (at_place children 0) + weight_if (at_place children 1) + weight_if (at_place children 2) + weight_among (from_place 3 children) ≤ weight_among (from_place 0 children)
weighs_parts children = omega (arith, weighs_part children 0, weighs_part children 1, weighs_part children 2)
