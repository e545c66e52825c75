-- Chains of operators: a node with a binary operator, whose left operand is such a node, and so on.
use Rattle.std.specs.Prelude.{ℕ, zero, suc, ◌≡◌, Some}
use Rattle.c_syntax.specs.declared.node.BinaryOp.{BinaryOp}
use Rattle.c_syntax.specs.declared.node.NodeKind.TheVariants as node
use Rattle.c_syntax.specs.language.Tree.{Tree, child_of, kind_of}
use Rattle.c_check.specs.Loops.{child_at}

-- the left operand, the left operand of that, and so on, so many levels down
abbrev pub left_below : ℕ → Tree → Tree
left_below zero tree = tree
left_below (suc levels) tree = left_below levels (child_at tree 0)

-- the tree has a binary operator, and this left operand
pub record IsLeftOf (tree left : Tree) : Type 0 where
  pub operator : BinaryOp
  pub kind_is : kind_of tree ≡ node.Binary operator
  pub left_is : child_of tree 0 ≡ Some left

-- so many operators, each the left operand of the one above it, and a left operand below them
abbrev pub IsChain : ℕ → Tree → Type 0
IsChain zero tree = Unit {0}
IsChain (suc levels) tree = IsLeftOf tree (child_at tree 0) × IsChain levels (child_at tree 0)
