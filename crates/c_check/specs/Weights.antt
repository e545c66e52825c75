-- How much a walk through a tree has left to do at most, so that it comes to an end: each child is looked at up to three times.
use Rattle.std.specs.Prelude.{ℕ, ◌+◌, ◌*◌, Option, Some, None}
use Rattle.c_syntax.specs.language.Tree.{Tree, Children, children_of}
use Rattle.c_syntax.specs.language.Tree.Tree.{Node}
use Rattle.c_syntax.specs.language.Tree.Children.{Over, Child, Absent}

unfoldable mutual
  pub walk_weight : Tree → ℕ
  walk_weight (Node kind spot name number text children) = 3 * weight_among children + 4

  pub weight_among : Children → ℕ
  weight_among Over = 0
  weight_among (Absent rest) = weight_among rest
  weight_among (Child tree rest) = walk_weight tree + weight_among rest + 1

-- what takes the place of a node weighs at most
abbrev pub weight_below : Tree → ℕ
weight_below tree = 3 * weight_among (children_of tree) + 3

abbrev pub weight_if : Option Tree → ℕ
weight_if None = 0
weight_if (Some tree) = walk_weight tree
