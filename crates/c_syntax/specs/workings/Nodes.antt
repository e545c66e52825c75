-- What the nodes of a table stand for, and what holds of each of them.
use Rattle.std.specs.Prelude.{ℕ, ◌+◌, ◌<◌, ◌≤◌, List, [], ◌∷◌, ◌++◌, length, Option, Some, None, slice_range, slice_index_or}
use Rattle.std.specs.List.{All}
use Rattle.c_syntax.specs.declared.nodes.Node as row
use Rattle.c_syntax.specs.language.Tree.{Tree}
use Rattle.c_syntax.specs.language.Tree.Tree.{Node}
use Rattle.c_syntax.specs.language.Numbered.{children_at}

-- a node, where the nodes before it stand for these trees
abbrev pub tree_of : List (Option ℕ) → List ℕ → List Tree → row.Node → Tree
tree_of children texts trees node =
    Node node.label.kind node.label.spot node.label.name node.label.number
    (slice_range texts node.text.start node.text.end)
    (children_at trees (slice_range children node.children.start node.children.end))

-- these trees, and then those that the nodes stand for
abbrev pub trees_behind : List (Option ℕ) → List ℕ → List Tree → List row.Node → List Tree
trees_behind children texts trees [] = trees
trees_behind children texts trees (node ∷ nodes) = trees_behind children texts (trees ++ tree_of children texts trees node ∷ []) nodes

-- an absent child, or one whose number is smaller
abbrev pub IsBelow : ℕ → Option ℕ → Type 0
IsBelow limit None = Unit {0}
IsBelow limit (Some number) = number < limit

-- what holds of the node with this number: its text and its children lie in the table, the children before it, and fewer than a u32 counts
pub record IsNode (children : List (Option ℕ)) (texts : List ℕ) (number : ℕ) (node : row.Node) : Type 0 where
  pub value : node.label.number ≤ 2147483647
  pub text_start : node.text.start ≤ node.text.end
  pub text_end : node.text.end ≤ length texts
  pub children_start : node.children.start ≤ node.children.end
  pub children_end : node.children.end ≤ length children
  pub few_children : node.children.end < node.children.start + 4294967295
  pub below : All (IsBelow number) (slice_range children node.children.start node.children.end)

abbrev pub AreNodes : List (Option ℕ) → List ℕ → List row.Node → Type 0
AreNodes children texts nodes = (number : ℕ) (other : row.Node) → number < length nodes → IsNode children texts number (slice_index_or nodes number other)
