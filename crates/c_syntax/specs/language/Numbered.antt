-- Trees by their numbers, in a list: a tree and its children have numbers of their own.
use Rattle.std.specs.Prelude.{ℕ, List, [], ◌∷◌, Option, Some, None, slice_index_or}
use Rattle.c_tokens.specs.declared.token.Spot.{Spot}
use Rattle.c_syntax.specs.language.Tree.{Tree, Children, nothing}
use Rattle.c_syntax.specs.language.Tree.Children.{Over, Child, Absent}

-- the tree with a number; a program without anything where there is none
abbrev pub tree_at : List Tree → ℕ → Tree
tree_at trees number = slice_index_or trees number nothing

-- the children with these numbers
abbrev pub children_at : List Tree → List (Option ℕ) → Children
children_at trees [] = Over
children_at trees (None ∷ numbers) = Absent (children_at trees numbers)
children_at trees (Some number ∷ numbers) = Child (tree_at trees number) (children_at trees numbers)

-- What the tree of a program is seen as: the tree that each node stands for, by the node's number, the number of the whole, the place of
-- the end of the text, and the number of the name `main`, or 0
pub record TreeView : Type 0 where
  pub trees : List Tree
  pub root : ℕ
  pub end : Spot
  pub main : ℕ

abbrev pub root_tree : TreeView → Tree
root_tree view = tree_at view.trees view.root
