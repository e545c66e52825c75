-- What stands where in the tree of a text: a spot tells the name of a node that has one, and it tells a construct from all others.
use Rattle.std.specs.Prelude.{◌≡◌, ◌≢◌, Bool, true, false, List, [], ◌∷◌, ◌++◌, map, filter}
use Rattle.std.specs.List.{AllPairs, Contains}
use Rattle.c_tokens.specs.declared.token.Spot.{Spot}
use Rattle.c_syntax.specs.declared.node.NodeKind.{NodeKind}
use Rattle.c_syntax.specs.declared.node.NodeKind.TheVariants as node
use Rattle.c_syntax.specs.language.Tree.{Tree, Children, kind_of, name_of, spot_of}
use Rattle.c_syntax.specs.language.Tree.Tree.{Node}
use Rattle.c_syntax.specs.language.Tree.Children.{Over, Child, Absent}

unfoldable mutual
  -- the nodes of a tree in the order of the text, each before those below it
  pub nodes_of : Tree → List Tree
  nodes_of (Node kind spot name number text children) = Node kind spot name number text children ∷ nodes_below children

  pub nodes_below : Children → List Tree
  nodes_below Over = []
  nodes_below (Child tree rest) = nodes_of tree ++ nodes_below rest
  nodes_below (Absent rest) = nodes_below rest

-- nodes with a name that stand at one spot have the same name
abbrev pub HasOneNameAPlace : Tree → Type 0
HasOneNameAPlace tree =
    (one other : Tree) → Contains (nodes_of tree) one → Contains (nodes_of tree) other → name_of one ≢ 0 → name_of other ≢ 0 → spot_of one ≡ spot_of other → name_of one ≡ name_of other

abbrev pub is_construct : NodeKind → Bool
is_construct (node.Construct directive) = true
is_construct other = false

-- the spots of the constructs, in the order of the text
abbrev pub construct_spots : Tree → List Spot
construct_spots tree = map spot_of (filter (λ one. is_construct (kind_of one)) (nodes_of tree))

-- none of them is there twice
abbrev pub HasOneConstructAPlace : Tree → Type 0
HasOneConstructAPlace tree = AllPairs (λ one other. one ≢ other) (construct_spots tree)
