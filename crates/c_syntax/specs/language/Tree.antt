-- The tree of a program: nodes with their children in order, of which some may be absent.
use Rattle.std.specs.Prelude.{ℕ, zero, suc, List, [], ◌∷◌, Option, Some, None}
use Rattle.c_tokens.specs.declared.token.Spot.{Spot}
use Rattle.c_tokens.specs.language.Faults.{nowhere}
use Rattle.c_syntax.specs.declared.node.NodeKind.{NodeKind}
use Rattle.c_syntax.specs.declared.node.NodeKind.TheVariants as node

mutual
  pub data Tree : Type 0 where
    Node : (kind : NodeKind) (spot : Spot) (name number : ℕ) (text : List ℕ) (children : Children) → Tree

  -- the children from the first on; an absent one keeps its place
  pub data Children : Type 0 where
    Over : Children
    Child : Tree → Children → Children
    Absent : Children → Children

abbrev pub kind_of : Tree → NodeKind
kind_of (Node kind spot name number text children) = kind

abbrev pub spot_of : Tree → Spot
spot_of (Node kind spot name number text children) = spot

-- 0 where it has none
abbrev pub name_of : Tree → ℕ
name_of (Node kind spot name number text children) = name

abbrev pub number_of : Tree → ℕ
number_of (Node kind spot name number text children) = number

abbrev pub text_of : Tree → List ℕ
text_of (Node kind spot name number text children) = text

abbrev pub children_of : Tree → Children
children_of (Node kind spot name number text children) = children

abbrev pub at_place : Children → ℕ → Option Tree
at_place Over place = None
at_place (Child tree rest) zero = Some tree
at_place (Absent rest) zero = None
at_place (Child tree rest) (suc place) = at_place rest place
at_place (Absent rest) (suc place) = at_place rest place

-- the child at a place, counted from 0
abbrev pub child_of : Tree → ℕ → Option Tree
child_of tree place = at_place (children_of tree) place

-- the children of a list, which has the last one first
abbrev pub before : List (Option Tree) → Children → Children
before [] children = children
before (None ∷ older) children = before older (Absent children)
before (Some tree ∷ older) children = before older (Child tree children)

abbrev pub children_from : List (Option Tree) → Children
children_from newest = before newest Over

-- a program without anything
abbrev pub nothing : Tree
nothing = Node node.Program nowhere 0 0 [] Over

-- a node over one, and over two: it begins where the first of them does
abbrev pub over_one : NodeKind → Tree → Tree
over_one kind inner = Node kind (spot_of inner) 0 0 [] (Child inner Over)

abbrev pub over_two : NodeKind → Tree → Tree → Tree
over_two kind left right = Node kind (spot_of left) 0 0 [] (Child left (Child right Over))
