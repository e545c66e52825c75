-- Which declarations are in scope where a node of a tree stands.
use Rattle.std.specs.Prelude.{ℕ, ◌==◌, if◌then◌else◌, List, [], ◌∷◌, ◌++◌, map, Option, Some, None}
use Rattle.c_syntax.specs.declared.node.NodeKind.{NodeKind}
use Rattle.c_syntax.specs.declared.node.NodeKind.TheVariants as node
use Rattle.c_syntax.specs.language.Tree.{Tree, Children, name_of}
use Rattle.c_syntax.specs.language.Tree.Tree.{Node}
use Rattle.c_syntax.specs.language.Tree.Children.{Over, Child, Absent}

-- what a name is declared as
pub data Sort : Type 0 where
  variable array lock function : Sort

pub record Declaration : Type 0 where
  pub name : ℕ
  pub sort : Sort

abbrev pub declared_as : Sort → ℕ → List Declaration
declared_as sort name = record { name = name; sort = sort } ∷ []

-- the first of some nodes, and all of them, the last one first
abbrev pub first_as : Sort → Children → List Declaration
first_as sort (Child named rest) = declared_as sort (name_of named)
first_as sort other = []

unfoldable pub each_as : Sort → Children → List Declaration
each_as sort Over = []
each_as sort (Absent rest) = each_as sort rest
each_as sort (Child named rest) = each_as sort rest ++ declared_as sort (name_of named)

-- What a node declares for what stands behind it, the last one first. What is declared in a block ends with it, and so do parameters with
-- their function and the variable of a loop with the loop.
unfoldable mutual
  pub declared : Tree → List Declaration
  declared (Node (node.Function returns) spot name number text children) = first_as Sort.function children
  declared (Node (node.Params which) spot name number text children) = each_as Sort.variable children
  declared (Node node.Globals spot name number text children) = declared_among children
  declared (Node node.GlobalVar spot name number text children) = declared_as Sort.variable name
  declared (Node node.GlobalArray spot name number text children) = declared_as Sort.array name
  declared (Node (node.GlobalSet sign) spot name number text children) = declared_as Sort.variable name
  declared (Node node.Locks spot name number text children) = each_as Sort.lock children
  declared (Node node.Locals spot name number text children) = declared_among children
  declared (Node node.LocalVar spot name number text children) = declared_as Sort.variable name
  declared (Node node.LocalArray spot name number text children) = declared_as Sort.array name
  declared (Node node.LocalSet spot name number text children) = declared_as Sort.variable name
  declared (Node node.Init spot name number text children) = first_as Sort.variable children
  declared (Node other spot name number text children) = []

  pub declared_among : Children → List Declaration
  declared_among Over = []
  declared_among (Absent rest) = declared_among rest
  declared_among (Child tree rest) = declared_among rest ++ declared tree

-- a function's scope begins at its name, so it is in scope inside
abbrev pub declared_inside : NodeKind → Children → List Declaration
declared_inside (node.Function returns) children = first_as Sort.function children
declared_inside other children = []

-- a node of a tree, and the declarations of the tree that are in scope where it stands, the nearest first
pub record Position : Type 0 where
  pub node : Tree
  pub scope : List Declaration

-- positions in the scope of these declarations
abbrev pub under : List Declaration → Position → Position
under scope it = record { node = it.node; scope = it.scope ++ scope }

abbrev pub behind : List Declaration → List Position → List Position
behind scope positions = map (under scope) positions

-- the nodes of a tree, each where it stands: behind its older siblings, in the node around them
unfoldable mutual
  pub positions : Tree → List Position
  positions (Node kind spot name number text children) =
      record { node = Node kind spot name number text children; scope = [] }
      ∷ behind (declared_inside kind children) (positions_among children)

  pub positions_among : Children → List Position
  positions_among Over = []
  positions_among (Absent rest) = positions_among rest
  positions_among (Child tree rest) = positions tree ++ behind (declared tree) (positions_among rest)

-- what a name means: its nearest declaration counts
unfoldable pub meaning : List Declaration → ℕ → Option Sort
meaning [] name = None
meaning (nearest ∷ further) name = if nearest.name == name then Some nearest.sort else meaning further name
