-- The parts of a tree: which children there are, and lists of them.
use Rattle.std.specs.Prelude.{ℕ, Bool, List, [], ◌∷◌, ◌++◌, is_some}
use Rattle.c_syntax.specs.declared.node.NodeKind.{NodeKind}
use Rattle.c_syntax.specs.declared.node.NodeKind.TheVariants as node
use Rattle.c_syntax.specs.language.Tree.{Tree, Children, child_of, children_of, kind_of}
use Rattle.c_syntax.specs.language.Tree.Children.{Over, Child, Absent}

abbrev pub has_child : Tree → ℕ → Bool
has_child tree place = is_some (child_of tree place)

-- the children in order, up to the first absent one
unfoldable pub trees_in : Children → List Tree
trees_in Over = []
trees_in (Absent rest) = []
trees_in (Child tree rest) = tree ∷ trees_in rest

abbrev pub parts : Tree → List Tree
parts tree = trees_in (children_of tree)

-- declarations of several names stand for their declarators, one after another: `int a, b;` and `omp_lock_t k, l;`
abbrev pub declarators_in : NodeKind → Tree → List Tree
declarators_in node.Globals tree = parts tree
declarators_in node.Locals tree = parts tree
declarators_in node.Locks tree = parts tree
declarators_in other tree = tree ∷ []

unfoldable pub flat_declarations : List Tree → List Tree
flat_declarations [] = []
flat_declarations (tree ∷ trees) = declarators_in (kind_of tree) tree ++ flat_declarations trees
