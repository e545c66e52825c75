-- How many names a program has in scope at most, by the numbers of its nodes, and how many one step brings into scope.
use Rattle.std.specs.Prelude.{ℕ, ◌+◌, max, Bool, true, false, List, [], ◌∷◌, length, Option, Some, None, slice_index_or}
use Rattle.std.specs.List.{count_by}
use Rattle.c_syntax.specs.language.Tree.{Tree, kind_of}
use Rattle.c_syntax.specs.language.Numbered.{TreeView}
use Rattle.c_model.specs.Clauses.{clauses_of, listed_among}
use Rattle.c_model.specs.Parts.{parts}
use Rattle.c_model.specs.Task.{is_declarator}

-- the number that a node has, and the greatest of some nodes
abbrev pub number_at : List ℕ → Option ℕ → ℕ
number_at numbers None = 0
number_at numbers (Some node) = slice_index_or numbers node 0

unfoldable pub most_among : List ℕ → List (Option ℕ) → ℕ
most_among numbers [] = 0
most_among numbers (node ∷ nodes) = max (number_at numbers node) (most_among numbers nodes)

abbrev pub count_of : Bool → ℕ
count_of true = 1
count_of false = 0

abbrev pub declarators_among : List Tree → ℕ
declarators_among trees = count_by (λ (part : Tree). is_declarator (kind_of part)) trees

-- A step that begins a call brings the function's parameters into scope, the children of a tree, and the variable that the call sets, where
-- that is a declarator's. A step that makes a construct's own cells brings the variables that its clauses list, and its loop's variable.
abbrev pub names_of_step : Tree → ℕ
names_of_step tree = max (length (parts tree)) (length (listed_among (clauses_of tree)))

unfoldable pub most_of_steps : List Tree → ℕ
most_of_steps [] = 0
most_of_steps (tree ∷ trees) = max (names_of_step tree) (most_of_steps trees)

-- no silent step brings more names into scope
abbrev pub step_names : TreeView → ℕ
step_names program = most_of_steps program.trees + 1
