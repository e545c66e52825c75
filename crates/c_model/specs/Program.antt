-- The functions and the variables of a whole program.
use Rattle.std.specs.Prelude.{ℕ, ◌==◌, if◌then◌else◌, Bool, true, false, List, [], ◌∷◌, ◌+◌, ◌*◌}
use Rattle.c_syntax.specs.declared.node.NodeKind.{NodeKind}
use Rattle.c_syntax.specs.declared.node.NodeKind.TheVariants as node
use Rattle.c_syntax.specs.language.Tree.{Tree, kind_of, name_of, spot_of, nothing}
use Rattle.c_syntax.specs.language.Numbered.{TreeView, root_tree}
use Rattle.c_model.specs.declared.limits.TheConstants.{LINE_UNIT}
use Rattle.c_check.specs.Loops.{child_at}
use Rattle.c_model.specs.Parts.{parts}

-- the place of a tree as tools are told it
abbrev pub place_of : Tree → ℕ
place_of tree = (spot_of tree).line * LINE_UNIT + (spot_of tree).column

-- a function: its name, its parameters, its block
abbrev pub is_function : NodeKind → Bool
is_function (node.Function returns) = true
is_function other = false

abbrev pub is_function_named : ℕ → Tree → Bool
is_function_named name tree = if is_function (kind_of tree) then name_of (child_at tree 0) == name else false

unfoldable pub function_among : ℕ → List Tree → Tree
function_among name [] = nothing
function_among name (tree ∷ trees) = if is_function_named name tree then tree else function_among name trees

abbrev pub function_named : TreeView → ℕ → Tree
function_named program name = function_among name (parts (root_tree program))

abbrev pub parameters_of : Tree → List Tree
parameters_of function = parts (child_at function 1)

abbrev pub body_of : Tree → Tree
body_of function = child_at function 2

-- the declarations of variables and locks of the file
abbrev pub is_of_variables : NodeKind → Bool
is_of_variables node.Globals = true
is_of_variables node.Locks = true
is_of_variables other = false

unfoldable pub variables_among : List Tree → List Tree
variables_among [] = []
variables_among (tree ∷ trees) = if is_of_variables (kind_of tree) then tree ∷ variables_among trees else variables_among trees

abbrev pub file_variables : TreeView → List Tree
file_variables program = variables_among (parts (root_tree program))
