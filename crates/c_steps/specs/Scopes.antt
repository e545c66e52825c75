-- What expressions are evaluated in.
use Rattle.std.specs.Prelude.{ℕ, ◌++◌, Result, ℤ}
use Rattle.std.specs.Option.{option_map}
use Rattle.c_syntax.specs.language.Tree.{child_of}
use Rattle.c_syntax.specs.language.Numbered.{tree_at}
use Rattle.c_model.specs.Value.{Scope, operand_value, value}
use Rattle.c_steps.specs.declared.scope.Scope.{Scope as Here}
pub use Rattle.c_steps.specs.Views.{HasNumbers}

-- the names of the file come before those of the function
abbrev pub scope_of : Here → Scope
scope_of here = record { env = here.file.now ++ here.names.now; cells = here.cells.now; view = here.view }

-- the number of an operand of a node
abbrev pub operand_at : Here → ℕ → ℕ → Result ℤ ℕ
operand_at here node place = operand_value (option_map (value (scope_of here)) (child_of (tree_at here.tree.now.trees node) place))
