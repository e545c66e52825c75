-- What a program that is made ready to run keeps beside its tree.
use Rattle.std.specs.Prelude.{ℕ, ◌≡◌, List, Option, map}
use Rattle.c_syntax.specs.language.Numbered.{TreeView, root_tree}
use Rattle.c_check.specs.Seen.{slot_of_name}
use Rattle.c_model.specs.Calls.{file_bound}
use Rattle.c_model.specs.Cells.{Bound}
use Rattle.c_model.specs.Parts.{parts}
use Rattle.c_model.specs.Width.{most_of_functions}
use Rattle.c_steps.specs.Functions.{AreFunctions}
use Rattle.c_steps.specs.Widths.{step_names}

-- they are the definitions' values
pub record IsPrepared (program : TreeView) (file : Bound) (functions : List (Option ℕ)) (slots : List ℕ) (width step : ℕ) : Type 0 where
  pub file_is : file ≡ file_bound program
  pub functions_are : AreFunctions program functions
  pub slots_are : slots ≡ map (slot_of_name program) program.trees
  pub width_is : width ≡ most_of_functions program (parts (root_tree program))
  pub step_is : step ≡ step_names program
