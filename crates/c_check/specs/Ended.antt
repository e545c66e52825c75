-- What is kept of a program that breaks no rule.
use Rattle.std.specs.Prelude.{◌≡◌}
use Rattle.c_syntax.specs.language.Numbered.{TreeView}
use Rattle.c_check.specs.declared.constructs.criticals.Criticals.{Criticals}
use Rattle.c_check.specs.declared.constructs.task_copies.TaskCopies.{TaskCopies}
use Rattle.c_check.specs.declared.scopes.slots.Slots.{Slots}
use Rattle.c_check.specs.Checked.{Checked, end_of}
use Rattle.c_check.specs.Constructs.{Constructs}
use Rattle.c_check.specs.Copies.{AreCopies}
use Rattle.c_check.specs.Criticals.{AreCriticals}
use Rattle.c_check.specs.Declarations.{Declarations}
use Rattle.c_check.specs.Slots.{AreSlots}

pub record IsChecked (program : TreeView) (names : Declarations) (constructs : Constructs) (slots : Slots) (copies : TaskCopies) (criticals : Criticals) : Type 0 where
  pub names_are : names ≡ (end_of program).names
  pub constructs_are : constructs ≡ (end_of program).constructs
  pub slots_are : AreSlots (end_of program).named slots
  pub copies_are : AreCopies (end_of program).copies copies
  pub criticals_are : AreCriticals (end_of program).criticals criticals
  pub none : Checked program
