-- What a checker stands for.
use Rattle.std.specs.Prelude.{◌≡◌, ℕ, ◌+◌, nat_lt, if◌then◌else◌, Bool, true, false, List, [], ◌∷◌}
use Rattle.c_check.specs.declared.acts.act.Act.{Act}
use Rattle.c_check.specs.declared.fault.CheckFault.{CheckFault}
use Rattle.c_check.specs.declared.rules.checker.Checker.{Checker}
use Rattle.c_check.specs.Cells.{file_cells, most_cells}
use Rattle.c_check.specs.Checked.{broken_by}
use Rattle.c_check.specs.Copies.{AreCopies}
use Rattle.c_check.specs.Criticals.{AreCriticals}
use Rattle.c_check.specs.Faults.{first_of}
use Rattle.c_check.specs.Here.{Here, after}
use Rattle.c_check.specs.Slots.{AreSlots}

-- a count that stands still at one more than the most
abbrev pub up_to_most : ℕ → ℕ
up_to_most count = if nat_lt most_cells count then most_cells + 1 else count

-- a fault, where this is so
abbrev pub if_so : Bool → CheckFault → List CheckFault
if_so true found = found ∷ []
if_so false found = []

-- a checker stands where a program does
pub record Stands (checker : Checker) (here : Here) : Type 0 where
  pub main : checker.main ≡ here.main
  pub names : checker.names ≡ here.names
  pub cells : checker.cells ≡ up_to_most (file_cells here.names.all)
  pub has_main : checker.has_main ≡ here.has_main
  pub returns : checker.returns ≡ here.returns
  pub constructs : checker.constructs ≡ here.constructs
  pub slots : AreSlots here.named checker.slots
  pub copies : AreCopies here.copies checker.copies
  pub criticals : AreCriticals here.criticals checker.criticals

-- it did this act: it stands where the program does after it, and knows the first fault with what it breaks
pub record DoesAct (old : Checker) (act : Act) (new : Checker) : Type 0 where
  pub stands : (here : Here) → Stands old here → Stands new (after here act)
  pub found : (here : Here) → Stands old here → new.found ≡ first_of old.found (broken_by here act)
