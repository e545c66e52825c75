-- A check under way.
use Rattle.std.specs.Prelude.{◌≡◌, List}
use Rattle.c_syntax.specs.language.Numbered.{TreeView}
use Rattle.c_check.specs.declared.acts.act.Act.{Act}
use Rattle.c_check.specs.declared.rules.checker.Checker.{Checker}
use Rattle.c_check.specs.Here.{Here}
use Rattle.c_check.specs.Checked.{after_all, broken_by_all, end_of, rule_fault}
use Rattle.c_check.specs.Faults.{first_of}
use Rattle.c_check.specs.Standing.{Stands}

-- the acts that are left take a checker to the end of a program, and to its fault
pub record IsUnderWay (program : TreeView) (checker : Checker) (left : List Act) : Type 0 where
  pub here : Here
  pub stands : Stands checker here
  pub goes_on : after_all here left ≡ end_of program
  pub found : first_of checker.found (broken_by_all here left) ≡ rule_fault program
