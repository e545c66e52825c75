-- A check under way goes on with each act, and ends where none is left.
use Rattle.std.proofs.Common.{◌≡◌, List, [], ◌∷◌, Option, sym, ap, subst, ◌∙◌}
use Rattle.c_syntax.specs.language.Numbered.{TreeView}
use Rattle.c_check.specs.declared.acts.act.Act.{Act}
use Rattle.c_check.specs.declared.rules.checker.Checker.{Checker}
use Rattle.c_check.specs.declared.fault.CheckFault.{CheckFault}
use Rattle.c_check.specs.Here.{Here, after}
use Rattle.c_check.specs.Checked.{after_all, broken_by, broken_by_all, end_of, rule_fault}
use Rattle.c_check.specs.Faults.{first_of}
use Rattle.c_check.specs.Standing.{DoesAct, Stands}
use Rattle.c_check.specs.Under.{IsUnderWay}
use Rattle.c_check.proofs.Found.{first_of_append, first_of_nothing}

pub under-more : (program : TreeView) (old new : Checker) (one : Act) (left : List Act) → IsUnderWay program old (one ∷ left) → DoesAct old one new → IsUnderWay program new left
unfolding after_all broken_by_all
under-more program old new one left under does = record {
  here = after under.here one;
  stands = does.stands under.here under.stands;
  goes_on = under.goes_on;
  found =
      ap (λ (known : Option CheckFault). first_of known (broken_by_all (after under.here one) left)) (does.found under.here under.stands)
      ∙ sym (first_of_append old.found (broken_by under.here one) (broken_by_all (after under.here one) left))
      ∙ under.found;
}

pub under-stands : (program : TreeView) (checker : Checker) → IsUnderWay program checker [] → Stands checker (end_of program)
unfolding after_all
under-stands program checker under = subst (λ (here : Here). Stands checker here) under.goes_on under.stands

pub under-found : (program : TreeView) (checker : Checker) → IsUnderWay program checker [] → checker.found ≡ rule_fault program
unfolding broken_by_all
under-found program checker under = sym (first_of_nothing checker.found) ∙ under.found
