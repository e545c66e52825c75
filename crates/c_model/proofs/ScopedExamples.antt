-- Programs that are computed in other files have the forms of a program's tree.
use Rattle.std.specs.Prelude.{◌≡◌, None, refl}
use Rattle.c_check.proofs.Earliest.{none-broken}
use Rattle.c_check.specs.Acts.{acts, each, outside_acts, statements}
use Rattle.c_check.specs.Checked.{after_all, broken_by_all, rule_fault}
use Rattle.c_check.specs.Clauses.{inside_acts}
use Rattle.c_check.specs.Constructs.{loops_in, mention, unlisted_in}
use Rattle.c_check.specs.Declarations.{find, still_in_scope}
use Rattle.c_check.specs.Faults.{first_of}
use Rattle.c_check.specs.Here.{after}
use Rattle.c_check.specs.NameLists.{child_count, names}
use Rattle.c_check.specs.Printed.{numbers_in}
use Rattle.c_check.specs.Rules.{not_listed, spoiled}
use Rattle.c_check.specs.Shares.{copies_around, shared_by_rule}
use Rattle.c_check.specs.Statements.{statement_of}
use Rattle.c_model.specs.Formed.{AreFormed, AreInRow, IsFormed, IsProgramFormed}
use Rattle.c_model.specs.Scoped.{IsWellScoped}
use Rattle.c_model.proofs.Examples.{looping, sharing}
use Rattle.c_model.proofs.Tasks.{creating}
use Rattle.c_model.proofs.ScopeProgram.{well_scoped}
use Rattle.c_model.proofs.Watching.{children}

looping-formed : IsProgramFormed looping
unfolding IsFormed AreFormed AreInRow children
looping-formed = record { kind = refl; formed = search refl }

sharing-formed : IsProgramFormed sharing
unfolding IsFormed AreFormed AreInRow children
sharing-formed = record { kind = refl; formed = search refl }

creating-formed : IsProgramFormed creating
unfolding IsFormed AreFormed AreInRow children
creating-formed = record { kind = refl; formed = search refl }

-- and the first of them breaks no rule, so that its functions use only names that are in scope
looping-unbroken : rule_fault looping ≡ None
unfolding broken_by_all first_of after_all after acts each find still_in_scope names child_count outside_acts inside_acts statements mention not_listed spoiled copies_around shared_by_rule unlisted_in loops_in statement_of numbers_in children
looping-unbroken = refl

looping-scoped : IsWellScoped looping
looping-scoped = well_scoped looping (none-broken looping looping-unbroken) looping-formed
