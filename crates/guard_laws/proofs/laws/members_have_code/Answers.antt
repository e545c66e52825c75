use Rattle.guard_laws.proofs.Guards.{member-has}
use Rattle.guard_laws.proofs.MemberCodes.{code-after}
use Rattle.guard_laws.proofs.laws.members_have_code.Goals as goal

pub returns-clause-stands : goal.returns-clause-stands
returns-clause-stands c = λ run history t r k some few checked formed legal goes happens. member-has run history t r some few checked formed legal goes k happens

pub returns-clause-code : goal.returns-clause-code
returns-clause-code c = λ run history t r k some few checked formed legal goes happens.
    code-after run history t r k some happens (member-has run history t r some few checked formed legal goes k happens)
