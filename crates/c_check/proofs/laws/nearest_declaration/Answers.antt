use Rattle.c_check.proofs.Nearest.{nearest, no-nearest, none-nearest}
use Rattle.c_check.proofs.laws.nearest_declaration.Goals as goal

pub returns-clause-nearest : goal.returns-clause-nearest
returns-clause-nearest c = nearest

pub returns-clause-none : goal.returns-clause-none
returns-clause-none c = no-nearest

pub returns-clause-no_other : goal.returns-clause-no_other
returns-clause-no_other c = none-nearest
