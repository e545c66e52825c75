use Rattle.std.proofs.Common.{List, ap, not}
use Rattle.std.specs.List.{filter}
use Rattle.c_model.specs.Clauses.{Listed}
use Rattle.c_model.specs.Copies.{is_own_loop_variable}
use Rattle.c_steps.proofs.ListedNames.{names_from_start}
use Rattle.c_steps.proofs.listed.first_listed.Goals as goal

pub returns-clause-names : goal.returns-clause-names
returns-clause-names c = names_from_start

pub returns-clause-listed : goal.returns-clause-listed
returns-clause-listed c = λ construct. ap (λ (all : List Listed). filter (λ (listed : Listed). not (is_own_loop_variable construct listed.name)) all) (names_from_start construct)
