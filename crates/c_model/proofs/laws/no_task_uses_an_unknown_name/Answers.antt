-- No task uses a name that isn't in scope.
use Rattle.c_model.proofs.laws.no_task_uses_an_unknown_name.Goals as goal
use Rattle.c_model.proofs.GrammarTrees.{spelled_is_formed}
use Rattle.c_model.proofs.ScopeProgram.{well_scoped}
use Rattle.c_model.proofs.ScopeTasks.{answer_is_scoped, event_is_scoped, explicit_is_scoped, main_is_scoped, member_is_scoped, settled_is_scoped, step_is_scoped}

pub returns-clause-checked : goal.returns-clause-checked
returns-clause-checked c = λ words program spells checked. well_scoped program checked (spelled_is_formed words program spells)

pub returns-clause-main : goal.returns-clause-main
returns-clause-main c = main_is_scoped

pub returns-clause-step : goal.returns-clause-step
returns-clause-step c = step_is_scoped

pub returns-clause-answer : goal.returns-clause-answer
returns-clause-answer c = answer_is_scoped

pub returns-clause-event : goal.returns-clause-event
returns-clause-event c = event_is_scoped

pub returns-clause-member : goal.returns-clause-member
returns-clause-member c = member_is_scoped

pub returns-clause-explicit : goal.returns-clause-explicit
returns-clause-explicit c = explicit_is_scoped

pub returns-clause-settled : goal.returns-clause-settled
returns-clause-settled c = settled_is_scoped
