-- Each cell that a task uses was made.
use Rattle.c_model.proofs.laws.each_cell_that_a_task_uses_was_made.Goals as goal
use Rattle.c_model.proofs.MadeCells.{task_more}
use Rattle.c_model.proofs.MadeTasks.{answer_is_made, event_is_made, explicit_is_made, main_is_made, member_is_made, settled_is_made, step_is_made}

pub returns-clause-main : goal.returns-clause-main
returns-clause-main c = main_is_made

pub returns-clause-step : goal.returns-clause-step
returns-clause-step c = step_is_made

pub returns-clause-answer : goal.returns-clause-answer
returns-clause-answer c = answer_is_made

pub returns-clause-event : goal.returns-clause-event
returns-clause-event c = event_is_made

pub returns-clause-member : goal.returns-clause-member
returns-clause-member c = member_is_made

pub returns-clause-explicit : goal.returns-clause-explicit
returns-clause-explicit c = explicit_is_made

pub returns-clause-settled : goal.returns-clause-settled
returns-clause-settled c = settled_is_made

pub returns-clause-others : goal.returns-clause-others
returns-clause-others c = task_more
