-- The code of each task stands in order.
use Rattle.c_brackets.proofs.laws.code_stays_orderly.Goals as goal
use Rattle.c_brackets.proofs.TurningTasks.{answer_is_orderly, event_is_orderly, explicit_is_orderly, main_is_orderly, member_is_orderly, settled_is_orderly, step_is_orderly}

pub returns-clause-main : goal.returns-clause-main
returns-clause-main c = main_is_orderly

pub returns-clause-step : goal.returns-clause-step
returns-clause-step c = step_is_orderly

pub returns-clause-answer : goal.returns-clause-answer
returns-clause-answer c = answer_is_orderly

pub returns-clause-event : goal.returns-clause-event
returns-clause-event c = event_is_orderly

pub returns-clause-member : goal.returns-clause-member
returns-clause-member c = member_is_orderly

pub returns-clause-explicit : goal.returns-clause-explicit
returns-clause-explicit c = explicit_is_orderly

pub returns-clause-settled : goal.returns-clause-settled
returns-clause-settled c = settled_is_orderly
