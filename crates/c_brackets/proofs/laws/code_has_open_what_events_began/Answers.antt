-- The code of each task has open what its events began.
use Rattle.c_brackets.proofs.laws.code_has_open_what_events_began.Goals as goal
use Rattle.c_brackets.proofs.TurningTasks.{answer_same, ended_none, event_leads, explicit_none, main_none, member_none, settled_same, step_same}

pub returns-clause-main : goal.returns-clause-main
returns-clause-main c = main_none

pub returns-clause-step : goal.returns-clause-step
returns-clause-step c = step_same

pub returns-clause-answer : goal.returns-clause-answer
returns-clause-answer c = answer_same

pub returns-clause-event : goal.returns-clause-event
returns-clause-event c = event_leads

pub returns-clause-ended : goal.returns-clause-ended
returns-clause-ended c = ended_none

pub returns-clause-member : goal.returns-clause-member
returns-clause-member c = member_none

pub returns-clause-explicit : goal.returns-clause-explicit
returns-clause-explicit c = explicit_none

pub returns-clause-settled : goal.returns-clause-settled
returns-clause-settled c = settled_same
