-- No environment grows past the width.
use Rattle.c_model.proofs.laws.no_environment_grows_past_the_width.Goals as goal
use Rattle.c_model.proofs.WidthGoing.{answer_is_within, event_is_within}
use Rattle.c_model.proofs.WidthSettled.{settled_is_within}
use Rattle.c_model.proofs.WidthSteps.{step_is_within}
use Rattle.c_model.proofs.WidthTasks.{explicit_is_within, main_is_within, member_is_within}

pub returns-clause-main : goal.returns-clause-main
returns-clause-main c = main_is_within

pub returns-clause-step : goal.returns-clause-step
returns-clause-step c = step_is_within

pub returns-clause-answer : goal.returns-clause-answer
returns-clause-answer c = answer_is_within

pub returns-clause-event : goal.returns-clause-event
returns-clause-event c = event_is_within

pub returns-clause-member : goal.returns-clause-member
returns-clause-member c = member_is_within

pub returns-clause-explicit : goal.returns-clause-explicit
returns-clause-explicit c = explicit_is_within

pub returns-clause-settled : goal.returns-clause-settled
returns-clause-settled c = settled_is_within
