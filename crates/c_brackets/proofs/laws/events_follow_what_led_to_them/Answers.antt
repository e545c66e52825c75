-- An event follows what led to it.
use Rattle.c_brackets.proofs.laws.events_follow_what_led_to_them.Goals as goal
use Rattle.c_brackets.proofs.TurningLinks.{answer_next, event_follows, event_makes, explicit_next, main_next, member_next, settled_next, step_next}

pub returns-clause-main : goal.returns-clause-main
returns-clause-main c = main_next

pub returns-clause-step : goal.returns-clause-step
returns-clause-step c = step_next

pub returns-clause-answer : goal.returns-clause-answer
returns-clause-answer c = answer_next

pub returns-clause-follows : goal.returns-clause-follows
returns-clause-follows c = event_follows

pub returns-clause-makes : goal.returns-clause-makes
returns-clause-makes c = event_makes

pub returns-clause-member : goal.returns-clause-member
returns-clause-member c = member_next

pub returns-clause-explicit : goal.returns-clause-explicit
returns-clause-explicit c = explicit_next

pub returns-clause-settled : goal.returns-clause-settled
returns-clause-settled c = settled_next
