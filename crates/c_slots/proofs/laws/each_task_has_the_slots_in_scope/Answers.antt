-- In a task's scope are the slots in scope where its code stands.
use Rattle.c_slots.proofs.laws.each_task_has_the_slots_in_scope.Goals as goal
use Rattle.c_slots.proofs.Files.{well_slotted}
use Rattle.c_slots.proofs.Tasks.{answer_is_slotted, event_is_slotted, explicit_is_slotted, main_is_slotted, member_is_slotted, settled_is_slotted, step_is_slotted}

pub returns-clause-checked : goal.returns-clause-checked
returns-clause-checked c = λ program own checked formed. well_slotted program own checked formed

pub returns-clause-main : goal.returns-clause-main
returns-clause-main c = main_is_slotted

pub returns-clause-step : goal.returns-clause-step
returns-clause-step c = step_is_slotted

pub returns-clause-answer : goal.returns-clause-answer
returns-clause-answer c = answer_is_slotted

pub returns-clause-event : goal.returns-clause-event
returns-clause-event c = event_is_slotted

pub returns-clause-member : goal.returns-clause-member
returns-clause-member c = member_is_slotted

pub returns-clause-explicit : goal.returns-clause-explicit
returns-clause-explicit c = explicit_is_slotted

pub returns-clause-settled : goal.returns-clause-settled
returns-clause-settled c = settled_is_slotted
