-- Each cell that an explicit task uses was made.
use Rattle.c_slots.proofs.laws.each_cell_of_an_explicit_task_was_made.Goals as goal
use Rattle.c_model.proofs.MadeTasks.{explicit_is_made}
use Rattle.c_slots.proofs.Tasks.{copies_in_scope, settled_is_slotted}

pub returns : goal.returns
returns c = λ program view now codeptr undeferred tree well scoped places slotted made comes.
    explicit_is_made program view now codeptr undeferred tree well scoped made comes (copies_in_scope program _ places (settled_is_slotted program view now.task slotted))
