-- All that a task uses is there.
use Rattle.c_slots.proofs.laws.all_that_a_task_uses_is_there.Goals as goal
use Rattle.c_slots.proofs.Comes.{text_is_whole}

pub returns : goal.returns
returns c = text_is_whole
