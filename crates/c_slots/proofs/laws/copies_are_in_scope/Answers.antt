-- What a task copies by rule is in scope.
use Rattle.c_slots.proofs.laws.copies_are_in_scope.Goals as goal
use Rattle.c_slots.proofs.Tasks.{copies_in_scope}

pub returns : goal.returns
returns c = copies_in_scope
