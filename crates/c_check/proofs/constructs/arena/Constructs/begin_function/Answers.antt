use Rattle.c_check.proofs.Numbers.{none_open}
use Rattle.c_check.proofs.constructs.arena.Constructs.begin_function.Goals as goal

pub invariant_of-self : goal.invariant_of-self
invariant_of-self c = rw c.clear.ensures.items (none_open _ _ _ _ c.self.invariant)
