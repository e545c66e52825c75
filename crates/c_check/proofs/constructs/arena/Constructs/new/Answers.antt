use Rattle.c_check.proofs.Numbers.{none_kept}
use Rattle.c_check.proofs.constructs.arena.Constructs.new.Goals as goal

pub invariant_of-result : goal.invariant_of-result
invariant_of-result c = rw (c.new.ensures.items, c.new-2.ensures.items, c.new-3.ensures.items, c.new-4.ensures) none_kept
