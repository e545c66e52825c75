use Rattle.c_check.proofs.InnerLoops.{one_more_inside}
use Rattle.c_check.proofs.constructs.inner_loops.InnerLoops.add.Goals as goal

pub invariant_of-self-2 : goal.invariant_of-self-2
invariant_of-self-2 c = λ slot construct. rw (c.in_ok-push.ensures.items, c.in_ok-reserve.ensures.items) (one_more_inside _ c.args.inner _ _ c.self.invariant c.in_ok-insert.ensures.updates.0 slot construct)
