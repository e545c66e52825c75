use Rattle.std.proofs.Common.{refl}
use Rattle.c_check.specs.Rules.{is_loop_inside}
use Rattle.c_check.proofs.constructs.inner_loops.InnerLoops.new.Goals as goal

pub invariant_of-result : goal.invariant_of-result
unfolding is_loop_inside
invariant_of-result c = λ slot construct. rw (c.new.ensures.items, c.new-2.ensures.empty) refl
