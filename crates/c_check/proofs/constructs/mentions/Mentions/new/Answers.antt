use Rattle.std.proofs.Common.{refl}
use Rattle.c_check.specs.Constructs.{mention}
use Rattle.c_check.proofs.constructs.mentions.Mentions.new.Goals as goal

pub invariant_of-result : goal.invariant_of-result
unfolding mention
invariant_of-result c = λ slot. rw (c.new.ensures.items, c.new-2.ensures.empty) refl
