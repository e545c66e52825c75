use Rattle.std.proofs.Common.{refl}
use Rattle.c_check.specs.Spots.{number_of_place}
use Rattle.c_check.proofs.constructs.spots.Spots.new.Goals as goal

pub invariant_of-result : goal.invariant_of-result
unfolding number_of_place
invariant_of-result c = λ place. rw (c.new.ensures.items, c.new-2.ensures.empty) refl
