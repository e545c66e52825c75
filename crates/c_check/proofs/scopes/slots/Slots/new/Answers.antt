use Rattle.std.proofs.Common.{refl}
use Rattle.c_check.specs.Seen.{slot_in}
use Rattle.c_check.proofs.scopes.slots.Slots.new.Goals as goal

pub returns : goal.returns
unfolding slot_in
returns c = λ spot. rw c.new.ensures.empty refl
