use Rattle.std.proofs.Common.{refl}
use Rattle.c_check.specs.Seen.{number_among}
use Rattle.c_check.proofs.constructs.criticals.Criticals.new.Goals as goal

pub returns : goal.returns
unfolding number_among
returns c = record { numbers = λ name. rw c.new.ensures.empty refl; count = refl }
