use Rattle.std.proofs.Common.{rules}
use Rattle.c_check.specs.Loops.{stands_in}
use Rattle.c_check.proofs.acts.shared_loops.stands_at.Goals as goal

pub returns-in-None : goal.returns-in-None
unfolding stands_in
returns-in-None c = search rules
