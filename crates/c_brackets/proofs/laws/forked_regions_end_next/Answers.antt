-- A forked region ends next.
use Rattle.c_brackets.proofs.laws.forked_regions_end_next.Goals as goal
use Rattle.c_brackets.proofs.Forking.{forks_next}

pub returns : goal.returns
returns c = forks_next
