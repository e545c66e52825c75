use Rattle.c_tokens.proofs.Ends.{IsEndOf-through}
use Rattle.c_tokens.proofs.hash_line.pragma_rest.Goals as goal

pub returns-clause-end : goal.returns-clause-end
returns-clause-end c = IsEndOf-through _ _ _ c.in_ok-omp.ensures.end c.in_ok-rest.ensures.end
