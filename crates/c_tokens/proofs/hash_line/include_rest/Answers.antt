use Rattle.c_tokens.proofs.Ends.{IfSome-end, IsEndOf-through}
use Rattle.c_tokens.proofs.hash_line.include_rest.Goals as goal

pub returns-in-Some-clause-end : goal.returns-in-Some-clause-end
returns-in-Some-clause-end c = IsEndOf-through _ _ _ c.in_ok-file.ensures.end c.in-Some.ensures.end

pub returns-in-None-clause-end : goal.returns-in-None-clause-end
returns-in-None-clause-end c = IfSome-end _ _ _ c.in_ok-file.ensures.end c.next_word-in-None.ensures.end
