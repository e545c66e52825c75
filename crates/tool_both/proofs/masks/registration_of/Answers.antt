use Rattle.std.proofs.Common.{refl}
use Rattle.tool_both.proofs.masks.registration_of.Goals as goal

pub returns-then-answer-eq0-clause-started : goal.returns-then-answer-eq0-clause-started
returns-then-answer-eq0-clause-started g c =
    (c.initialize-answer.new.registrar, rw c.if-answer-eq0.true refl, c.initialize-answer.ensures.started)
