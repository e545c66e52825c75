use Rattle.std.proofs.Common.{sym, ◌∙◌}
use Rattle.trace_check.proofs.kept.Kept.learn.Goals as goal
use Rattle.trace_check.proofs.Learned.{first_known}

pub returns-in_default-clause-learned : goal.returns-in_default-clause-learned
returns-in_default-clause-learned c = λ past known unbroken keeps.
    first_known c.args.self.now c.insert.new.self past c.args.event.now c.begun.result known unbroken keeps
    (sym c.get.ensures.value ∙ (sym c.copied.ensures ∙ c.in_default.is)) c.begun.ensures c.in_ok-insert.ensures.updates
