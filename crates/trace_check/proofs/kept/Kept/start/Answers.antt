use Rattle.std.proofs.Common.{sym, ◌∙◌}
use Rattle.trace_check.proofs.kept.Kept.start.Goals as goal
use Rattle.trace_check.proofs.StartedTask.{started_things, unstarted_things}

pub returns-in-Some-clause-learned : goal.returns-in-Some-clause-learned
returns-in-Some-clause-learned c =
    started_things c.args.self.now c.put_created.new.created c.args.task c.in-Some.created (sym c.get.ensures.value ∙ (sym c.copied.ensures ∙ c.in-Some.is)) c.put_created.ensures

pub returns-in_default-clause-learned : goal.returns-in_default-clause-learned
returns-in_default-clause-learned c = unstarted_things c.args.self.now c.args.task (sym c.get.ensures.value ∙ (sym c.copied.ensures ∙ c.in_default.is))
