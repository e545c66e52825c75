use Rattle.trace_check.proofs.Stages.{tells_end, tells_event, tells_header, tells_more, tells_unheard}
use Rattle.trace_check.proofs.told.ToldTaker.take.Goals as goal

pub returns-in-More-clause-took : goal.returns-in-More-clause-took
returns-in-More-clause-took c = λ start. tells_more c.args.self.now c.args.item.now c.in-More.is

pub returns-in-Header-clause-took : goal.returns-in-Header-clause-took
returns-in-Header-clause-took c =
    λ start. tells_header c.new.result c.args.self.now c.args.item.now c.in-Header.header c.in-Header.is c.new.ensures.checks

pub returns-in_ok-step-in-Event-clause-took : goal.returns-in_ok-step-in-Event-clause-took
returns-in_ok-step-in-Event-clause-took c =
    λ start.
    tells_event c.in-Some.checker c.step.new.self c.args.self.now c.args.item.now c.in-Event.event c.in-Event.is c.in-Some.is
    c.in_ok-step-in-Event.ensures.checks

pub returns-in_default-clause-took : goal.returns-in_default-clause-took
returns-in_default-clause-took c = λ start. tells_unheard c.args.self.now c.args.item.now c.in-Event.event c.in-Event.is c.in_default.is

pub returns-in-End-clause-took : goal.returns-in-End-clause-took
returns-in-End-clause-took c = λ start. tells_end c.args.self.now c.args.item.now c.in-End.end c.in-End.is
