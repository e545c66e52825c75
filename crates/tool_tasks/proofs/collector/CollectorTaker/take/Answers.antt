use Rattle.tool_tasks.specs.Collecting.{trace_in}
use Rattle.tool_tasks.proofs.collector.CollectorTaker.take.Goals as goal
use Rattle.tool_tasks.proofs.Collected.{takes_end, takes_event, takes_header, takes_more}

pub returns-in-More-clause-took : goal.returns-in-More-clause-took
returns-in-More-clause-took c = λ start items took first. takes_more (trace_in start) (trace_in c.args.self.now) items c.args.item.now c.in-More.is took

pub returns-in-Header-clause-took : goal.returns-in-Header-clause-took
returns-in-Header-clause-took c = λ start items took first. takes_header (trace_in start) (trace_in c.args.self.now) items c.args.item.now c.in-Header.header c.in-Header.is took

pub returns-in_ok-push-in-Event-clause-took : goal.returns-in_ok-push-in-Event-clause-took
returns-in_ok-push-in-Event-clause-took c = λ start items took first.
    takes_event (trace_in start) (trace_in c.args.self.now) items c.args.item.now c.in-Event.event c.push.new.self.items c.in-Event.is c.in_ok-push-in-Event.ensures.items took

pub returns-in-End-clause-took : goal.returns-in-End-clause-took
returns-in-End-clause-took c = λ start items took first. takes_end (trace_in start) (trace_in c.args.self.now) items c.args.item.now c.in-End.end c.in-End.is took
