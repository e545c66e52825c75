use Rattle.std.proofs.Common.{take, subst}
use Rattle.trace_check.specs.Checking.{Checks}
use Rattle.trace_format.specs.declared.trace.TheConstants.{SEQ_LIMIT}
use Rattle.tool_tasks.proofs.collector.Collector.judge.Goals as goal
use Rattle.tool_tasks.proofs.Rising.{checks_next}
use Rattle.tool_tasks.proofs.Whole.{all_taken, no_event, rising}

pub loop-event-preserved : goal.loop-event-preserved
loop-event-preserved c = λ valid.
    checks_next c.loop-event.checker c.step.new.self c.args.self.now.header c.args.self.now.events.items c.deref-event-items.result.now c.loop-event.event-index no_event
    (rising SEQ_LIMIT c.args.self.now.header 0 c.args.self.now.events.items valid.events) c.deref-event-items.ensures.value c.loop-event-test.true (c.loop-event.invariant valid)
    (c.in-Ok.ensures.checks c.args.self.now.header (take c.loop-event.event-index c.args.self.now.events.items) (c.loop-event.invariant valid))

pub returns-in-Ok-verdict : goal.returns-in-Ok-verdict
returns-in-Ok-verdict c = λ valid.
    c.in-Ok-verdict.ensures c.args.self.now.header c.args.self.now.events.items (subst (Checks c.loop-event.checker c.args.self.now.header)
    (all_taken c.args.self.now.events.items c.deref-event-items.result.now c.loop-event.event-index c.deref-event-items.ensures.value c.loop-event-test.false)
    (c.loop-event.invariant valid))

pub returns : goal.returns
returns c = λ valid.
    c.in-Err.ensures c.args.self.now.header c.args.self.now.events.items (subst (Checks c.loop-event.checker c.args.self.now.header)
    (all_taken c.args.self.now.events.items c.deref-event-items.result.now c.loop-event.event-index c.deref-event-items.ensures.value c.loop-event-test.false)
    (c.loop-event.invariant valid))
