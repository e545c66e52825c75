use Rattle.std.proofs.Common.{get_or, refl}
use Rattle.tool_tasks.proofs.Whole.{no_event}
use Rattle.trace_view.proofs.Numbers.{has_crossed}
use Rattle.trace_view.proofs.bold.crossed_tasks.Goals as goal

pub loop-event-preserved : goal.loop-event-preserved
loop-event-preserved c =
    has_crossed c.in_ok-positions.positions c.loop-event.tasks c.add_crossed.new.tasks c.args.chain.now c.args.events.now c.loop-event.event-index
    (get_or c.args.events.now c.loop-event.event-index no_event) no_event c.loop-event-test.true refl c.in_ok-positions.ensures c.loop-event.invariant
    c.in_ok-add_crossed.ensures
