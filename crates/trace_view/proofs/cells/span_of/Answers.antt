use Rattle.std.proofs.Common.{arith}
use Rattle.tool_tasks.proofs.Whole.{no_event}
use Rattle.trace_view.proofs.Columns.{span_more}
use Rattle.trace_view.proofs.cells.span_of.Goals as goal

pub loop-event-preserved : goal.loop-event-preserved
loop-event-preserved c =
    let more = span_more c.args.events.now c.loop-event.event-index no_event c.loop-event-test.true in
    record {
      span = omega (arith, more, c.max-span.ensures, c.from.ensures, c.loop-event.invariant.span);
      few = omega (arith, c.max-span.ensures, c.from.ensures, c.loop-event.invariant.few);
    }
