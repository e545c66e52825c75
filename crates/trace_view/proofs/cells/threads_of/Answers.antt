use Rattle.std.proofs.Common.{arith}
use Rattle.tool_tasks.proofs.Whole.{no_event}
use Rattle.trace_view.proofs.Columns.{threads_more}
use Rattle.trace_view.proofs.cells.threads_of.Goals as goal

pub loop-event-preserved : goal.loop-event-preserved
loop-event-preserved c =
    let more = threads_more c.args.events.now c.loop-event.event-index no_event c.loop-event-test.true in
    let few = c.requires c.loop-event.event-index no_event c.loop-event-test.true in
    record {
      threads = omega (arith, more, c.max-threads.ensures, c.loop-event.invariant.threads);
      few = omega (arith, few, c.max-threads.ensures, c.loop-event.invariant.few);
    }
