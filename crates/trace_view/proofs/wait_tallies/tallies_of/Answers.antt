use Rattle.std.proofs.Common.{get_or, refl}
use Rattle.tool_tasks.proofs.Whole.{no_event}
use Rattle.trace_view.proofs.Counting.{more_counted, none_counted}
use Rattle.trace_view.proofs.wait_tallies.tallies_of.Goals as goal

pub loop-event-init : goal.loop-event-init
loop-event-init c = none_counted c.new-tallies.result c.new-tallies.ensures.empty

pub loop-event-preserved : goal.loop-event-preserved
loop-event-preserved c =
    more_counted c.loop-event.tallies c.count_event.new.tallies c.args.events.now c.loop-event.event-index
    (get_or c.args.events.now c.loop-event.event-index no_event) no_event c.loop-event-test.true refl c.loop-event.invariant
    c.in_ok-count_event.ensures
