use Rattle.std.proofs.Common.{take}
use Rattle.trace_view.specs.Bold.{HasNumbers}
use Rattle.trace_view.specs.Dot.{crossed_tasks}
use Rattle.trace_view.proofs.bold.crossed_tasks.Given as goal

abbrev pub invariant-loop-event : goal.invariant-loop-event
invariant-loop-event l = HasNumbers l.tasks (crossed_tasks l.chain (take l.event-index l.events))
