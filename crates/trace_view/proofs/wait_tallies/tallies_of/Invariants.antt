use Rattle.std.proofs.Common.{take}
use Rattle.trace_view.specs.WaitTallies.{HasTallies}
use Rattle.trace_view.proofs.wait_tallies.tallies_of.Given as goal

abbrev pub invariant-loop-event : goal.invariant-loop-event
invariant-loop-event l = HasTallies l.tallies (take l.event-index l.events)
