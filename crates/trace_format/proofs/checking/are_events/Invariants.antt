use Rattle.std.proofs.Common.{◌↔◌, drop}
use Rattle.trace_format.specs.declared.trace.TheConstants.{SEQ_LIMIT}
use Rattle.trace_format.specs.Validity.{AreEvents}
use Rattle.trace_format.proofs.checking.are_events.Given as goal

-- the events are those of a trace exactly where the others are
abbrev pub invariant-loop-event : goal.invariant-loop-event
invariant-loop-event l = AreEvents SEQ_LIMIT l.header 0 l.events ↔ AreEvents SEQ_LIMIT l.header l.least (drop l.event-index l.events)
