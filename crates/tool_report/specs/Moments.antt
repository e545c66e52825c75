-- When a thread was in which state.
use Rattle.std.specs.Prelude.{List, map}
use Rattle.ompt_calls.specs.declared.event.EventRecord.{EventRecord}
use Rattle.tool_report.specs.declared.timeline.Moment.{Moment}

-- what a timeline keeps of an event: its position, and the state of its thread there
abbrev pub moment_of : EventRecord → Moment
moment_of event = record { seq = event.seq; state = event.state }

abbrev pub moments_of : List EventRecord → List Moment
moments_of events = map moment_of events
