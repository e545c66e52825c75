use Rattle.std.proofs.Common.{take}
use Rattle.trace_check.specs.Checking.{Checks}
use Rattle.trace_format.specs.Validity.{IsTrace}
use Rattle.tool_tasks.specs.Collecting.{trace_in}
use Rattle.tool_tasks.proofs.collector.Collector.judge.Given as goal

abbrev pub invariant-loop-event : goal.invariant-loop-event
invariant-loop-event l = IsTrace (trace_in l.self) → Checks l.checker l.self.header (take l.event-index l.self.events.items)
