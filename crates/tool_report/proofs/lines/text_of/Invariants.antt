use Rattle.std.proofs.Common.{◌≡◌, take}
use Rattle.omp_model.specs.Records.{lines_of}
use Rattle.tool_report.proofs.lines.text_of.Given as goal

abbrev pub invariant-loop-event : goal.invariant-loop-event
invariant-loop-event l = l.text.items ≡ lines_of (take l.event-index l.events)
