use Rattle.std.proofs.Common.{List, ◌∙◌, ap}
use Rattle.std.specs.List.{flat_map}
use Rattle.std.proofs.lemmas.List.{take_all}
use Rattle.ompt_calls.specs.declared.event.EventRecord.{EventRecord}
use Rattle.tool_report.proofs.merging.gathered.Goals as goal

pub returns : goal.returns
returns c = c.loop-part.invariant ∙ ap (flat_map (λ (part : List EventRecord). part)) (take_all c.loop-part.part-index c.args.parts.now c.loop-part-test.false)
