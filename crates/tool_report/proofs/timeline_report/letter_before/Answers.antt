use Rattle.std.proofs.Common.{◌∙◌}
use Rattle.tool_report.proofs.Fronts.{letter_is}
use Rattle.tool_report.proofs.timeline_report.letter_before.Goals as goal

pub returns-else-past-eq0 : goal.returns-else-past-eq0
returns-else-past-eq0 c = λ events is. c.letter_of.ensures ∙ letter_is c.args.moments.now c.args.past _ events is c.requires c.if-past-eq0.false
