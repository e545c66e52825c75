use Rattle.std.proofs.Common.{sym, ◌∙◌, refl}
use Rattle.trace_check.proofs.kept.Kept.innermost.Goals as goal
use Rattle.trace_check.proofs.Quiet.{quiet_opened}

pub returns-in_default : goal.returns-in_default
returns-in_default c = λ past known thread. rw (quiet_opened c.args.number past (sym c.in_default.is ∙ thread)) refl
