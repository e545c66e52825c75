use Rattle.std.proofs.Common.{sym, ◌∙◌, refl}
use Rattle.trace_check.proofs.rules.is_current.Goals as goal
use Rattle.trace_check.proofs.Quiet.{quiet_opened}

pub returns-in_default-2 : goal.returns-in_default-2
returns-in_default-2 c = λ past known. rw (quiet_opened c.args.number past (sym c.in_default.is ∙ known)) refl
