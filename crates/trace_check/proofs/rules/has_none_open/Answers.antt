use Rattle.std.proofs.Common.{sym, ◌∙◌, refl}
use Rattle.trace_check.proofs.rules.has_none_open.Goals as goal
use Rattle.trace_check.proofs.Quiet.{quiet_opened}

pub returns-in-None : goal.returns-in-None
returns-in-None c = λ past known. rw (quiet_opened c.args.number past (sym c.in-None.is ∙ known)) refl
