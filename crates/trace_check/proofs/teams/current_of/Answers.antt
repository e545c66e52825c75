use Rattle.std.proofs.Common.{sym, ◌∙◌, refl}
use Rattle.trace_check.proofs.teams.current_of.Goals as goal
use Rattle.trace_check.proofs.Quiet.{quiet_opened}

pub returns-in-None : goal.returns-in-None
returns-in-None c = λ past t known. rw (quiet_opened t past (sym c.in-None.is ∙ known)) refl
