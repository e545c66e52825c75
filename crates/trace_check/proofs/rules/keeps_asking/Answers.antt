use Rattle.std.proofs.Common.{sym, ◌∙◌, refl}
use Rattle.trace_check.proofs.rules.keeps_asking.Goals as goal
use Rattle.trace_check.proofs.Quiet.{quiet_latest}

pub returns-in_default-thread-2 : goal.returns-in_default-thread-2
returns-in_default-thread-2 c = λ past known. rw (c.in-MutexAcquired.is, quiet_latest c.args.number past (sym c.in_default-thread.is ∙ known)) refl
