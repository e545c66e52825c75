use Rattle.std.proofs.Common.{subst, sym}
use Rattle.ompt_cli.specs.Histories.{Certifies}
use Rattle.ompt_cli.proofs.rerunning.rerun_history.Goals as goal

pub returns-in-Ok-clause-certified : goal.returns-in-Ok-clause-certified
returns-in-Ok-clause-certified g c = λ file is certifies.
    c.judge.ensures.certified (subst Certifies (sym (c.in-Ok.ensures.only file is)) certifies)
