use Rattle.run_laws.proofs.Answering.{one-answered, some-answered}
use Rattle.run_laws.proofs.Causes.{cause-whole}
use Rattle.run_laws.proofs.Replying.{replies-may}
use Rattle.run_laws.proofs.laws.answers_make_one_serial_run.Goals as goal

pub returns-clause-there_is : goal.returns-clause-there_is
returns-clause-there_is c = some-answered

pub returns-clause-one : goal.returns-clause-one
returns-clause-one c = one-answered

pub returns-clause-of_replies : goal.returns-clause-of_replies
returns-clause-of_replies c = replies-may

pub returns-clause-ended : goal.returns-clause-ended
returns-clause-ended c = cause-whole
