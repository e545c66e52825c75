use Rattle.c_tokens.proofs.Ending.{ends-one, reads-no_end, read-or-ended}
use Rattle.c_tokens.proofs.laws.read_or_ended.Goals as goal

pub returns-clause-either : goal.returns-clause-either
returns-clause-either c = read-or-ended

pub returns-clause-not_both : goal.returns-clause-not_both
returns-clause-not_both c = reads-no_end

pub returns-clause-one_fault : goal.returns-clause-one_fault
returns-clause-one_fault c = ends-one
