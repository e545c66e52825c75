use Rattle.c_tokens.proofs.Ending.{ends-fault, scan-ends}
use Rattle.c_tokens.proofs.laws.faults_end_the_reading.Goals as goal

pub returns-clause-ended : goal.returns-clause-ended
returns-clause-ended c = scan-ends

pub returns-clause-fault : goal.returns-clause-fault
returns-clause-fault c = ends-fault
