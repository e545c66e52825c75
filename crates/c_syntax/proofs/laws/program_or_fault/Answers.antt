use Rattle.c_syntax.proofs.Answering.{spells-or-fault}
use Rattle.c_syntax.proofs.laws.program_or_fault.Goals as goal

pub returns : goal.returns
returns c = spells-or-fault
