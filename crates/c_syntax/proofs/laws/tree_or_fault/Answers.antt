use Rattle.c_syntax.proofs.Unique.{program-no_fault}
use Rattle.c_syntax.proofs.laws.tree_or_fault.Goals as goal

pub returns : goal.returns
returns c = program-no_fault
