use Rattle.c_syntax.proofs.Unique.{fault-one}
use Rattle.c_syntax.proofs.laws.one_fault.Goals as goal

pub returns : goal.returns
returns c = fault-one
