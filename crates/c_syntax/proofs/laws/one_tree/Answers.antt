use Rattle.c_syntax.proofs.Unique.{program-one}
use Rattle.c_syntax.proofs.laws.one_tree.Goals as goal

pub returns : goal.returns
returns c = program-one
