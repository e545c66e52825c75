-- The tree that words spell has the forms of a program's tree.
use Rattle.c_model.proofs.laws.spelled_trees_are_formed.Goals as goal
use Rattle.c_model.proofs.GrammarTrees.{spelled_is_formed}

pub returns : goal.returns
returns c = spelled_is_formed
