-- No return stands in a construct.
use Rattle.c_brackets.proofs.laws.returns_stand_outside_constructs.Goals as goal
use Rattle.c_brackets.proofs.ReturnPrograms.{returns_outside}

pub returns : goal.returns
returns c = returns_outside
