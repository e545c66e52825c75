use Rattle.c_syntax.proofs.ConstructPlaces.{one-construct}
use Rattle.c_syntax.proofs.laws.one_construct_a_place.Goals as goal

pub returns : goal.returns
returns c = one-construct
