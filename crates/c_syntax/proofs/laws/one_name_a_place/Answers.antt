use Rattle.c_syntax.proofs.NamePlaces.{one-name}
use Rattle.c_syntax.proofs.laws.one_name_a_place.Goals as goal

pub returns : goal.returns
returns c = one-name
