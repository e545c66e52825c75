use Rattle.work_laws.proofs.TextColumns.{own-places}
use Rattle.work_laws.proofs.laws.each_construct_has_its_own_place.Goals as goal

pub returns : goal.returns
returns c = own-places
