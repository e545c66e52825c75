-- Each name and construct has its own place.
use Rattle.c_slots.proofs.laws.each_name_and_construct_has_its_own_place.Goals as goal
use Rattle.c_slots.proofs.ProductionPlaces.{texts_have_own_places}

pub returns : goal.returns
returns c = texts_have_own_places
