use Rattle.std.proofs.Common.{refl}
use Rattle.c_steps.proofs.Asked.{sections_stand}
use Rattle.c_steps.proofs.control.Control.asked_sections.Goals as goal

pub returns : goal.returns
returns c = sections_stand _ _ _ _ refl c.front.ensures.first c.sections_of_item.ensures
