use Rattle.std.proofs.Common.{refl}
use Rattle.c_steps.proofs.Asked.{count_stands}
use Rattle.c_steps.proofs.control.Control.asked_count.Goals as goal

pub returns : goal.returns
returns c = count_stands _ _ _ _ refl c.front.ensures.first (c.count_of_item.ensures c.args.code.now)
