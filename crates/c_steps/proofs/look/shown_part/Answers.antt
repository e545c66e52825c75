use Rattle.c_steps.proofs.Looking.{instead_leave, instead_next}
use Rattle.c_steps.proofs.look.shown_part.Goals as goal

pub returns-in_default : goal.returns-in_default
returns-in_default c = instead_leave c.args.code.now c.args.block c.args.place c.args.at c.args.names c.in_default.ensures.parts

pub returns-in-None : goal.returns-in-None
returns-in-None c =
    instead_next c.args.code.now c.args.block c.args.place c.args.at c.args.names _ c.requires c.in-Some.ensures.parts c.in-None.ensures.none
