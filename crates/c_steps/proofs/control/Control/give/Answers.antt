use Rattle.std.proofs.Common.{refl}
use Rattle.c_steps.proofs.Giving.{gave, gave_within, made_still}
use Rattle.c_steps.proofs.control.Control.give.Goals as goal

-- src/control/giving.rt:35:5
pub returns-clause-went : goal.returns-clause-went
returns-clause-went c =
    gave c.args.code.now _ c.args.self.now c.settle.new.self refl c.settle.ensures.task c.args.answer c.in-Some.item c.go_on.new.self c.args.cells.now c.go_on.new.cells c.in-Some.ensures.found c.go_on.ensures.held.task c.go_on.ensures.cells

-- src/control/giving.rt:35:5
pub returns-clause-made : goal.returns-clause-made
returns-clause-made c =
    made_still c.args.code.now c.args.self.now c.settle.new.self c.go_on.new.self c.settle.ensures.rest c.go_on.ensures.held.after.step_names c.go_on.ensures.held.after.room c.requires.made c.go_on.ensures.held.frames
    (gave_within c.args.code.now _ c.args.self.now c.settle.new.self refl c.settle.ensures.task c.args.answer c.in-Some.item c.go_on.new.self c.args.cells.now c.go_on.new.cells c.in-Some.ensures.found c.go_on.ensures.held.task c.go_on.ensures.cells c.requires.made.is_within)
