use Rattle.std.proofs.Common.{refl}
use Rattle.c_steps.proofs.Giving.{made_still}
use Rattle.c_steps.proofs.Passing.{event_found, past_within, went_past}
use Rattle.c_steps.proofs.control.Control.passed.Goals as goal

-- src/control/passing.rt:37:5
pub returns-clause-went : goal.returns-clause-went
returns-clause-went c =
    went_past c.args.code.now _ c.args.self.now c.settle.new.self refl c.settle.ensures.task c.args.point c.args.node c.requires.event c.args.executes c.in-Some.item c.go_past.new.self c.in-Some.ensures.found c.go_past.ensures.task

-- src/control/passing.rt:37:5
pub returns-clause-made : goal.returns-clause-made
returns-clause-made c =
    made_still c.args.code.now c.args.self.now c.settle.new.self c.go_past.new.self c.settle.ensures.rest c.go_past.ensures.after.step_names c.go_past.ensures.after.room c.requires.made c.go_past.ensures.frames
    (past_within c.args.code.now _ c.args.self.now c.settle.new.self refl c.settle.ensures.task c.args.point c.args.node c.requires.event c.args.executes c.in-Some.item c.go_past.new.self c.in-Some.ensures.found c.go_past.ensures.task c.requires.made.is_within)

-- src/control/passing.rt:42:9
pub go_past-requires-clause-event : goal.go_past-requires-clause-event
go_past-requires-clause-event c =
    event_found c.args.code.now _ c.args.self.now c.settle.new.self refl c.settle.ensures.task c.args.point c.args.node c.requires.event c.in-Some.item c.in-Some.ensures.found
