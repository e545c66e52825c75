use Rattle.c_steps.proofs.Tried.{made_shown, made_tried, tried, untouched}
use Rattle.c_steps.proofs.control.Control.try_step.Goals as goal

pub returns-in-Some-clause-tried : goal.returns-in-Some-clause-tried
returns-in-Some-clause-tried c =
    tried c.args.code.now c.args.self.now c.plain_front.new.self c.in-Some.ensures.same.rest c.in-Some.ensures.same.task c.args.view c.in-Some.plain c.in-Some.ensures.found c.in-Some.ensures.same.frames c.args.cells.now
    c.try_plain.result c.try_plain.new.self c.try_plain.new.cells c.try_plain.ensures

pub returns-in-Some-clause-made : goal.returns-in-Some-clause-made
returns-in-Some-clause-made c =
    made_tried c.args.code.now c.args.self.now c.plain_front.new.self c.in-Some.ensures.same.rest c.in-Some.ensures.same.task c.args.view c.in-Some.plain c.in-Some.ensures.found c.in-Some.ensures.same.frames c.args.cells.now
    c.try_plain.result c.try_plain.new.self c.try_plain.new.cells c.requires.made c.try_plain.ensures

pub returns-in-None-clause-tried : goal.returns-in-None-clause-tried
returns-in-None-clause-tried c =
    untouched c.args.code.now c.args.self.now c.plain_front.new.self c.in-None.ensures.same.rest c.in-None.ensures.same.task c.args.view c.args.cells.now

pub returns-in-None-clause-made : goal.returns-in-None-clause-made
returns-in-None-clause-made c =
    made_shown c.args.code.now c.args.self.now c.plain_front.new.self c.in-None.ensures.same.rest c.in-None.ensures.same.task c.requires.made c.in-None.ensures.same.frames
