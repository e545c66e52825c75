use Rattle.std.proofs.Common.{sym, ◌∙◌}
use Rattle.c_steps.specs.ControlView.{moment_at}
use Rattle.c_steps.proofs.Advancing.{kept_unchanging, made_after, made_settled, silent_front, silent_none}
use Rattle.c_steps.proofs.Occurring.{named_front}
use Rattle.c_steps.proofs.control.Control.advance.Goals as goal

pub returns-in-Some-clause-step : goal.returns-in-Some-clause-step
returns-in-Some-clause-step c =
    c.advance_item.ensures.step
    ∙ sym (silent_front c.args.code.now c.args.view c.args.self.now c.settle.new.self c.args.cells.now c.in-Some.ensures.task c.in-Some.item c.in-Some.ensures.found)

pub returns-in-Some-clause-made : goal.returns-in-Some-clause-made
returns-in-Some-clause-made c =
    made_after c.args.code.now c.args.view c.args.self.now c.settle.new.self c.args.cells.now c.in-Some.ensures.task c.advance_item.new.self c.advance_item.new.cells c.advance_item.result
    c.requires.made c.in-Some.ensures.rest c.in-Some.ensures.frames c.advance_item.ensures.frames c.advance_item.ensures.settled
    (c.advance_item.ensures.step
    ∙ sym (silent_front c.args.code.now c.args.view c.args.self.now c.settle.new.self c.args.cells.now c.in-Some.ensures.task c.in-Some.item c.in-Some.ensures.found))

pub returns-in-Some-clause-named : goal.returns-in-Some-clause-named
returns-in-Some-clause-named c =
    named_front c.args.code.now c.args.view c.settle.new.self c.advance_item.new.self c.args.cells.now c.advance_item.new.cells c.in-Some.item c.in-Some.ensures.found c.advance_item.result
    c.advance_item.ensures.step c.advance_item.ensures.settled c.advance_item.ensures.numbers

pub returns-in-None-clause-step : goal.returns-in-None-clause-step
returns-in-None-clause-step c =
    (c.ended.ensures.tells c.args.code.now).step (moment_at c.args.code.now c.settle.new.self c.args.cells.now) ∙ sym (silent_none c.args.code.now c.args.view c.args.self.now c.settle.new.self c.args.cells.now c.in-None.ensures.task c.in-None.ensures.none)

pub returns-in-None-clause-made : goal.returns-in-None-clause-made
returns-in-None-clause-made c =
    made_settled c.args.code.now c.args.view c.args.self.now c.settle.new.self c.args.cells.now c.in-None.ensures.task c.requires.made c.in-None.ensures.rest c.in-None.ensures.frames

pub returns-in-None-clause-kept : goal.returns-in-None-clause-kept
returns-in-None-clause-kept c =
    kept_unchanging c.args.code.now c.args.view c.args.self.now c.settle.new.self c.args.cells.now c.in-None.ensures.task c.ended.result c.in-None.ensures.rest (c.ended.ensures.tells c.args.code.now).unchanged

pub returns-in-None-clause-numbers : goal.returns-in-None-clause-numbers
returns-in-None-clause-numbers c = (c.ended.ensures.tells c.args.code.now).numbers

pub returns-in-None-clause-named : goal.returns-in-None-clause-named
returns-in-None-clause-named c = c.ended.ensures.named c.args.code.now c.settle.new.self
