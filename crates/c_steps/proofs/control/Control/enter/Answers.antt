use Rattle.std.proofs.Common.{ap, sym, subst, ◌∙◌, ◌<◌}
use Rattle.c_model.specs.declared.limits.TheConstants.{CALL_LIMIT}
use Rattle.c_steps.specs.declared.item.Item.TheVariants as item
use Rattle.c_steps.specs.ControlView.{ControlView}
use Rattle.c_steps.specs.Moves.{bound_if, opened, then_item}
use Rattle.c_steps.specs.Nodes.{part_at}
use Rattle.c_steps.specs.Rooming.{open_calls}
use Rattle.c_steps.proofs.Entered.{entered_from}
use Rattle.c_steps.proofs.StepNames.{few_open, room_for_parts}
use Rattle.c_steps.proofs.control.Control.enter.Goals as goal

pub open-requires-clause-few : goal.open-requires-clause-few
open-requires-clause-few c =
    subst (λ (held : ControlView). open_calls held.frames < CALL_LIMIT) (sym (c.bind_if.ensures ∙ ap (bound_if c.args.call.declared) c.step.ensures))
    (few_open c.args.code.now c.args.self.now c.requires.ready.stepping c.requires.few)

pub bind_parameters-requires-clause-names : goal.bind_parameters-requires-clause-names
bind_parameters-requires-clause-names c =
    let opens = c.open.ensures ∙ ap (opened c.args.call.to) (c.bind_if.ensures ∙ ap (bound_if c.args.call.declared) c.step.ensures) in
    rw (opens) (room_for_parts c.args.code.now c.child-parameters.result c.args.call.declared c.args.self.now.step_names c.requires.ready.brings c.child-parameters.ensures.there)

pub returns-clause-step : goal.returns-clause-step
returns-clause-step c =
    let trees = c.args.code.now.trees in
    entered_from c.args.code.now c.args.view c.args.self.now c.args.cells.now c.args.call.declared c.args.call.to c.caller-caller.result
    c.open.new.self c.bind_parameters.new.self c.then-2.new.self c.bind_parameters.new.cells
    (part_at trees c.args.call.part) (part_at trees c.args.function) (part_at trees c.child-parameters.result) c.child.result
    (c.open.ensures ∙ ap (opened c.args.call.to) (c.bind_if.ensures ∙ ap (bound_if c.args.call.declared) c.step.ensures))
    c.requires.ready.stepping c.caller-caller.ensures.is c.caller-caller.ensures.base c.caller-caller.ensures.names c.caller-caller.ensures.cells
    c.bind_parameters.ensures.more c.bind_parameters.ensures.bound c.child-parameters.ensures.child c.child.ensures.child
    (c.then-2.ensures ∙ ap (then_item (item.Start c.child.result)) c.then.ensures)
