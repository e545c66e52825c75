use Rattle.std.proofs.Common.{ap, ◌∙◌, pos, rules}
use Rattle.c_model.specs.Task.{Store}
use Rattle.c_model.specs.Task.Outcome.{StepsTo}
use Rattle.c_steps.specs.ControlView.{ControlView, moment_at}
use Rattle.c_steps.specs.Moves.{delivered, stepping}
use Rattle.c_steps.proofs.Returning.{test_ended}
use Rattle.c_steps.proofs.control.Control.end_test.Goals as goal

pub returns : goal.returns
returns c =
    let program = c.args.code.now in
    record {
      step =
          ap (λ (held : ControlView). StepsTo (moment_at program held c.deliver.new.cells)) (c.deliver.ensures.held ∙ ap (delivered c.args.to (pos 1)) c.step.ensures)
          ∙ ap (λ (store : Store). StepsTo (moment_at program (delivered c.args.to (pos 1) (stepping c.args.self.now)) store)) c.deliver.ensures.cells
          ∙ test_ended program c.args.view c.args.self.now c.args.cells.now c.args.to c.requires;
      settled = search rules;
      numbers = tt;
      frames = search rules;
    }
