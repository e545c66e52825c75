use Rattle.std.proofs.Common.{rules}
use Rattle.c_steps.proofs.Returning.{returned_after, returned_frames, returned_is}
use Rattle.c_steps.proofs.control.Control.returns.Goals as goal

pub returns : goal.returns
returns c =
    record {
      step = search (rules, returned_is);
      settled = search (rules, returned_after);
      numbers = tt;
      frames = returned_frames c.args.code.now c.args.view c.args.self.now c.args.cells.now _ c.step.new.self c.give_back.new.self c.requires c.step.ensures c.give_back.ensures.held;
    }
