use Rattle.c_steps.proofs.Frames.{step_brings}
use Rattle.c_steps.proofs.control.Control.declare_cells.Goals as goal

-- src/control/declaring.rt
pub bind-requires-clause-room : goal.bind-requires-clause-room
bind-requires-clause-room c =
    rw (c.step.ensures, c.requires.brings) (step_brings c.args.node.code.now c.args.node.number c.args.node.there)
