use Rattle.std.proofs.Common.{length}
use Rattle.c_steps.proofs.Around.{Remains}
use Rattle.c_steps.proofs.control.Control.is_around.Given as goal

abbrev pub invariant-loop-frame : goal.invariant-loop-frame
invariant-loop-frame l = Remains l.around l.self.frames l.below

abbrev pub decreases-loop-frame : goal.decreases-loop-frame
decreases-loop-frame l = length l.below
