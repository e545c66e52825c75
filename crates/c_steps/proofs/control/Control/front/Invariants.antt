use Rattle.std.proofs.Common.{reverse}
use Rattle.c_steps.specs.FrontFrame.{above}
use Rattle.c_steps.specs.Looking.{weights}
use Rattle.c_steps.proofs.Settling.{SettlesTo}
use Rattle.c_steps.proofs.control.Control.front.Given as goal

abbrev pub invariant-loop-frame : goal.invariant-loop-frame
invariant-loop-frame l = SettlesTo l.code l.view l.self.frames (above l.shown (reverse l.below))

abbrev pub decreases-loop-frame : goal.decreases-loop-frame
decreases-loop-frame l = weights l.code (above l.shown (reverse l.below))
