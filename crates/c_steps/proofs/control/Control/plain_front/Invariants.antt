use Rattle.c_steps.specs.Looking.{weights}
use Rattle.c_steps.specs.Trying.{IsSameBy}
use Rattle.c_steps.proofs.control.Control.plain_front.Given as goal

abbrev pub invariant-loop-frame : goal.invariant-loop-frame
invariant-loop-frame l = IsSameBy l.code l.initial.self l.self

abbrev pub decreases-loop-frame : goal.decreases-loop-frame
decreases-loop-frame l = weights l.code l.self.frames
