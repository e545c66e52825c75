use Rattle.std.proofs.Common.{◌≡◌}
use Rattle.c_steps.specs.Looking.{weights}
use Rattle.c_steps.proofs.Settling.{SettlesTo}
use Rattle.c_steps.proofs.control.Control.settle.Given as goal

abbrev pub invariant-loop-frame : goal.invariant-loop-frame
invariant-loop-frame l = record {
  so : SettlesTo l.code l.view l.initial.self.frames l.self.frames;
  rest : l.self ≡ record l.initial.self { frames = l.self.frames };
}

abbrev pub decreases-loop-frame : goal.decreases-loop-frame
decreases-loop-frame l = weights l.code l.self.frames
