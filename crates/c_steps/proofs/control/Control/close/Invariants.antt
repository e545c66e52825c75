use Rattle.std.proofs.Common.{◌≡◌, length}
use Rattle.c_steps.specs.Moves.{below_call, last_call}
use Rattle.c_steps.proofs.control.Control.close.Given as goal

-- no call was passed over
abbrev pub invariant-loop-frame : goal.invariant-loop-frame
invariant-loop-frame l = record {
  below : below_call l.self.frames ≡ below_call l.initial.self.frames;
  last : last_call l.self.frames ≡ last_call l.initial.self.frames;
  rest : l.self ≡ record l.initial.self { frames = l.self.frames };
}

abbrev pub decreases-loop-frame : goal.decreases-loop-frame
decreases-loop-frame l = length l.self.frames
