use Rattle.std.proofs.Common.{◌≡◌, ◌++◌, length}
use Rattle.c_check.specs.Constructs.{loops_in}
use Rattle.c_check.proofs.constructs.noted.note_loop.Given as goal

abbrev pub invariant-loop-first : goal.invariant-loop-first
invariant-loop-first l = l.loops ++ loops_in l.around l.slot ≡ l.fn.loops ++ loops_in l.fn.around l.fn.slot

abbrev pub decreases-loop-first : goal.decreases-loop-first
decreases-loop-first l = length l.around
