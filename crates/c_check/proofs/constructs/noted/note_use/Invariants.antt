use Rattle.std.proofs.Common.{◌≡◌, ◌++◌, length}
use Rattle.c_check.specs.Constructs.{unlisted_in}
use Rattle.c_check.proofs.constructs.noted.note_use.Given as goal

abbrev pub invariant-loop-first : goal.invariant-loop-first
invariant-loop-first l = l.unlisted.items ++ unlisted_in l.around l.spot l.slot ≡ l.fn.unlisted.items ++ unlisted_in l.fn.around l.fn.spot l.fn.slot

abbrev pub decreases-loop-first : goal.decreases-loop-first
decreases-loop-first l = length l.around
