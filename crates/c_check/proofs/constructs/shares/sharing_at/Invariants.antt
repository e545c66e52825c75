use Rattle.std.proofs.Common.{◌≡◌, length}
use Rattle.c_check.specs.Shares.{sharing_at}
use Rattle.c_check.proofs.constructs.shares.sharing_at.Given as goal

abbrev pub invariant-loop-first : goal.invariant-loop-first
invariant-loop-first l = sharing_at l.around l.of_file l.slot ≡ sharing_at l.fn.around l.fn.of_file l.fn.slot

abbrev pub decreases-loop-first : goal.decreases-loop-first
decreases-loop-first l = length l.around
