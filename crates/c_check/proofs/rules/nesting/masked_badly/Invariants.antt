use Rattle.std.proofs.Common.{◌≡◌, length}
use Rattle.c_check.specs.Rules.{masked_badly}
use Rattle.c_check.proofs.rules.nesting.masked_badly.Given as goal

abbrev pub invariant-loop-first : goal.invariant-loop-first
invariant-loop-first l = masked_badly l.around ≡ masked_badly l.fn.around

abbrev pub decreases-loop-first : goal.decreases-loop-first
decreases-loop-first l = length l.around
