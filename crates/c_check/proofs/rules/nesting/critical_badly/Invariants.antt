use Rattle.std.proofs.Common.{◌≡◌, length}
use Rattle.c_check.specs.Rules.{critical_badly}
use Rattle.c_check.proofs.rules.nesting.critical_badly.Given as goal

abbrev pub invariant-loop-first : goal.invariant-loop-first
invariant-loop-first l = critical_badly l.name l.around ≡ critical_badly l.fn.name l.fn.around

abbrev pub decreases-loop-first : goal.decreases-loop-first
decreases-loop-first l = length l.around
