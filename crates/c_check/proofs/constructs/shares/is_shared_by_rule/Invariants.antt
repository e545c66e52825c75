use Rattle.std.proofs.Common.{◌≡◌, length}
use Rattle.c_check.specs.Shares.{shared_by_rule}
use Rattle.c_check.proofs.constructs.shares.is_shared_by_rule.Given as goal

abbrev pub invariant-loop-first : goal.invariant-loop-first
invariant-loop-first l = shared_by_rule l.around l.of_file l.slot ≡ shared_by_rule l.fn.around l.fn.of_file l.fn.slot

abbrev pub decreases-loop-first : goal.decreases-loop-first
decreases-loop-first l = length l.around
