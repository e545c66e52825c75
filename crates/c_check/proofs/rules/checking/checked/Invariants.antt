use Rattle.std.proofs.Common.{length}
use Rattle.c_check.specs.Tasks.{AreThere, left_of}
use Rattle.c_check.specs.Under.{IsUnderWay}
use Rattle.c_check.proofs.rules.checking.checked.Given as goal

abbrev pub decreases-loop-checker : goal.decreases-loop-checker
decreases-loop-checker l = length (left_of l.tree.trees l.walk)

-- the acts that are left take the checker to the end of the program
abbrev pub invariant-loop-checker : goal.invariant-loop-checker
invariant-loop-checker l = record {
  there : AreThere l.tree.trees l.walk;
  under_way : IsUnderWay l.tree l.checker (left_of l.tree.trees l.walk);
}
