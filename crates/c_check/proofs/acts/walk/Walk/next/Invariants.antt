use Rattle.std.proofs.Common.{◌≡◌}
use Rattle.c_check.specs.Tasks.{AreThere, left_of}
use Rattle.c_check.specs.Steps.{weight_left}
use Rattle.c_check.proofs.acts.walk.Walk.next.Given as goal

-- nothing is told yet
abbrev pub invariant-loop-task : goal.invariant-loop-task
invariant-loop-task l = record {
  left : left_of l.tree.trees l.self ≡ left_of l.tree.trees l.fn.self;
  there : AreThere l.tree.trees l.self;
}

abbrev pub decreases-loop-task : goal.decreases-loop-task
decreases-loop-task l = weight_left l.tree.trees l.self
