use Rattle.task_pool.specs.Links.{tasks_of}
use Rattle.task_pool.proofs.Ancestors.{Walks}
use Rattle.task_pool.proofs.pool.ancestor_within.Given as goal

abbrev pub invariant-loop-ancestor : goal.invariant-loop-ancestor
invariant-loop-ancestor l = Walks (tasks_of l.chain) l.task l.bound l.ancestor

abbrev pub decreases-loop-ancestor : goal.decreases-loop-ancestor
decreases-loop-ancestor l = l.ancestor
