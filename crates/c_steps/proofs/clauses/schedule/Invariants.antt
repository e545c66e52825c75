use Rattle.std.proofs.Common.{◌≡◌, length}
use Rattle.c_model.specs.Clauses.{schedule_among, schedule_of}
use Rattle.c_steps.specs.NodeTrees.{tree_of}
use Rattle.c_steps.specs.Rests.{clauses_from}
use Rattle.c_steps.proofs.clauses.schedule.Given as goal

-- the clauses that were passed over say nothing of it
abbrev pub invariant-loop-found : goal.invariant-loop-found
invariant-loop-found l = schedule_among (clauses_from (tree_of l.construct) l.place) ≡ schedule_of (tree_of l.construct)

abbrev pub decreases-loop-found : goal.decreases-loop-found
decreases-loop-found l = length (clauses_from (tree_of l.construct) l.place)
