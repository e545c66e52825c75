use Rattle.std.proofs.Common.{◌≡◌, length}
use Rattle.c_model.specs.Clauses.{expression_among}
use Rattle.c_steps.specs.Expressions.{expression_of, is_of}
use Rattle.c_steps.specs.NodeTrees.{tree_of}
use Rattle.c_steps.specs.Rests.{clauses_from}
use Rattle.c_steps.proofs.clauses.clause_expression.Given as goal

-- the clauses that were passed over say nothing of it
abbrev pub invariant-loop-found : goal.invariant-loop-found
invariant-loop-found l = expression_among (is_of l.which) (clauses_from (tree_of l.construct) l.place) ≡ expression_of l.which (tree_of l.construct)

abbrev pub decreases-loop-found : goal.decreases-loop-found
decreases-loop-found l = length (clauses_from (tree_of l.construct) l.place)
