use Rattle.std.proofs.Common.{◌≡◌, length}
use Rattle.std.specs.List.{list_any}
use Rattle.c_syntax.specs.language.Tree.{Tree, kind_of}
use Rattle.c_model.specs.Clauses.{has_nowait, is_nowait}
use Rattle.c_steps.specs.NodeTrees.{tree_of}
use Rattle.c_steps.specs.Rests.{clauses_from}
use Rattle.c_steps.proofs.clauses.has_nowait.Given as goal

-- the clauses that were passed over say nothing of it
abbrev pub invariant-loop-found : goal.invariant-loop-found
invariant-loop-found l = list_any (λ (clause : Tree). is_nowait (kind_of clause)) (clauses_from (tree_of l.construct) l.place) ≡ has_nowait (tree_of l.construct)

abbrev pub decreases-loop-found : goal.decreases-loop-found
decreases-loop-found l = length (clauses_from (tree_of l.construct) l.place)
