use Rattle.std.proofs.Common.{◌≡◌, ◌+◌, ◌≤◌, length}
use Rattle.c_model.specs.Clauses.{sections_of}
use Rattle.c_steps.specs.NodeTrees.{tree_of}
use Rattle.c_steps.specs.Rests.{statements_from}
use Rattle.c_steps.proofs.clauses.section_count.Given as goal

abbrev pub invariant-loop-found : goal.invariant-loop-found
invariant-loop-found l = record {
  counted : l.count + length (statements_from (tree_of l.construct) l.place) ≡ length (sections_of (tree_of l.construct));
  few : l.count ≤ l.place;
}

abbrev pub decreases-loop-found : goal.decreases-loop-found
decreases-loop-found l = length (statements_from (tree_of l.construct) l.place)
