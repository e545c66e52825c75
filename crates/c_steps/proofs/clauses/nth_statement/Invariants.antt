use Rattle.std.proofs.Common.{◌≡◌, length}
use Rattle.std.specs.Prelude.{slice_index_or}
use Rattle.c_syntax.specs.language.Tree.{nothing}
use Rattle.c_model.specs.Clauses.{statements_among}
use Rattle.c_model.specs.Parts.{parts}
use Rattle.c_steps.specs.NodeTrees.{tree_of}
use Rattle.c_steps.specs.Rests.{statements_from}
use Rattle.c_steps.proofs.clauses.nth_statement.Given as goal

-- so many parts behind those that are left
abbrev pub invariant-loop-found : goal.invariant-loop-found
invariant-loop-found l =
    slice_index_or (statements_from (tree_of l.construct) l.place) l.left nothing
    ≡ slice_index_or (statements_among (parts (tree_of l.construct))) l.number nothing

abbrev pub decreases-loop-found : goal.decreases-loop-found
decreases-loop-found l = length (statements_from (tree_of l.construct) l.place)
