use Rattle.std.proofs.Common.{◌≡◌, ◌+◌, length}
use Rattle.c_syntax.specs.language.Numbered.{tree_at}
use Rattle.c_model.specs.Clauses.{clauses_of, listed_among}
use Rattle.c_steps.specs.ListedNames.{names_from}
use Rattle.c_steps.proofs.listed.listed_count.Given as goal

abbrev pub invariant-loop-found : goal.invariant-loop-found
invariant-loop-found l =
    l.count + length (names_from (tree_at l.tree.trees l.construct) l.place)
    ≡ length (listed_among (clauses_of (tree_at l.tree.trees l.construct)))

abbrev pub decreases-loop-found : goal.decreases-loop-found
decreases-loop-found l = length (names_from (tree_at l.tree.trees l.construct) l.place)
