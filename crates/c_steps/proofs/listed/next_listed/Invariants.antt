use Rattle.std.proofs.Common.{◌≡◌, length}
use Rattle.c_steps.specs.ListedNames.{listed_from, names_from}
use Rattle.c_steps.specs.NodeTrees.{tree_of}
use Rattle.c_steps.proofs.listed.next_listed.Given as goal

-- only the loop's own variable was passed over
abbrev pub invariant-loop-found : goal.invariant-loop-found
invariant-loop-found l = listed_from (tree_of l.construct) l.place ≡ listed_from (tree_of l.construct) l.fn.from

abbrev pub decreases-loop-found : goal.decreases-loop-found
decreases-loop-found l = length (names_from (tree_of l.construct) l.place)
