use Rattle.std.proofs.Common.{◌≡◌, length}
use Rattle.c_model.specs.Copies.{listed_variables}
use Rattle.c_steps.specs.ListedNames.{listed_from}
use Rattle.c_steps.specs.NodeTrees.{tree_of}
use Rattle.c_steps.specs.OwnCells.{around_of, listed_cells, room_behind}
use Rattle.c_steps.proofs.copies.room_behind_listed.Given as goal

-- what is left is enough for what is left
abbrev pub invariant-loop-found : goal.invariant-loop-found
invariant-loop-found l =
    room_behind (listed_cells (around_of l.scope) (listed_from (tree_of l.construct) l.place)) l.left
    ≡ room_behind (listed_cells (around_of l.scope) (listed_variables (tree_of l.construct))) l.room

abbrev pub decreases-loop-found : goal.decreases-loop-found
decreases-loop-found l = length (listed_from (tree_of l.construct) l.place)
