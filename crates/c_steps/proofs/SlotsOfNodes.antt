-- The slots of names by the numbers of the nodes where they stand.
use Rattle.std.proofs.Common.{◌≡◌, ℕ, ◌+◌, ◌<◌, [], ◌∷◌, ◌++◌, length, map, take, get_or}
use Rattle.std.proofs.lemmas.List.{get_or-map, map_more}
use Rattle.c_syntax.specs.language.Tree.{nothing}
use Rattle.c_syntax.specs.language.Numbered.{TreeView, tree_at}
use Rattle.c_check.specs.Seen.{slot_of_name}

-- the slots of the nodes up to one more
pub slots_more : (program : TreeView) (node : ℕ) → node < length program.trees → map (slot_of_name program) (take (node + 1) program.trees) ≡ map (slot_of_name program) (take node program.trees) ++ slot_of_name program (tree_at program.trees node) ∷ []
slots_more program node within = map_more (slot_of_name program) program.trees node nothing within

-- the slot of a node
pub slot_there : (program : TreeView) (node : ℕ) → node < length program.trees → get_or (map (slot_of_name program) program.trees) node 0 ≡ slot_of_name program (tree_at program.trees node)
slot_there program node within = get_or-map (slot_of_name program) program.trees node nothing 0 within
