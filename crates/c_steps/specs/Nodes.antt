-- The parts of trees by the numbers of their nodes. A part may be missing, and stands for an empty program then.
use Rattle.std.specs.Prelude.{ℕ, ◌<◌, List, length, Option, Some, None}
use Rattle.c_syntax.specs.language.Tree.{Tree, nothing}
use Rattle.c_syntax.specs.language.Numbered.{tree_at}

abbrev pub part_at : List Tree → Option ℕ → Tree
part_at trees None = nothing
part_at trees (Some node) = tree_at trees node

-- it is a node of the trees, if there is one
abbrev pub IsPart : List Tree → Option ℕ → Type 0
IsPart trees None = Unit {0}
IsPart trees (Some node) = node < length trees
