-- How many cells the variables and locks of a file have.
use Rattle.std.specs.Prelude.{ℕ, ◌==◌, if◌then◌else◌, List, sum_by}
use Rattle.c_check.specs.declared.acts.act.Thing.{Thing}
use Rattle.c_check.specs.declared.acts.act.Thing.TheVariants as thing
use Rattle.c_check.specs.declared.scopes.declared.Declared.{Declared}

-- the most cells that they may have together
abbrev pub most_cells : ℕ
most_cells = 1048576

abbrev pub cells_of : Thing → ℕ
cells_of thing.Int = 1
cells_of (thing.Array size) = size
cells_of thing.Lock = 1
cells_of (thing.Function returns parameters) = 0

-- a declaration of the file stands in no scope
abbrev pub cells_in_file : Declared → ℕ
cells_in_file it = if it.level == 0 then cells_of it.thing else 0

abbrev pub file_cells : List Declared → ℕ
file_cells declarations = sum_by cells_in_file declarations
