-- How many cells a construct makes of its own.
use Rattle.std.specs.Prelude.{ℕ, ◌+◌, ◌-◌, nat_le, if◌then◌else◌, List, [], ◌∷◌, ◌++◌, length, slice_range, take, Option, Some, None, ℤ}
use Rattle.c_syntax.specs.language.Tree.{Tree}
use Rattle.c_syntax.specs.language.Numbered.{TreeView}
use Rattle.c_check.specs.Seen.{task_copies}
use Rattle.c_model.specs.declared.entry.Entry.{Entry}
use Rattle.c_model.specs.Cells.{Bound, entry_at_slot, entry_of, new_entry}
use Rattle.c_model.specs.Clauses.{Copying, Listed}
use Rattle.c_model.specs.Clauses.Copying.{First}
use Rattle.c_model.specs.Copies.{copied_numbers, listed_variables, with_copy, with_listed, with_loop_variable, with_slots}
use Rattle.c_model.specs.Task.{Store}
use Rattle.c_steps.specs.declared.scope.Scope.{Scope}
use Rattle.c_steps.specs.ControlView.{ControlView, bound_in}
use Rattle.c_steps.specs.Moves.{bound}
use Rattle.c_steps.specs.Items.{file_names}
use Rattle.c_steps.specs.Scopes.{scope_of}

-- the names of a scope, with its cells
abbrev pub around_of : Scope → Bound
around_of here = record { env = (scope_of here).env; cells = here.cells.now }

-- the cells of a copy
abbrev pub copy_cells : Bound → Entry → Copying → ℕ
copy_cells around entry copying = length (copied_numbers copying around.cells entry)

-- .. of the copies of all these variables
unfoldable pub listed_cells : Bound → List Listed → ℕ
listed_cells around [] = 0
listed_cells around (listed ∷ rest) = copy_cells around (entry_of around.env listed.name) listed.copying + listed_cells around rest

-- .. and of those with these slots
unfoldable pub slot_cells : Bound → List ℕ → ℕ
slot_cells around [] = 0
slot_cells around (slot ∷ slots) = copy_cells around (entry_at_slot around.env slot) First + slot_cells around slots

-- the room that so many leave, if they have it
abbrev pub room_behind : ℕ → ℕ → Option ℕ
room_behind count room = if nat_le count room then Some (room - count) else None

abbrev pub room_behind_if : ℕ → Option ℕ → Option ℕ
room_behind_if count None = None
room_behind_if count (Some room) = room_behind count room

-- the names of the file and those of the function among the first so many, with the first so many cells
abbrev pub around_at : TreeView → ControlView → ℕ → Store → ℕ → Bound
around_at program held names store count =
    record { env = file_names program ++ slice_range held.names held.base names; cells = take count store.cells }

-- a copy is of a variable, which a clause lists by its name or a task copies by rule
pub record Copy : Type 0 where
  pub entry : Entry
  pub copying : Copying

abbrev pub listed_copy : Bound → Listed → Copy
listed_copy around listed = record { entry = entry_of around.env listed.name; copying = listed.copying }

abbrev pub slot_copy : Bound → ℕ → Copy
slot_copy around slot = record { entry = entry_at_slot around.env slot; copying = First }

-- what comes of a copy: its numbers, and its entry
abbrev pub copy_numbers : Bound → Copy → List ℤ
copy_numbers around copy = copied_numbers copy.copying around.cells copy.entry

abbrev pub copy_entry : Bound → List ℤ → Copy → Entry
copy_entry around cells copy = new_entry cells copy.entry.name copy.entry.slot (copy_numbers around copy)

unfoldable pub with_copies : Bound → Bound → List Copy → Bound
with_copies around bound [] = bound
with_copies around bound (copy ∷ rest) = with_copies around (with_copy around bound copy.entry copy.copying) rest

-- new cells hold these numbers
abbrev pub with_numbers : List ℤ → Store → Store
with_numbers numbers store = record store { cells = store.cells ++ numbers }

-- the names and cells that come of making copies, behind those that there were
abbrev pub made_copies : Bound → List ℤ → List Copy → Bound
made_copies around cells copies = with_copies around (record { env = []; cells = cells }) copies

-- .. of those that clauses list, and of those that a task makes by rule
abbrev pub made_listed : Bound → List ℤ → List Listed → Bound
made_listed around cells listed = with_listed around (record { env = []; cells = cells }) listed

-- they are all in scope, and their cells are there
abbrev pub with_made : Bound → ControlView → ControlView
with_made made held = record held { names = held.names ++ made.env; names_now = held.names_now - length made.env }

abbrev pub with_made_cells : Bound → Store → Store
with_made_cells made store = record store { cells = made.cells }

-- .. and of these copies and the variable of the construct's loop
abbrev pub made_own : TreeView → Bound → List ℤ → Tree → Bound
made_own program around cells construct =
    with_loop_variable program around construct (made_listed around cells (listed_variables construct))

-- .. and of all that a task has
abbrev pub made_slots : Bound → List ℤ → List ℕ → Bound
made_slots around cells slots = with_slots around (record { env = []; cells = cells }) slots

abbrev pub made_task : TreeView → Bound → List ℤ → Tree → Bound
made_task program around cells construct =
    with_slots around (made_listed around cells (listed_variables construct)) (task_copies program construct)

-- the same of a control and its cells
abbrev pub listed_made_at : TreeView → ControlView → Store → Tree → Bound
listed_made_at program held store construct = made_listed (bound_in program held store) store.cells (listed_variables construct)

abbrev pub own_made_at : TreeView → ControlView → Store → Tree → Bound
own_made_at program held store construct = made_own program (bound_in program held store) store.cells construct

abbrev pub task_made_at : TreeView → ControlView → Store → Tree → Bound
task_made_at program held store construct = made_task program (bound_in program held store) store.cells construct

abbrev pub slots_made_at : TreeView → ControlView → ℕ → Store → ℕ → List ℕ → Bound
slots_made_at program held names store count slots = made_slots (around_at program held names store count) store.cells slots

-- a copy comes of a variable that a clause lists, or of one with a slot
abbrev pub listed_copy_at : TreeView → ControlView → ℕ → Store → ℕ → Listed → Copy
listed_copy_at program held names store count listed = listed_copy (around_at program held names store count) listed

abbrev pub slot_copy_at : TreeView → ControlView → ℕ → Store → ℕ → ℕ → Copy
slot_copy_at program held names store count slot = slot_copy (around_at program held names store count) slot

abbrev pub copy_numbers_at : TreeView → ControlView → ℕ → Store → ℕ → Copy → List ℤ
copy_numbers_at program held names store count copy = copy_numbers (around_at program held names store count) copy

abbrev pub with_copy_at : TreeView → ℕ → Store → ℕ → Copy → ControlView → ControlView
with_copy_at program names store count copy held = bound (copy_entry (around_at program held names store count) store.cells copy) held
