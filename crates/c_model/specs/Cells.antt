-- Names and cells. A cell holds a number from -2147483648 to 2147483647. Each declaration that is executed makes new cells, and cells are never
-- used again (C11 6.2.4). Cells are numbered from 0 in the order in which they are made.
use Rattle.std.specs.Prelude.{ℕ, ◌^◌, ◌==◌, nat_lt, if◌then◌else◌, Bool, List, [], ◌∷◌, ◌++◌, length, take, drop, replicate, slice_index_or, ℤ, pos, negsuc, neg_ℤ}
use Rattle.c_syntax.specs.declared.node.Sign.TheVariants as sign
use Rattle.c_syntax.specs.declared.node.NodeKind.{NodeKind}
use Rattle.c_syntax.specs.declared.node.NodeKind.TheVariants as node
use Rattle.c_syntax.specs.language.Tree.{Tree, kind_of, name_of, number_of}
use Rattle.c_syntax.specs.language.Numbered.{TreeView}
use Rattle.c_model.specs.declared.entry.Entry.{Entry}
use Rattle.c_model.specs.declared.limits.TheConstants.{CELL_LIMIT}
use Rattle.c_check.specs.Seen.{slot_of_name}

-- A name that nothing declares. Its cell would stand behind the last one that there may be, so it reads as 0, and it can't be set. With an
-- index it traps, since it has no elements.
abbrev pub no_entry : Entry
no_entry = record { name = 0; first = CELL_LIMIT; size = 0; slot = 0 }

-- the entry of a name: the last one counts
unfoldable pub last_named : ℕ → Entry → List Entry → Entry
last_named name found [] = found
last_named name found (entry ∷ entries) = last_named name (if entry.name == name then entry else found) entries

abbrev pub entry_of : List Entry → ℕ → Entry
entry_of env name = last_named name no_entry env

-- the first entry of a name
unfoldable pub first_named : ℕ → List Entry → Entry
first_named name [] = no_entry
first_named name (entry ∷ entries) = if entry.name == name then entry else first_named name entries

-- the entry of the declaration with a slot: the last one counts, so that a construct's own copy comes before the variable around
unfoldable pub last_of_slot : ℕ → Entry → List Entry → Entry
last_of_slot slot found [] = found
last_of_slot slot found (entry ∷ entries) = last_of_slot slot (if entry.slot == slot then entry else found) entries

abbrev pub entry_at_slot : List Entry → ℕ → Entry
entry_at_slot env slot = last_of_slot slot no_entry env

-- a number that a cell can hold
abbrev pub fits_cell : ℤ → Bool
fits_cell (pos n) = nat_lt n (2 ^ 31)
fits_cell (negsuc n) = nat_lt n (2 ^ 31)

-- what is in a cell, and in all cells of a name
abbrev pub cell_at : List ℤ → ℕ → ℤ
cell_at cells cell = slice_index_or cells cell (pos 0)

abbrev pub numbers_of : List ℤ → Entry → List ℤ
numbers_of cells entry = take entry.size (drop entry.first cells)

-- the names in scope, with all cells
pub record Bound : Type 0 where
  pub env : List Entry
  pub cells : List ℤ

-- a name comes into scope, with new cells that hold these numbers
abbrev pub new_entry : List ℤ → ℕ → ℕ → List ℤ → Entry
new_entry cells name slot numbers = record { name = name; first = length cells; size = length numbers; slot = slot }

abbrev pub with_cells : Bound → ℕ → ℕ → List ℤ → Bound
with_cells bound name slot numbers =
    record { env = bound.env ++ new_entry bound.cells name slot numbers ∷ []; cells = bound.cells ++ numbers }

-- there are more cells than there may be
abbrev pub has_too_many : List ℤ → Bool
has_too_many cells = nat_lt CELL_LIMIT (length cells)

-- what the cells of a declarator hold at first, where no expression or call says it
abbrev pub signed_number : NodeKind → ℕ → ℤ
signed_number (node.GlobalSet sign.Minus) number = neg_ℤ (pos number)
signed_number other number = pos number

abbrev pub first_numbers : NodeKind → ℕ → List ℤ
first_numbers node.GlobalArray size = replicate size (pos 0)
first_numbers node.LocalArray size = replicate size (pos 0)
first_numbers (node.GlobalSet sign) number = signed_number (node.GlobalSet sign) number ∷ []
first_numbers other number = pos 0 ∷ []

-- a declarator comes into scope
abbrev pub with_declarator : TreeView → Bound → Tree → Bound
with_declarator program bound tree = with_cells bound (name_of tree) (slot_of_name program tree) (first_numbers (kind_of tree) (number_of tree))

unfoldable pub with_declarators : TreeView → Bound → List Tree → Bound
with_declarators program bound [] = bound
with_declarators program bound (tree ∷ trees) = with_declarators program (with_declarator program bound tree) trees
