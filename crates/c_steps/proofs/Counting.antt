-- How many cells a construct's copies have, and how many are left behind them.
use Rattle.std.proofs.Common.{◌≡◌, inl, inr, ℕ, ◌+◌, ◌-◌, ◌<◌, ◌≤◌, nat_lt, min, if◌then◌else◌, Bool, true, false, List, [], ◌∷◌, length, get_or, take, drop, Some, None, is_none, ℤ, pos, refl, sym, ap, ◌∙◌, arith}
use Rattle.std.proofs.lemmas.Bool.{cases_lt}
use Rattle.std.proofs.Math.ListN.{drop_of_length-le}
use Rattle.std.proofs.lemmas.List.{drop_more, length-append, drop-take, length-drop, length-take, take-take, take_all}
use Rattle.c_model.specs.declared.entry.Entry.{Entry}
use Rattle.c_syntax.specs.language.Tree.{Tree}
use Rattle.c_syntax.specs.language.Numbered.{TreeView}
use Rattle.c_check.specs.Seen.{task_copies}
use Rattle.c_model.specs.declared.limits.TheConstants.{CELL_LIMIT}
use Rattle.c_model.specs.Cells.{Bound, entry_at_slot, entry_of, has_too_many, numbers_of, with_cells}
use Rattle.c_model.specs.Clauses.{Listed}
use Rattle.c_model.specs.Clauses.Copying.{First}
use Rattle.c_model.specs.Copies.{copied_numbers, is_loop, listed_variables, with_copy, with_listed, with_own_cells, with_slots, with_task_cells}
use Rattle.c_steps.specs.OwnCells.{copy_cells, listed_cells, room_behind, room_behind_if, slot_cells}

pub room_one_more : (first rest room : ℕ) → room_behind (first + rest) room ≡ room_behind_if rest (room_behind first room)
room_one_more first rest room = grind arith

pub numbers_made : (cells : List ℤ) (entry : Entry) → length (numbers_of cells entry) ≡ min (length cells - entry.first) entry.size
numbers_made cells entry = grind (arith, length-take, length-drop)

room_none : (room : ℕ) → room_behind 0 room ≡ Some room
room_none room = grind arith

module _ (around : Bound) (slots : List ℕ) (at slot : ℕ) (within : at < length slots) (is : slot ≡ get_or slots at slot) where
  slots_more : slot_cells around (drop at slots) ≡ copy_cells around (entry_at_slot around.env slot) First + slot_cells around (drop (at + 1) slots)
  unfolding slot_cells
  slots_more = rw (drop_more slots at slot within, ← is) refl

  next_slot : (left : ℕ) → room_behind (slot_cells around (drop at slots)) left ≡ room_behind_if (slot_cells around (drop (at + 1) slots)) (room_behind (copy_cells around (entry_at_slot around.env slot) First) left)
  next_slot left = rw slots_more (room_one_more _ _ left)

  pub slot_passes : (left rest : ℕ) → Some rest ≡ room_behind (copy_cells around (entry_at_slot around.env slot) First) left → room_behind (slot_cells around (drop (at + 1) slots)) rest ≡ room_behind (slot_cells around (drop at slots)) left
  slot_passes left rest fits = sym (next_slot left ∙ ap (room_behind_if (slot_cells around (drop (at + 1) slots))) (sym fits))

  pub slot_fits : (left : ℕ) → None ≡ room_behind (copy_cells around (entry_at_slot around.env slot) First) left → None ≡ room_behind (slot_cells around (drop at slots)) left
  slot_fits left fails = ap (room_behind_if (slot_cells around (drop (at + 1) slots))) fails ∙ sym (next_slot left)

pub no_slot : (around : Bound) (slots : List ℕ) (at left : ℕ) → length slots ≤ at → room_behind (slot_cells around (drop at slots)) left ≡ Some left
unfolding slot_cells
no_slot around slots at left ended = rw (drop_of_length-le slots ended) (room_none left)

pub listed_made : (around bound : Bound) (listed : List Listed) → length (with_listed around bound listed).cells ≡ length bound.cells + listed_cells around listed
unfolding with_listed listed_cells
listed_made around bound [] = omega arith
listed_made around bound (one ∷ rest) =
    omega (
      arith,
      listed_made around (with_copy around bound (entry_of around.env one.name) one.copying) rest,
      length-append bound.cells (copied_numbers one.copying around.cells (entry_of around.env one.name)),
    )

slots_made : (around bound : Bound) (slots : List ℕ) → length (with_slots around bound slots).cells ≡ length bound.cells + slot_cells around slots
unfolding with_slots slot_cells
slots_made around bound [] = omega arith
slots_made around bound (slot ∷ slots) =
    omega (
      arith,
      slots_made around (with_copy around bound (entry_at_slot around.env slot) First) slots,
      length-append bound.cells (copied_numbers First around.cells (entry_at_slot around.env slot)),
    )

pub task_cells_made : (program : TreeView) (around : Bound) (construct : Tree) →
    length (with_task_cells program around construct).cells
    ≡ length around.cells + listed_cells around (listed_variables construct) + slot_cells around (task_copies program construct)
task_cells_made program around construct =
    omega (
      arith,
      slots_made around (with_listed around around (listed_variables construct)) (task_copies program construct),
      listed_made around around (listed_variables construct),
    )

-- the cells of the copies that a task has fit where there is room behind them
pub task_cells_fit : (program : TreeView) (around : Bound) (construct : Tree) (room left : ℕ) → length around.cells + room ≡ CELL_LIMIT →
    Some left ≡ room_behind (listed_cells around (listed_variables construct)) room →
    has_too_many (with_task_cells program around construct).cells ≡ is_none (room_behind (slot_cells around (task_copies program construct)) left)
task_cells_fit program around construct room left all fits = grind (arith, fits, all, task_cells_made program around construct)

pub task_cells_pass : (program : TreeView) (around : Bound) (construct : Tree) (room : ℕ) → length around.cells + room ≡ CELL_LIMIT →
    None ≡ room_behind (listed_cells around (listed_variables construct)) room → has_too_many (with_task_cells program around construct).cells ≡ true
task_cells_pass program around construct room all fails = grind (arith, fails, all, task_cells_made program around construct)

numbers_past : (first size count : ℕ) (cells : List ℤ) → count < first → take (min (count - first) size) (drop first cells) ≡ take size (drop first (take count cells))
numbers_past first size count cells past = rw (drop_of_length-le (take count cells) {i = first} (omega (arith, past, length-take count cells))) (grind (arith, past))

range_of : (first count : ℕ) (cells : List ℤ) → first ≤ count → drop first (take count cells) ≡ take (count - first) (drop first cells)
range_of first count cells from =
    let all : count ≡ first + (count - first) = omega (arith, from) in
    ap (λ count. drop first (take count cells)) all ∙ drop-take first (count - first) cells

take_least : (size count : ℕ) (cells : List ℤ) → take size (take count cells) ≡ take (min count size) cells
take_least size count cells =
    elim (cases_lt count size) [
      | inl less ↦ take_all size (take count cells) (omega (arith, less, length-take count cells)) ∙ ap (λ most. take most cells) (omega (arith, less))
      | inr more ↦ take-take size count cells more ∙ ap (λ most. take most cells) (omega (arith, more))
    ]

-- what cells held that were there before
pub numbers_before : (first size count : ℕ) (cells : List ℤ) → take (min (count - first) size) (drop first cells) ≡ take size (drop first (take count cells))
numbers_before first size count cells =
    elim (cases_lt count first) [
      | inl past ↦ numbers_past first size count cells past
      | inr from ↦
          sym (ap (take size) (range_of first count cells from) ∙ take_least size (count - first) (drop first cells))
    ]

variable_made : (loops : Bool) (bound : Bound) (name slot : ℕ) → length (if loops then with_cells bound name slot (pos 0 ∷ []) else bound).cells ≡ length bound.cells + (if loops then 1 else 0)
variable_made true bound name slot = length-append bound.cells (pos 0 ∷ [])
variable_made false bound name slot = omega arith

full_by : (loops : Bool) (count : ℕ) → count ≡ CELL_LIMIT + (if loops then 1 else 0) → nat_lt CELL_LIMIT count ≡ loops
full_by true count is = grind (arith, is)
full_by false count is = grind (arith, is)

own_cells_made : (program : TreeView) (around : Bound) (construct : Tree) →
    length (with_own_cells program around construct).cells ≡ length around.cells + listed_cells around (listed_variables construct) + (if is_loop construct then 1 else 0)
own_cells_made program around construct =
    variable_made (is_loop construct) (with_listed around around (listed_variables construct)) _ _
    ∙ ap (λ count. count + (if is_loop construct then 1 else 0)) (listed_made around around (listed_variables construct))

module _ (program : TreeView) (around : Bound) (construct : Tree) (room : ℕ) (all : length around.cells + room ≡ CELL_LIMIT) where
  pub own_cells_pass : None ≡ room_behind (listed_cells around (listed_variables construct)) room → has_too_many (with_own_cells program around construct).cells ≡ true
  own_cells_pass fails = grind (arith, fails, all, own_cells_made program around construct)

  pub own_cells_fit : (left : ℕ) → Some left ≡ room_behind (listed_cells around (listed_variables construct)) room → 0 < left → has_too_many (with_own_cells program around construct).cells ≡ false
  own_cells_fit left fits some = grind (arith, fits, some, all, own_cells_made program around construct)

  pub own_cells_full : (left : ℕ) → Some left ≡ room_behind (listed_cells around (listed_variables construct)) room → left ≤ 0 → has_too_many (with_own_cells program around construct).cells ≡ is_loop construct
  own_cells_full left fits full = full_by (is_loop construct) (length (with_own_cells program around construct).cells) (grind (arith, fits, full, all, own_cells_made program around construct))
