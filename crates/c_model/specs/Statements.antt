-- Declarators and plain statements (C11 6.7 and 6.8).
use Rattle.std.specs.Prelude.{ℕ, nat_lt, if◌then◌else◌, List, [], ◌∷◌, ◌++◌, length, Result, Ok, ℤ, pos}
use Rattle.c_syntax.specs.declared.node.BinaryOp.TheVariants as binary
use Rattle.c_syntax.specs.declared.node.Bump.{Bump}
use Rattle.c_syntax.specs.declared.node.Bump.TheVariants as bump
use Rattle.c_syntax.specs.declared.node.Setting.{Setting}
use Rattle.c_syntax.specs.declared.node.Setting.TheVariants as setting
use Rattle.c_syntax.specs.declared.node.NodeKind.{NodeKind}
use Rattle.c_syntax.specs.declared.node.NodeKind.TheVariants as node
use Rattle.c_syntax.specs.language.Tree.{Tree, kind_of, name_of, text_of}
use Rattle.c_model.specs.declared.limits.TheConstants.{CELLS, TEXT, TEXT_LIMIT}
use Rattle.c_check.specs.Seen.{slot_of_name}
use Rattle.c_check.specs.Loops.{child_at}
use Rattle.c_model.specs.Parts.{flat_declarations, has_child, parts}
use Rattle.c_model.specs.Cells.{cell_at, has_too_many, new_entry, with_cells, with_declarator}
use Rattle.c_model.specs.Value.{all_values, binary_value, cell_of, is_zero}
use Rattle.c_model.specs.Text.{printed_text}
use Rattle.c_model.specs.Task.{StepStart, Item, Outcome, items_of_parts}
use Rattle.c_model.specs.Task.Item.{Initialise, Leave, Start, Test, Third}
use Rattle.c_model.specs.Task.Outcome.{Limits, StepsTo}
use Rattle.c_model.specs.StepOutcomes.{binds, bound_of, goes_on, goes_on_with, scope_of, sets, value_here, with_result}

abbrev pub begin_empty : StepStart → Outcome
begin_empty here = goes_on here []

-- a block is entered: its declarators and statements stand next, and then its end
abbrev pub begin_block : StepStart → Tree → Outcome
begin_block here tree = goes_on here (items_of_parts (flat_declarations (parts tree)) ++ Leave (length here.task.env) ∷ [])

abbrev pub leave_block : StepStart → ℕ → Outcome
leave_block here names = goes_on_with here names []

-- a declarator of an int without a value, of an array, or of a lock
abbrev pub begin_declarator : StepStart → Tree → Outcome
begin_declarator here tree = binds here (with_declarator here.program (bound_of here) tree) []

-- a declarator that is set to a call makes its cell, and the call stands next
abbrev pub begin_set_to_call : StepStart → Tree → Outcome
begin_set_to_call here tree =
    if has_too_many (here.store.cells ++ pos 0 ∷ []) then Limits CELLS
    else StepsTo (record {
      task = record here.task {
        todo = Initialise tree (new_entry here.store.cells (name_of tree) (slot_of_name here.program tree) (pos 0 ∷ [])) ∷ here.task.todo;
      };
      store = record here.store { cells = here.store.cells ++ pos 0 ∷ [] };
    })

-- a variable comes into scope with the value of an expression, in which it isn't yet
abbrev pub begin_set_to_value : StepStart → Tree → Tree → List Item → Outcome
begin_set_to_value here named expression items =
    with_result (value_here here expression) (λ number.
    binds here (with_cells (bound_of here) (name_of named) (slot_of_name here.program named) (number ∷ [])) items)

abbrev pub begin_local_set : NodeKind → StepStart → Tree → Outcome
begin_local_set node.Call here tree = begin_set_to_call here tree
begin_local_set node.TestLock here tree = begin_set_to_call here tree
begin_local_set other here tree = begin_set_to_value here tree (child_at tree 0) []

-- a declarator of a block: one that is set to a value, or another one
abbrev pub declares : NodeKind → StepStart → Tree → Outcome
declares node.LocalSet here tree = begin_local_set (kind_of (child_at tree 0)) here tree
declares other here tree = begin_declarator here tree

-- the branch of an `if` that is taken
abbrev pub branch_taken : Tree → ℤ → List Item
branch_taken tree number =
    if is_zero number then (if has_child tree 2 then Start (child_at tree 2) ∷ [] else []) else Start (child_at tree 1) ∷ []

abbrev pub begin_if : StepStart → Tree → Outcome
begin_if here tree = with_result (value_here here (child_at tree 0)) (λ number. goes_on here (branch_taken tree number))

abbrev pub begin_while : StepStart → Tree → Outcome
begin_while here tree =
    with_result (value_here here (child_at tree 0)) (λ number.
    goes_on here (if is_zero number then [] else Start (child_at tree 1) ∷ Start tree ∷ []))

-- what an assignment puts into its cell, by what the cell holds and the value of its right side
abbrev pub new_number : Setting → ℤ → Result ℤ ℕ → Result ℤ ℕ
new_number setting.Plain held right = right
new_number setting.Add held right = binary_value binary.Add (Ok held) right
new_number setting.Subtract held right = binary_value binary.Subtract (Ok held) right
new_number setting.Multiply held right = binary_value binary.Multiply (Ok held) right
new_number setting.Divide held right = binary_value binary.Divide (Ok held) right
new_number setting.Remainder held right = binary_value binary.Remainder (Ok held) right

abbrev pub setting_of : Bump → Setting
setting_of bump.Increment = setting.Add
setting_of bump.Decrement = setting.Subtract

-- an assignment: first the cell, then the right side
abbrev pub assigns : StepStart → Setting → Tree → Result ℤ ℕ → List Item → Outcome
assigns here which place right items =
    with_result (cell_of (scope_of here) place) (λ cell.
    with_result (new_number which (cell_at here.store.cells cell) right) (λ number. sets here cell number items))

-- a step that is a statement, or the third part of a loop; one that is absent does nothing
abbrev pub makes_step : NodeKind → StepStart → Tree → List Item → Outcome
makes_step (node.Assign which) here tree items = assigns here which (child_at tree 0) (value_here here (child_at tree 1)) items
makes_step (node.Bump which side) here tree items = assigns here (setting_of which) (child_at tree 0) (Ok (pos 1)) items
makes_step other here tree items = goes_on here items

-- the first part of a loop, which may declare a variable; without a name it declares nothing
abbrev pub makes_first_step : NodeKind → StepStart → Tree → List Item → Outcome
makes_first_step node.Init here tree items =
    if has_child tree 0 then begin_set_to_value here (child_at tree 0) (child_at tree 1) items else goes_on here items
makes_first_step other here tree items = makes_step other here tree items

abbrev pub begin_step : StepStart → Tree → Outcome
begin_step here tree = makes_step (kind_of (child_at tree 0)) here (child_at tree 0) []

-- a plain `for` begins with its first part, and then its test stands next
abbrev pub begin_for : StepStart → Tree → Outcome
begin_for here tree = makes_first_step (kind_of (child_at tree 0)) here (child_at tree 0) (Test tree (length here.task.env) ∷ [])

-- a test that is absent is true
abbrev pub test_value : StepStart → Tree → Result ℤ ℕ
test_value here tree = if has_child tree 1 then value_here here (child_at tree 1) else Ok (pos 1)

abbrev pub test_for : StepStart → Tree → ℕ → Outcome
test_for here tree names =
    with_result (test_value here tree) (λ number.
    if is_zero number then goes_on_with here names [] else goes_on here (Start (child_at tree 3) ∷ Third tree names ∷ []))

abbrev pub third_for : StepStart → Tree → ℕ → Outcome
third_for here tree names = makes_step (kind_of (child_at tree 2)) here (child_at tree 2) (Test tree names ∷ [])

-- `printf`: its numbers from left to right, and then its text
abbrev pub prints : StepStart → List ℕ → Outcome
prints here text =
    if nat_lt TEXT_LIMIT (length text) then Limits TEXT
    else StepsTo (record { task = here.task; store = record here.store { text = text } })

abbrev pub begin_print : StepStart → Tree → Outcome
begin_print here tree =
    with_result (all_values (scope_of here) (parts tree)) (λ numbers. prints here (here.store.text ++ printed_text (text_of tree) numbers))
