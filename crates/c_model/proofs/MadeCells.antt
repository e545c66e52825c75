-- Cells that were made: they stay so, and new ones are.
use Rattle.std.specs.Prelude.{ℕ, ◌+◌, ◌<◌, ◌≤◌, ◌≡◌, ◌⊎◌, nat_eq, nat_lt, if◌then◌else◌, Bool, true, false, List, [], ◌∷◌, ◌++◌, length, drop, Option, Some, None, Result, Ok, Err, ℤ, pos, negsuc, refl}
use Rattle.std.specs.List.{All, Contains}
use Rattle.std.proofs.Common.{arith, ap, ◌∙◌, inl, inr}
use Rattle.std.proofs.lemmas.Bool.{cases_Bool}
use Rattle.std.proofs.lemmas.Bool.Decides.{nat_tests}
use Rattle.std.proofs.lemmas.List.{get_or_append_left, length-append, length-drop, length-replicate, length-set, length-take}
use Rattle.std.proofs.lemmas.List.Elements.{All-contains, All-head, All-push, All-tail, All-weaker}
use Rattle.c_syntax.specs.declared.node.NodeKind.TheVariants as node
use Rattle.c_syntax.specs.language.Tree.{Tree, Children, kind_of, name_of, number_of}
use Rattle.c_syntax.specs.language.Tree.Tree.{Node}
use Rattle.c_syntax.specs.language.Tree.Children.{Over, Child, Absent}
use Rattle.c_syntax.specs.language.Numbered.{TreeView}
use Rattle.c_check.specs.Seen.{slot_of_name, task_copies}
use Rattle.c_model.specs.declared.entry.Entry.{Entry}
use Rattle.c_model.specs.declared.point.Target.{Target}
use Rattle.c_model.specs.declared.point.Target.TheVariants as target
use Rattle.c_model.specs.declared.traps.TheConstants.{INDEX}
use Rattle.c_model.specs.Calls.{behind_first, first_or_zero, value_cells, value_items, with_parameters}
use Rattle.c_model.specs.Cells.{Bound, entry_at_slot, entry_of, first_numbers, last_of_slot, no_entry, with_cells, with_declarator, with_declarators}
use Rattle.c_model.specs.Clauses.{Copying, Listed}
use Rattle.c_model.specs.Clauses.Copying.{Private, First, Reduced}
use Rattle.c_model.specs.Copies.{copied_numbers, is_loop, loop_slot, listed_variables, with_copy, with_listed, with_own_cells, with_slots, with_task_cells}
use Rattle.c_model.specs.Loops.{loop_of}
use Rattle.c_model.specs.UsedCells.{AreItemsMade, IsCallMade, IsItemMade, IsMade, IsTargetMade, IsTaskMade, slots_of}
use Rattle.c_model.specs.Scoped.{HasCells, Sees, SeesEach, names_of}
use Rattle.c_model.specs.Task.{Item, OpenCall, Task}
use Rattle.c_model.specs.Task.Item.{Initialise, TestLock, Tested}
use Rattle.c_model.specs.Value.{Scope, binary_value, cell_of, index_of, operand_value, place_cell, unary_value, value, value_at, value_of_cell, values}
use Rattle.c_model.proofs.ScopeNames.{AreListed, contains_case, entry_holds, none_in, other_name}

-- what was made stays made
pub made_more : (count more : ℕ) → count ≤ more → (entry : Entry) → IsMade count entry → IsMade more entry
made_more count more fewer entry is = record { has_cell = is.has_cell; within = omega (arith, is.within) }

pub env_more : (count more : ℕ) → count ≤ more → (env : List Entry) → All (IsMade count) env → All (IsMade more) env
env_more count more fewer env are = All-weaker (IsMade count) (IsMade more) (made_more count more fewer) env are

pub target_more : (count more : ℕ) → count ≤ more → (to : Target) → IsTargetMade count to → IsTargetMade more to
target_more count more fewer (target.Cell cell) is = omega (arith, is)
target_more count more fewer target.Nowhere is = tt
target_more count more fewer target.Return is = tt

item-more : (count more : ℕ) → count ≤ more → (item : Item) → IsItemMade count item → IsItemMade more item
item-more count more fewer (Initialise tree entry) is = made_more count more fewer entry is
item-more count more fewer (TestLock tree id to) is = target_more count more fewer to is
item-more count more fewer (Tested to) is = target_more count more fewer to is
item-more count more fewer other is = tt

pub items_more : (count more : ℕ) → count ≤ more → (items : List Item) → AreItemsMade count items → AreItemsMade more items
unfolding AreItemsMade
items_more count more fewer [] are = tt
items_more count more fewer (item ∷ items) are = (item-more count more fewer item are.0, items_more count more fewer items are.1)

pub call_more : (count more : ℕ) → count ≤ more → (call : OpenCall) → IsCallMade count call → IsCallMade more call
call_more count more fewer call is =
    record { env = env_more count more fewer call.env is.env; todo = items_more count more fewer call.todo is.todo; to = target_more count more fewer call.to is.to }

pub calls_more : (count more : ℕ) → count ≤ more → (calls : List OpenCall) → All (IsCallMade count) calls → All (IsCallMade more) calls
calls_more count more fewer calls are = All-weaker (IsCallMade count) (IsCallMade more) (call_more count more fewer) calls are

pub task_more : (program : TreeView) (count more : ℕ) (task : Task) → count ≤ more → IsTaskMade program count task → IsTaskMade program more task
task_more program count more task fewer is =
    record { file = env_more count more fewer _ is.file; env = env_more count more fewer task.env is.env; todo = items_more count more fewer task.todo is.todo; calls = calls_more count more fewer task.calls is.calls }

pub items_append : (count : ℕ) (some more : List Item) → AreItemsMade count some → AreItemsMade count more → AreItemsMade count (some ++ more)
unfolding AreItemsMade
items_append count [] more are also = also
items_append count (item ∷ some) more are also = (are.0, items_append count some more are.1 also)

-- the cell of a place
pub name_made : (count : ℕ) (env : List Entry) (name : ℕ) → All (IsMade count) env → Contains (names_of env) name → IsMade count (entry_of env name)
name_made count env name are known = entry_holds (IsMade count) env name (λ entry there. All-contains (IsMade count) env entry are there) known

chosen-element : (inside : Bool) (first index count size cell : ℕ) → nat_lt index size ≡ inside → first + size ≤ count → (if inside then Ok (first + index) else Err INDEX) ≡ Ok cell → cell < count
chosen-element true first index count size cell is within found =
    let same : first + index ≡ cell = cc in let less : index < size = grind (arith, nat_tests) in omega (arith, within, same, less)
chosen-element false first index count size cell is within found = absurd (cc)

pub place_made : (count : ℕ) (entry : Entry) (index : Option (Result ℤ ℕ)) (cell : ℕ) → IsMade count entry → place_cell entry index ≡ Ok cell → cell < count
place_made count entry None cell is found = let same : entry.first ≡ cell = cc in omega (arith, is.has_cell, is.within, same)
place_made count entry (Some (Err trap)) cell is found = absurd (cc)
place_made count entry (Some (Ok (pos index))) cell is found = chosen-element (nat_lt index entry.size) entry.first index count entry.size cell refl is.within found
place_made count entry (Some (Ok (negsuc index))) cell is found = absurd (cc)

pub first_made : (count : ℕ) (entry : Entry) → IsMade count entry → entry.first < count
first_made count entry is = omega (arith, is.has_cell, is.within)

-- the value of a call makes no cell
pub value_length : (to : Target) (number : ℤ) (cells : List ℤ) → length (value_cells to number cells) ≡ length cells
value_length target.Nowhere number cells = refl
value_length (target.Cell cell) number cells = length-set cells cell number
value_length target.Return number cells = refl

pub value_items_made : (count : ℕ) (to : Target) (number : ℤ) → AreItemsMade count (value_items to number)
unfolding AreItemsMade
value_items_made count target.Nowhere number = tt
value_items_made count (target.Cell cell) number = tt
value_items_made count target.Return number = (tt, tt)

-- names with their cells, of which there were so many before
pub record IsBoundMade (old : ℕ) (bound : Bound) : Type 0 where
  pub env : All (IsMade (length bound.cells)) bound.env
  pub grows : old ≤ length bound.cells

pub cells_made : (old : ℕ) (bound : Bound) (name slot : ℕ) (numbers : List ℤ) → 0 < length numbers → IsBoundMade old bound → IsBoundMade old (with_cells bound name slot numbers)
cells_made old bound name slot numbers some is =
    let longer : length (bound.cells ++ numbers) ≡ length bound.cells + length numbers = length-append bound.cells numbers in
    record {
      env = All-push (IsMade (length (bound.cells ++ numbers))) bound.env _
          (env_more (length bound.cells) (length (bound.cells ++ numbers)) (omega (arith, longer)) bound.env is.env)
          (record { has_cell = some; within = omega (arith, longer) });
      grows = omega (arith, longer, is.grows);
    }

pub declarators_made : (program : TreeView) (old : ℕ) (trees : List Tree) (bound : Bound) → All HasCells trees → IsBoundMade old bound → IsBoundMade old (with_declarators program bound trees)
unfolding with_declarators
declarators_made program old [] bound have is = is
declarators_made program old (tree ∷ trees) bound have is =
    declarators_made program old trees (with_declarator program bound tree) (All-tail HasCells tree trees have)
    (cells_made old bound (name_of tree) (slot_of_name program tree) (first_numbers (kind_of tree) (number_of tree)) (All-head HasCells tree trees have) is)

pub parameters_made : (program : TreeView) (old : ℕ) (parameters : List Tree) (bound : Bound) (numbers : List ℤ) → IsBoundMade old bound → IsBoundMade old (with_parameters program bound parameters numbers)
unfolding with_parameters
parameters_made program old [] bound numbers is = is
parameters_made program old (parameter ∷ parameters) bound numbers is =
    parameters_made program old parameters _ (behind_first numbers) (cells_made old bound (name_of parameter) (slot_of_name program parameter) (first_or_zero numbers ∷ []) (omega arith) is)

copied-some : (copying : Copying) (cells : List ℤ) (entry : Entry) → IsMade (length cells) entry → 0 < length (copied_numbers copying cells entry)
copied-some Private cells entry is = omega (arith, length-replicate entry.size (pos 0), is.has_cell)
copied-some First cells entry is = omega (arith, length-take entry.size (drop entry.first cells), length-drop entry.first cells, is.has_cell, is.within)
copied-some (Reduced operator) cells entry is = omega arith

pub listed_made : (old : ℕ) (listed : List Listed) (around bound : Bound) → All (IsMade (length around.cells)) around.env → AreListed (names_of around.env) listed → IsBoundMade old bound → IsBoundMade old (with_listed around bound listed)
unfolding with_listed
listed_made old [] around bound made are is = is
listed_made old (one ∷ rest) around bound made are is =
    let entry = entry_of around.env one.name in
    listed_made old rest around (with_copy around bound entry one.copying) made (All-tail (λ (one : Listed). Contains (names_of around.env) one.name) one rest are)
    (cells_made old bound entry.name entry.slot (copied_numbers one.copying around.cells entry)
    (copied-some one.copying around.cells entry (name_made (length around.cells) around.env one.name made (All-head (λ (one : Listed). Contains (names_of around.env) one.name) one rest are))) is)

shared-made : (shares : Bool) (old : ℕ) (bound : Bound) (name slot : ℕ) → IsBoundMade old bound → IsBoundMade old (if shares then with_cells bound name slot (pos 0 ∷ []) else bound)
shared-made true old bound name slot is = cells_made old bound name slot (pos 0 ∷ []) (omega arith) is
shared-made false old bound name slot is = is

pub own_cells_made : (program : TreeView) (around : Bound) (construct : Tree) → All (IsMade (length around.cells)) around.env → AreListed (names_of around.env) (listed_variables construct) → IsBoundMade (length around.cells) (with_own_cells program around construct)
own_cells_made program around construct made are =
    shared-made (is_loop construct) (length around.cells) (with_listed around around (listed_variables construct)) (name_of (loop_of construct).variable) (loop_slot program around construct)
    (listed_made (length around.cells) (listed_variables construct) around around made are (record { env = made; grows = omega arith }))

-- what a task copies by rule
slot-holds : (count slot : ℕ) (found : Entry) (env : List Entry) → All (IsMade count) env → IsMade count found ⊎ Contains (slots_of env) slot → IsMade count (last_of_slot slot found env)
unfolding last_of_slot
slot-holds count slot found [] made is = elim is [ inl this ↦ this | inr never ↦ absurd (none_in slot never) ]
slot-holds count slot found (entry ∷ env) made is =
    elim (cases_Bool (nat_eq entry.slot slot)) [
      | inl same ↦ rw same (slot-holds count slot entry env (All-tail (IsMade count) entry env made) (inl (All-head (IsMade count) entry env made)))
      | inr differs ↦ rw differs (slot-holds count slot found env (All-tail (IsMade count) entry env made)
          (elim is [
            | inl this ↦ inl this
            | inr known ↦ elim (contains_case entry.slot slot (slots_of env) known) [ inl here ↦ absurd (other_name entry.slot slot differs here) | inr there ↦ inr there ]
          ]))
    ]

slots-made : (old : ℕ) (slots : List ℕ) (around bound : Bound) → All (IsMade (length around.cells)) around.env → All (λ (slot : ℕ). Contains (slots_of around.env) slot) slots → IsBoundMade old bound → IsBoundMade old (with_slots around bound slots)
unfolding with_slots
slots-made old [] around bound made are is = is
slots-made old (slot ∷ slots) around bound made are is =
    let entry = entry_at_slot around.env slot in
    slots-made old slots around (with_copy around bound entry First) made (All-tail (λ (slot : ℕ). Contains (slots_of around.env) slot) slot slots are)
    (cells_made old bound entry.name entry.slot (copied_numbers First around.cells entry)
    (copied-some First around.cells entry (slot-holds (length around.cells) slot no_entry around.env made (inr (All-head (λ (slot : ℕ). Contains (slots_of around.env) slot) slot slots are)))) is)

pub task_cells_made : (program : TreeView) (around : Bound) (construct : Tree) → All (IsMade (length around.cells)) around.env → AreListed (names_of around.env) (listed_variables construct)
    → All (λ (slot : ℕ). Contains (slots_of around.env) slot) (task_copies program construct) → IsBoundMade (length around.cells) (with_task_cells program around construct)
task_cells_made program around construct made are slots =
    slots-made (length around.cells) (task_copies program construct) around (with_listed around around (listed_variables construct)) made slots
    (listed_made (length around.cells) (listed_variables construct) around around made are (record { env = made; grows = omega arith }))

-- what stands behind the cells that were made isn't read
read-made : (cells more : List ℤ) (found : Result ℕ ℕ) → ((cell : ℕ) → found ≡ Ok cell → cell < length cells) → value_of_cell (cells ++ more) found ≡ value_of_cell cells found
read-made cells more (Ok cell) each = ap Ok (get_or_append_left cells more (pos 0) cell (each cell refl))
read-made cells more (Err trap) each = refl

abbrev longer : List ℤ → Scope → Scope
longer more scope = record scope { cells = scope.cells ++ more }

mutual
  unfolding value values Sees SeesEach

  pub value_more : (more : List ℤ) (scope : Scope) (tree : Tree) → All (IsMade (length scope.cells)) scope.env → Sees (names_of scope.env) tree → value (record scope { cells = scope.cells ++ more }) tree ≡ value scope tree
  value_more more scope (Node node.Place spot name number text children) made sees =
      let entry = entry_of scope.env name in
      ap (λ (parts : List (Option (Result ℤ ℕ))). value_of_cell (scope.cells ++ more) (place_cell entry (value_at parts 0))) (values-more more scope children made sees.1)
      ∙ read-made scope.cells more (place_cell entry (value_at (values scope children) 0))
      (λ cell found. place_made (length scope.cells) entry (value_at (values scope children) 0) cell (name_made (length scope.cells) scope.env name made sees.0) found)
  value_more more scope (Node node.Paren spot name number text children) made sees =
      ap (λ (parts : List (Option (Result ℤ ℕ))). operand_value (value_at parts 0)) (values-more more scope children made sees)
  value_more more scope (Node (node.Unary operator) spot name number text children) made sees =
      ap (λ (parts : List (Option (Result ℤ ℕ))). unary_value operator (operand_value (value_at parts 0))) (values-more more scope children made sees)
  value_more more scope (Node (node.Binary operator) spot name number text children) made sees =
      ap (λ (parts : List (Option (Result ℤ ℕ))). binary_value operator (operand_value (value_at parts 0)) (operand_value (value_at parts 1))) (values-more more scope children made sees)
  value_more more scope (Node other spot name number text children) made sees = refl

  values-more : (more : List ℤ) (scope : Scope) (children : Children) → All (IsMade (length scope.cells)) scope.env → SeesEach (names_of scope.env) children → values (longer more scope) children ≡ values scope children
  values-more more scope Over made sees = refl
  values-more more scope (Absent rest) made sees = ap (λ (parts : List (Option (Result ℤ ℕ))). None ∷ parts) (values-more more scope rest made sees)
  values-more more scope (Child tree rest) made sees =
      ap (λ (first : Result ℤ ℕ). Some first ∷ values (longer more scope) rest) (value_more more scope tree made sees.0)
      ∙ ap (λ (parts : List (Option (Result ℤ ℕ))). Some (value scope tree) ∷ parts) (values-more more scope rest made sees.1)

-- the cell that is assigned
pub assigned_made : (scope : Scope) (place : Tree) (cell : ℕ) → All (IsMade (length scope.cells)) scope.env → Contains (names_of scope.env) (name_of place) → cell_of scope place ≡ Ok cell → cell < length scope.cells
assigned_made scope place cell made known found =
    place_made (length scope.cells) (entry_of scope.env (name_of place)) (index_of scope place) cell (name_made (length scope.cells) scope.env (name_of place) made known) found
