-- The cells that a construct makes of its own (OpenMP 5.2, 5.4 and 5.5): for its private, firstprivate and reduction variables and the variable
-- of the loop that it shares out, and in a task for what the task copies by rule. A copy comes into scope under the name of the variable around,
-- and a variable that the loop declares under its own, behind the copies. It may have the name of one of them, which it then hides.
use Rattle.std.specs.Prelude.{ℕ, ◌==◌, ◌||◌, ◌^◌, ◌-◌, if◌then◌else◌, Bool, true, false, not, List, [], ◌∷◌, ◌++◌, replicate, ℤ, pos, negsuc}
use Rattle.std.specs.List.{filter}
use Rattle.c_syntax.specs.declared.node.ReductionOp.{ReductionOp}
use Rattle.c_syntax.specs.declared.node.ReductionOp.TheVariants as reduction
use Rattle.c_syntax.specs.declared.node.NodeKind.{NodeKind}
use Rattle.c_syntax.specs.declared.node.NodeKind.TheVariants as node
use Rattle.c_syntax.specs.language.Tree.{Tree, kind_of, name_of}
use Rattle.c_syntax.specs.language.Numbered.{TreeView}
use Rattle.c_check.specs.Statements.{shares_loop}
use Rattle.c_check.specs.Seen.{slot_of_name, task_copies}
use Rattle.c_model.specs.declared.entry.Entry.{Entry}
use Rattle.c_model.specs.Cells.{Bound, entry_at_slot, entry_of, numbers_of, with_cells}
use Rattle.c_model.specs.Clauses.{Copying, Listed, clauses_of, listed_among}
use Rattle.c_model.specs.Clauses.Copying.{Private, First, Reduced}
use Rattle.c_model.specs.Loops.{declares_variable, loop_of}
use Rattle.c_model.specs.Task.{Item}
use Rattle.c_model.specs.Task.Item.{Combine, MakeCells}

-- the construct shares out a loop
abbrev pub is_loop_construct : NodeKind → Bool
is_loop_construct (node.Construct which) = shares_loop which
is_loop_construct other = false

abbrev pub is_loop : Tree → Bool
is_loop construct = is_loop_construct (kind_of construct)

-- The variables that the clauses of a construct list. A loop's variable is private whatever its directive's clauses say of it, so a clause
-- that names it is passed over. Where the loop declares it, a clause of that name lists another variable, one around.
abbrev pub is_own_loop_variable : Tree → ℕ → Bool
is_own_loop_variable construct name =
    if is_loop construct
    then (if declares_variable construct then false else name_of (loop_of construct).variable == name)
    else false

abbrev pub listed_variables : Tree → List Listed
listed_variables construct =
    filter (λ (listed : Listed). not (is_own_loop_variable construct listed.name)) (listed_among (clauses_of construct))

abbrev pub is_empty : List Listed → Bool
is_empty [] = true
is_empty (first ∷ rest) = false

-- the number with which a reduction begins (OpenMP 5.2, 5.5.3)
abbrev pub neutral_number : ReductionOp → ℤ
neutral_number reduction.Add = pos 0
neutral_number reduction.Multiply = pos 1
neutral_number reduction.Max = negsuc (2 ^ 31 - 1)
neutral_number reduction.Min = pos (2 ^ 31 - 1)

-- what the new cells of a variable hold
abbrev pub copied_numbers : Copying → List ℤ → Entry → List ℤ
copied_numbers Private cells around = replicate around.size (pos 0)
copied_numbers First cells around = numbers_of cells around
copied_numbers (Reduced operator) cells around = neutral_number operator ∷ []

abbrev pub with_copy : Bound → Bound → Entry → Copying → Bound
with_copy around bound entry copying = with_cells bound entry.name entry.slot (copied_numbers copying around.cells entry)

unfoldable pub with_listed : Bound → Bound → List Listed → Bound
with_listed around bound [] = bound
with_listed around bound (listed ∷ rest) = with_listed around (with_copy around bound (entry_of around.env listed.name) listed.copying) rest

-- the variable of a loop that is shared out
abbrev pub loop_slot : TreeView → Bound → Tree → ℕ
loop_slot program around construct =
    if declares_variable construct then slot_of_name program (loop_of construct).variable
    else (entry_of around.env (name_of (loop_of construct).variable)).slot

abbrev pub with_loop_variable : TreeView → Bound → Tree → Bound → Bound
with_loop_variable program around construct bound =
    if is_loop construct then with_cells bound (name_of (loop_of construct).variable) (loop_slot program around construct) (pos 0 ∷ []) else bound

-- the names and cells behind a construct's making of its own: what its clauses list, in order, and its loop's variable
abbrev pub with_own_cells : TreeView → Bound → Tree → Bound
with_own_cells program around construct =
    with_loop_variable program around construct (with_listed around around (listed_variables construct))

-- a construct has cells to make
abbrev pub has_own_cells : Tree → Bool
has_own_cells construct = is_loop construct || not (is_empty (listed_variables construct))

abbrev pub makes_cells : Tree → List Item
makes_cells construct = if has_own_cells construct then MakeCells construct ∷ [] else []

-- what a task copies by rule has the value of the variable around
unfoldable pub with_slots : Bound → Bound → List ℕ → Bound
with_slots around bound [] = bound
with_slots around bound (slot ∷ slots) = with_slots around (with_copy around bound (entry_at_slot around.env slot) First) slots

-- the names and cells with which the code of an explicit task begins
abbrev pub with_task_cells : TreeView → Bound → Tree → Bound
with_task_cells program around construct = with_slots around (with_listed around around (listed_variables construct)) (task_copies program construct)

-- the reduction variables of a construct are combined one after another, in the order of its clauses, with those among the first so many names
abbrev pub combining_of : ℕ → Listed → Copying → List Item
combining_of names listed (Reduced operator) = Combine operator listed.name names ∷ []
combining_of names listed other = []

unfoldable pub combining_all : ℕ → List Listed → List Item
combining_all names [] = []
combining_all names (listed ∷ rest) = combining_of names listed listed.copying ++ combining_all names rest

abbrev pub combines : Tree → ℕ → List Item
combines construct names = combining_all names (listed_variables construct)
