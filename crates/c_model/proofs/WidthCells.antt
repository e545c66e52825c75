-- How many names are in scope behind a call's or a construct's making of cells.
use Rattle.std.specs.Prelude.{ℕ, ◌+◌, ◌≤◌, ◌≡◌, if◌then◌else◌, Bool, true, false, not, List, [], ◌∷◌, ◌++◌, length, ℤ, pos}
use Rattle.std.proofs.Common.{arith}
use Rattle.std.proofs.lemmas.List.{length-append}
use Rattle.std.proofs.lemmas.List.Sums.{count_by-le-length, length-filter}
use Rattle.c_syntax.specs.declared.node.NodeKind.{NodeKind}
use Rattle.c_syntax.specs.declared.node.NodeKind.TheVariants as node
use Rattle.c_syntax.specs.language.Tree.{Tree, kind_of, name_of}
use Rattle.c_syntax.specs.language.Numbered.{TreeView}
use Rattle.c_check.specs.Seen.{slot_of_name, task_copies}
use Rattle.c_check.specs.Statements.{shares_loop}
use Rattle.c_model.specs.declared.entry.Entry.{Entry}
use Rattle.c_model.specs.Cells.{Bound, entry_at_slot, entry_of, with_cells}
use Rattle.c_model.specs.Calls.{behind_first, first_or_zero, with_parameters}
use Rattle.c_model.specs.Clauses.{Listed, clauses_of, listed_among}
use Rattle.c_model.specs.Clauses.Copying.{First}
use Rattle.c_model.specs.Loops.{loop_of}
use Rattle.c_model.specs.Copies.{is_loop_construct, is_own_loop_variable, loop_slot, listed_variables, with_copy, with_listed, with_own_cells, with_slots, with_task_cells}
use Rattle.c_model.specs.Width.{declared_names, own_names}

-- one name more
pub one_more : (env : List Entry) (entry : Entry) → length (env ++ entry ∷ []) ≡ length env + 1
one_more env entry = length-append env (entry ∷ [])

pub with_parameters_names : (program : TreeView) (parameters : List Tree) (bound : Bound) (numbers : List ℤ) → length (with_parameters program bound parameters numbers).env ≡ length bound.env + length parameters
unfolding with_parameters
with_parameters_names program [] bound numbers = omega arith
with_parameters_names program (parameter ∷ parameters) bound numbers =
    omega (
      arith,
      with_parameters_names program parameters (with_cells bound (name_of parameter) (slot_of_name program parameter) (first_or_zero numbers ∷ [])) (behind_first numbers),
      one_more bound.env,
    )

with-listed-names : (listed : List Listed) (around bound : Bound) → length (with_listed around bound listed).env ≡ length bound.env + length listed
unfolding with_listed
with-listed-names [] around bound = omega arith
with-listed-names (one ∷ rest) around bound =
    omega (arith, with-listed-names rest around (with_copy around bound (entry_of around.env one.name) one.copying), one_more bound.env)

with-slots-names : (slots : List ℕ) (around bound : Bound) → length (with_slots around bound slots).env ≡ length bound.env + length slots
unfolding with_slots
with-slots-names [] around bound = omega arith
with-slots-names (slot ∷ slots) around bound =
    omega (arith, with-slots-names slots around (with_copy around bound (entry_at_slot around.env slot) First), one_more bound.env)

-- no more variables are copied than clauses list
listed-names : (construct : Tree) → length (listed_variables construct) ≤ length (listed_among (clauses_of construct))
listed-names construct =
    omega (
      arith,
      length-filter (λ (listed : Listed). not (is_own_loop_variable construct listed.name)) (listed_among (clauses_of construct)),
      count_by-le-length (λ (listed : Listed). not (is_own_loop_variable construct listed.name)) (listed_among (clauses_of construct)),
    )

loop-chosen : (shares : Bool) (bound : Bound) (name slot : ℕ) → length (if shares then with_cells bound name slot (pos 0 ∷ []) else bound).env ≤ length bound.env + 1
loop-chosen true bound name slot = omega (arith, one_more bound.env)
loop-chosen false bound name slot = omega arith

loop-names : (kind : NodeKind) (construct : Tree) (bound : Bound) (name slot : ℕ) → length (if is_loop_construct kind then with_cells bound name slot (pos 0 ∷ []) else bound).env ≤ length bound.env + declared_names kind construct
loop-names (node.Construct which) construct bound name slot = loop-chosen (shares_loop which) bound name slot
loop-names other construct bound name slot = omega arith

pub with_own_names : (program : TreeView) (around : Bound) (construct : Tree) → length (with_own_cells program around construct).env ≤ length around.env + own_names program (kind_of construct) construct
with_own_names program around construct =
    omega (
      arith,
      loop-names (kind_of construct) construct (with_listed around around (listed_variables construct)) (name_of (loop_of construct).variable) (loop_slot program around construct),
      with-listed-names (listed_variables construct) around around,
      listed-names construct,
    )

pub with_task_names : (program : TreeView) (around : Bound) (construct : Tree) → length (with_task_cells program around construct).env ≤ length around.env + own_names program (kind_of construct) construct
with_task_names program around construct =
    omega (
      arith,
      with-slots-names (task_copies program construct) around (with_listed around around (listed_variables construct)),
      with-listed-names (listed_variables construct) around around,
      listed-names construct,
    )
