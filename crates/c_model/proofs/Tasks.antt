-- Explicit tasks, computed: what they copy by rule, and what their code does with the copy. Here names stand at places, by which the rules of
-- programs know them.
use Rattle.std.specs.Prelude.{ℕ, ◌≡◌, true, false, List, [], ◌∷◌, pos, refl}
use Rattle.std.specs.Fmt.{digits}
use Rattle.c_syntax.specs.declared.node.BinaryOp.TheVariants as binary
use Rattle.c_syntax.specs.declared.node.Setting.TheVariants as setting
use Rattle.c_syntax.specs.declared.node.Returns.TheVariants as returns
use Rattle.c_syntax.specs.declared.node.Parameters.TheVariants as params
use Rattle.c_syntax.specs.declared.node.Directive.TheVariants as directive
use Rattle.c_syntax.specs.declared.node.Lead.TheVariants as lead
use Rattle.c_syntax.specs.declared.node.NodeKind.{NodeKind}
use Rattle.c_syntax.specs.declared.node.NodeKind.TheVariants as node
use Rattle.c_syntax.specs.language.Tree.{Tree}
use Rattle.c_syntax.specs.language.Tree.Tree.{Node}
use Rattle.c_syntax.specs.language.Numbered.{TreeView}
use Rattle.c_model.specs.declared.point.Point.TheVariants as point
use Rattle.c_model.specs.Parts.{trees_in, flat_declarations}
use Rattle.c_model.specs.Program.{function_among, variables_among}
use Rattle.c_model.specs.Cells.{first_named, last_named, with_declarators}
use Rattle.c_model.specs.Value.{value, values, all_values}
use Rattle.c_model.specs.Text.{printed_text, text_behind_percent, text_behind_backslash}
use Rattle.c_model.specs.Clauses.{clauses_among, expression_among, listed_among, schedule_among, statements_among}
use Rattle.c_model.specs.Copies.{combining_all, with_listed}
use Rattle.c_model.specs.Calls.{with_parameters}
use Rattle.c_model.specs.Step.{items_from_next, silent}
use Rattle.c_model.proofs.Watching.{watched, children, alone, at_start, member_of, reached, plain, literal, binary_of, program_of}
use Rattle.c_model.proofs.Watching.Deed.{After, End}
use Rattle.c_check.specs.Acts.{acts, each, outside_acts, statements}
use Rattle.c_check.specs.Checked.{after_all}
use Rattle.c_check.specs.Clauses.{inside_acts}
use Rattle.c_check.specs.Constructs.{loops_in, mention, unlisted_in}
use Rattle.c_check.specs.Declarations.{find, still_in_scope}
use Rattle.c_check.specs.Here.{after}
use Rattle.c_check.specs.NameLists.{child_count, names}
use Rattle.c_check.specs.Once.{is_among, with_each}
use Rattle.c_check.specs.Seen.{slot_in, slots_copied, task_copies}
use Rattle.c_check.specs.Shares.{copies_around, shared_by_rule}
use Rattle.c_check.specs.Statements.{statement_of}
use Rattle.c_model.specs.Cells.{last_of_slot}
use Rattle.c_model.specs.Copies.{with_slots}
use Rattle.c_model.specs.Begin.{explicit_task}
use Rattle.c_model.specs.Task.{Moment}
use Rattle.c_model.specs.Task.Item.{Start}
use Rattle.c_model.specs.declared.view.View.{View}
use Rattle.c_model.specs.declared.point.SyncKind.TheVariants as sync
use Rattle.c_model.specs.declared.point.SyncStage.TheVariants as stage

abbrev at : ℕ → ℕ → NodeKind → ℕ → ℕ → List Tree → Tree
at line column kind name number trees = Node kind (record { line = line; column = column }) name number [] (children trees)

-- int main(void) {
-- int y, x = 5;
-- #pragma omp task if(0)
-- x = x + 1;
-- return x;
-- }
abbrev creation : Tree
creation =
    at 3 1 (node.Construct directive.Task) 0 0 (
    plain (node.Clause lead.Blank) (plain node.IfClause (literal 0 ∷ []) ∷ [])
    ∷ plain node.Step (
    plain (node.Assign setting.Plain) (
    at 4 1 node.Place 2 0 [] ∷ binary_of binary.Add (at 4 5 node.Place 2 0 []) (literal 1) ∷ []) ∷ [])
    ∷ [])

abbrev pub creating : TreeView
creating =
    program_of 1 (
    plain (node.Function returns.Int) (
    at 1 5 node.Name 1 0 []
    ∷ plain (node.Params params.Void) []
    ∷ plain node.Block (
    plain node.Locals (at 2 5 node.LocalVar 3 0 [] ∷ at 2 8 node.LocalSet 2 0 (literal 5 ∷ []) ∷ [])
    ∷ creation
    ∷ plain node.Return (at 5 8 node.Place 2 0 [] ∷ [])
    ∷ [])
    ∷ [])
    ∷ [])

-- main is slot 0, y 1 and x 2. The task copies x and nothing else
creating-copies : task_copies creating creation ≡ 2 ∷ []
unfolding watched reached silent children items_from_next trees_in flat_declarations function_among variables_among first_named last_named with_declarators value values all_values printed_text text_behind_percent text_behind_backslash with_parameters digits clauses_among expression_among listed_among schedule_among statements_among combining_all with_listed after_all after acts each find still_in_scope names child_count outside_acts inside_acts statements mention is_among with_each slot_in slots_copied copies_around shared_by_rule unlisted_in loops_in statement_of with_slots last_of_slot
creating-copies = refl

creating-runs : watched 100 creating alone [] 0 (at_start creating) ≡ After 3 (point.TaskCreate 196609 true) ∷ End 1 (pos 5) [] ∷ []
unfolding watched reached silent children items_from_next trees_in flat_declarations function_among variables_among first_named last_named with_declarators value values all_values printed_text text_behind_percent text_behind_backslash with_parameters digits clauses_among expression_among listed_among schedule_among statements_among combining_all with_listed after_all after acts each find still_in_scope names child_count outside_acts inside_acts statements mention is_among with_each slot_in slots_copied copies_around shared_by_rule unlisted_in loops_in statement_of with_slots last_of_slot
creating-runs = refl

-- when main has come to the creation, three steps behind its start
abbrev created : Moment
created = explicit_task creating alone (reached 3 creating alone [] (at_start creating))

-- y, x, and the task's own x
created-cells : created.store.cells ≡ pos 0 ∷ pos 5 ∷ pos 5 ∷ []
unfolding watched reached silent children items_from_next trees_in flat_declarations function_among variables_among first_named last_named with_declarators value values all_values printed_text text_behind_percent text_behind_backslash with_parameters digits clauses_among expression_among listed_among schedule_among statements_among combining_all with_listed after_all after acts each find still_in_scope names child_count outside_acts inside_acts statements mention is_among with_each slot_in slots_copied copies_around shared_by_rule unlisted_in loops_in statement_of with_slots last_of_slot
created-cells = refl

created-runs : watched 100 creating alone [] 0 created ≡ End 1 (pos 0) [] ∷ []
unfolding watched reached silent children items_from_next trees_in flat_declarations function_among variables_among first_named last_named with_declarators value values all_values printed_text text_behind_percent text_behind_backslash with_parameters digits clauses_among expression_among listed_among schedule_among statements_among combining_all with_listed after_all after acts each find still_in_scope names child_count outside_acts inside_acts statements mention is_among with_each slot_in slots_copied copies_around shared_by_rule unlisted_in loops_in statement_of with_slots last_of_slot
created-runs = refl

-- its step changes its own x alone
created-changes : (reached 1 creating alone [] created).store.cells ≡ pos 0 ∷ pos 5 ∷ pos 6 ∷ []
unfolding watched reached silent children items_from_next trees_in flat_declarations function_among variables_among first_named last_named with_declarators value values all_values printed_text text_behind_percent text_behind_backslash with_parameters digits clauses_among expression_among listed_among schedule_among statements_among combining_all with_listed after_all after acts each find still_in_scope names child_count outside_acts inside_acts statements mention is_among with_each slot_in slots_copied copies_around shared_by_rule unlisted_in loops_in statement_of with_slots last_of_slot
created-changes = refl

-- int main(void) {
-- #pragma omp parallel num_threads(2)
-- {
-- int x = 5;
-- #pragma omp masked
-- ;
-- #pragma omp task
-- x = 1;
-- }
-- return 0;
-- }
abbrev passing_statement : Tree
passing_statement = plain node.Step (plain (node.Assign setting.Plain) (at 8 1 node.Place 2 0 [] ∷ literal 1 ∷ []) ∷ [])

abbrev passing_region : Tree
passing_region =
    at 2 1 (node.Construct directive.Parallel) 0 0 (
    plain (node.Clause lead.Blank) (plain node.NumThreads (literal 2 ∷ []) ∷ [])
    ∷ plain node.Block (
    plain node.Locals (at 4 5 node.LocalSet 2 0 (literal 5 ∷ []) ∷ [])
    ∷ at 5 1 (node.Construct directive.Masked) 0 0 (plain node.Empty [] ∷ [])
    ∷ at 7 1 (node.Construct directive.Task) 0 0 (passing_statement ∷ [])
    ∷ [])
    ∷ [])

abbrev passing : TreeView
passing =
    program_of 1 (
    plain (node.Function returns.Int) (
    at 1 5 node.Name 1 0 []
    ∷ plain (node.Params params.Void) []
    ∷ plain node.Block (passing_region ∷ plain node.Return (literal 0 ∷ []) ∷ [])
    ∷ [])
    ∷ [])

abbrev second : View
second = record { index = 1; team = 2; max = 2 }

-- the second member behind its block and its declarator. What it goes past stands in its code, before the task construct
abbrev passing_member : Moment
passing_member = reached 2 passing second [] (member_of (reached 2 passing alone [] (at_start passing)))

passing-runs :
    watched 100 passing second [] 0 passing_member
    ≡ After 0 (point.TaskCreate 458753 false)
    ∷ After 1 (point.Sync 131073 sync.Parallel stage.RegionBegin)
    ∷ After 0 (point.Sync 131073 sync.Parallel stage.WaitBegin)
    ∷ After 0 (point.Sync 131073 sync.Parallel stage.WaitEnd)
    ∷ After 0 (point.Sync 131073 sync.Parallel stage.RegionEnd)
    ∷ End 0 (pos 0) []
    ∷ []
unfolding watched reached silent children items_from_next trees_in flat_declarations function_among variables_among first_named last_named with_declarators value values all_values printed_text text_behind_percent text_behind_backslash with_parameters digits clauses_among expression_among listed_among schedule_among statements_among combining_all with_listed after_all after acts each find still_in_scope names child_count outside_acts inside_acts statements mention is_among with_each slot_in slots_copied copies_around shared_by_rule unlisted_in loops_in statement_of with_slots last_of_slot
passing-runs = refl

-- the explicit task has the statement of the task construct
abbrev passing_task : Moment
passing_task = explicit_task passing second passing_member

passing-statement : passing_task.task.todo ≡ Start passing_statement ∷ []
unfolding watched reached silent children items_from_next trees_in flat_declarations function_among variables_among first_named last_named with_declarators value values all_values printed_text text_behind_percent text_behind_backslash with_parameters digits clauses_among expression_among listed_among schedule_among statements_among combining_all with_listed after_all after acts each find still_in_scope names child_count outside_acts inside_acts statements mention is_among with_each slot_in slots_copied copies_around shared_by_rule unlisted_in loops_in statement_of with_slots last_of_slot
passing-statement = refl

-- .. and its own x, which its step changes
passing-cells : passing_task.store.cells ≡ pos 5 ∷ pos 5 ∷ []
unfolding watched reached silent children items_from_next trees_in flat_declarations function_among variables_among first_named last_named with_declarators value values all_values printed_text text_behind_percent text_behind_backslash with_parameters digits clauses_among expression_among listed_among schedule_among statements_among combining_all with_listed after_all after acts each find still_in_scope names child_count outside_acts inside_acts statements mention is_among with_each slot_in slots_copied copies_around shared_by_rule unlisted_in loops_in statement_of with_slots last_of_slot
passing-cells = refl

passing-changes : (reached 1 passing second [] passing_task).store.cells ≡ pos 5 ∷ pos 1 ∷ []
unfolding watched reached silent children items_from_next trees_in flat_declarations function_among variables_among first_named last_named with_declarators value values all_values printed_text text_behind_percent text_behind_backslash with_parameters digits clauses_among expression_among listed_among schedule_among statements_among combining_all with_listed after_all after acts each find still_in_scope names child_count outside_acts inside_acts statements mention is_among with_each slot_in slots_copied copies_around shared_by_rule unlisted_in loops_in statement_of with_slots last_of_slot
passing-changes = refl
