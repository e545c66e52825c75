-- Small programs, computed step by step: how many silent steps stand between the events of a task's code, what the events are, with which
-- number the code ends, and what is printed. Trees are written out as values.
use Rattle.std.specs.Prelude.{◌≡◌, List, [], ◌∷◌, Some, None, pos, refl}
use Rattle.std.specs.Fmt.{digits}
use Rattle.c_syntax.specs.declared.node.BinaryOp.TheVariants as binary
use Rattle.c_syntax.specs.declared.node.Bump.TheVariants as bump
use Rattle.c_syntax.specs.declared.node.Side.TheVariants as side
use Rattle.c_syntax.specs.declared.node.Setting.TheVariants as setting
use Rattle.c_syntax.specs.declared.node.Directive.TheVariants as directive
use Rattle.c_syntax.specs.declared.node.Lead.TheVariants as lead
use Rattle.c_syntax.specs.declared.node.ReductionOp.TheVariants as reduction
use Rattle.c_syntax.specs.declared.node.NodeKind.TheVariants as node
use Rattle.c_tokens.specs.declared.token.Spot.{Spot}
use Rattle.c_syntax.specs.declared.node.ScheduleKind.TheVariants as kind
use Rattle.c_syntax.specs.language.Tree.{Tree}
use Rattle.c_syntax.specs.language.Tree.Children.{Absent, Child, Over}
use Rattle.c_syntax.specs.language.Tree.Tree.{Node}
use Rattle.c_syntax.specs.language.Numbered.{TreeView}
use Rattle.c_model.specs.declared.point.Point.TheVariants as point
use Rattle.c_model.specs.declared.point.Schedule.TheVariants as schedule
use Rattle.c_model.specs.declared.point.SyncKind.TheVariants as sync
use Rattle.c_model.specs.declared.point.SyncStage.TheVariants as stage
use Rattle.c_model.specs.declared.point.Work.TheVariants as work
use Rattle.c_model.specs.declared.point.WorkKind.TheVariants as work_kind
use Rattle.c_model.specs.declared.question.Answer.TheVariants as answer
use Rattle.c_model.specs.Parts.{trees_in, flat_declarations}
use Rattle.c_model.specs.Program.{function_among, variables_among}
use Rattle.c_model.specs.Cells.{first_named, last_named, with_declarators}
use Rattle.c_model.specs.Value.{value, values, all_values}
use Rattle.c_model.specs.Text.{printed_text, text_behind_percent, text_behind_backslash}
use Rattle.c_check.specs.Statements.{statement_of}
use Rattle.c_model.specs.Clauses.{clauses_among, expression_among, listed_among, schedule_among, statements_among}
use Rattle.c_model.specs.Copies.{combining_all, with_listed}
use Rattle.c_model.specs.Calls.{with_parameters}
use Rattle.c_model.specs.Task.{Moment}
use Rattle.c_model.specs.Step.{items_from_next, silent}
use Rattle.c_model.proofs.Watching.{watched, children, alone, at_start, reached, member_of, tree, plain, named, variable, literal, binary_of, function, program_of}
use Rattle.c_model.proofs.Watching.Deed.{After, End, Limit, Trap}

-- int main(void) { int i, s = 0; for (i = 0; i < 3; i++) s = s + i * 2; printf("%d\n", s); return s - 6; }
abbrev looping_items : List Tree
looping_items =
    plain node.Locals (named node.LocalVar 2 ∷ tree node.LocalSet 3 0 (literal 0 ∷ []) ∷ [])
    ∷ plain node.For (
    plain (node.Assign setting.Plain) (variable 2 ∷ literal 0 ∷ [])
    ∷ binary_of binary.Less (variable 2) (literal 3)
    ∷ plain (node.Bump bump.Increment side.Behind) (variable 2 ∷ [])
    ∷ plain node.Step (
    plain (node.Assign setting.Plain) (
    variable 3 ∷ binary_of binary.Add (variable 3) (binary_of binary.Multiply (variable 2) (literal 2)) ∷ []) ∷ [])
    ∷ [])
    ∷ Node node.Print (record { line = 0; column = 0 }) 0 0 (37 ∷ 100 ∷ 92 ∷ 110 ∷ []) (children (variable 3 ∷ []))
    ∷ plain node.Return (binary_of binary.Subtract (variable 3) (literal 6) ∷ [])
    ∷ []

abbrev pub looping : TreeView
looping = program_of 1 (function 1 [] looping_items ∷ [])

-- The block, two declarators, the first part of the loop, four tests, three bodies, three third parts, the printf, the return.
looping-runs : watched 100 looping alone [] 0 (at_start looping) ≡ End 16 (pos 0) (54 ∷ 10 ∷ []) ∷ []
unfolding watched reached silent children items_from_next trees_in flat_declarations function_among variables_among first_named last_named with_declarators value values all_values printed_text text_behind_percent text_behind_backslash with_parameters digits clauses_among expression_among listed_among schedule_among statements_among combining_all with_listed statement_of
looping-runs = refl

-- int f(int n) { if (n < 1) return 7; return f(n - 1); }   int main(void) { int r = f(2); return r; }
abbrev recursive : TreeView
recursive =
    program_of 1 (
    function 2 (named node.Name 3 ∷ []) (
    plain node.If (binary_of binary.Less (variable 3) (literal 1) ∷ plain node.Return (literal 7 ∷ []) ∷ [])
    ∷ plain node.Return (tree node.Call 2 0 (binary_of binary.Subtract (variable 3) (literal 1) ∷ []) ∷ [])
    ∷ [])
    ∷ function 1 [] (
    plain node.Locals (tree node.LocalSet 4 0 (tree node.Call 2 0 (literal 2 ∷ []) ∷ []) ∷ [])
    ∷ plain node.Return (variable 4 ∷ [])
    ∷ [])
    ∷ [])

-- In main the block, the declarator, the start of the call; in each of three calls the block, the test, and the start of the next call or the
-- return; in each of the two that wait a return of their own; and main's return.
recursive-runs : watched 100 recursive alone [] 0 (at_start recursive) ≡ End 15 (pos 7) [] ∷ []
unfolding watched reached silent children items_from_next trees_in flat_declarations function_among variables_among first_named last_named with_declarators value values all_values printed_text text_behind_percent text_behind_backslash with_parameters digits clauses_among expression_among listed_among schedule_among statements_among combining_all with_listed statement_of
recursive-runs = refl

-- The same without an end. Main's block and statement stand in one call; 63 more may be open beside it, each with its start and its block; the
-- start of the next one meets the limit.
abbrev pub endless : TreeView
endless =
    program_of 1 (
    function 2 (named node.Name 3 ∷ []) (plain node.Return (tree node.Call 2 0 (variable 3 ∷ []) ∷ []) ∷ [])
    ∷ function 1 [] (plain node.Called (tree node.Call 2 0 (literal 0 ∷ []) ∷ []) ∷ [])
    ∷ [])

endless-runs : watched 300 endless alone [] 0 (at_start endless) ≡ Limit 127 6 ∷ []
unfolding watched reached silent children items_from_next trees_in flat_declarations function_among variables_among first_named last_named with_declarators value values all_values printed_text text_behind_percent text_behind_backslash with_parameters digits clauses_among expression_among listed_among schedule_among statements_among combining_all with_listed statement_of
endless-runs = refl

-- int s; int main(void) { int i;
-- #pragma omp parallel for reduction(+:s) schedule(static, 2)
-- for (i = 0; i < 3; i++) s += i;
-- return s; }
abbrev sharing_place : Spot
sharing_place = record { line = 2; column = 1 }

abbrev shared_loop : Tree
shared_loop =
    Node (node.Construct directive.ParallelFor) sharing_place 0 0 [] (children (
    plain (node.Clause lead.Blank) (plain (node.Reduction reduction.Add) (named node.Name 2 ∷ []) ∷ [])
    ∷ plain (node.Clause lead.Blank) (plain (node.Schedule kind.Static) (literal 2 ∷ []) ∷ [])
    ∷ plain node.For (
    plain (node.Assign setting.Plain) (variable 3 ∷ literal 0 ∷ [])
    ∷ binary_of binary.Less (variable 3) (literal 3)
    ∷ plain (node.Bump bump.Increment side.Behind) (variable 3 ∷ [])
    ∷ plain node.Step (plain (node.Assign setting.Add) (variable 2 ∷ variable 3 ∷ []) ∷ [])
    ∷ [])
    ∷ []))

abbrev pub sharing : TreeView
sharing =
    program_of 1 (
    plain node.Globals (named node.GlobalVar 2 ∷ [])
    ∷ function 1 [] (plain node.Locals (named node.LocalVar 3 ∷ []) ∷ shared_loop ∷ plain node.Return (variable 2 ∷ []) ∷ [])
    ∷ [])

-- Main forks after its block and its declarator, and goes on behind the region. Its member does nothing here.
sharing-forks : watched 100 sharing alone [] 0 (at_start sharing)
    ≡ After 2 (point.ParallelBegin 131073 (pos 1)) ∷ After 0 (point.ParallelEnd 131073) ∷ End 1 (pos 0) [] ∷ []
unfolding watched reached silent children items_from_next trees_in flat_declarations function_among variables_among first_named last_named with_declarators value values all_values printed_text text_behind_percent text_behind_backslash with_parameters digits clauses_among expression_among listed_among schedule_among statements_among combining_all with_listed statement_of
sharing-forks = refl

-- where main stands when the region is forked
abbrev forked : Moment
forked = reached 3 sharing alone [] (at_start sharing)

-- The member: it makes the cells of its own; takes the chunk of the first two iterations, each of which sets the variable and then executes the
-- body; takes the chunk of the third one; asks once more, and combines.
sharing-member :
    watched 100 sharing alone (answer.Chunk (Some (0, 2)) ∷ answer.Chunk (Some (2, 1)) ∷ answer.Chunk None ∷ []) 0 (member_of forked)
    ≡ After 0 (point.WorkBegin 131073 (work.Loop (pos 0) 3 (pos 1) (schedule.Static 2)))
    ∷ After 11 (point.WorkEnd 131073 work_kind.Loop 3)
    ∷ After 0 (point.Sync 131073 sync.Worksharing stage.RegionBegin)
    ∷ After 0 (point.Sync 131073 sync.Worksharing stage.WaitBegin)
    ∷ After 0 (point.Sync 131073 sync.Worksharing stage.WaitEnd)
    ∷ After 0 (point.Sync 131073 sync.Worksharing stage.RegionEnd)
    ∷ After 0 (point.Sync 131073 sync.Parallel stage.RegionBegin)
    ∷ After 0 (point.Sync 131073 sync.Parallel stage.WaitBegin)
    ∷ After 0 (point.Sync 131073 sync.Parallel stage.WaitEnd)
    ∷ After 0 (point.Sync 131073 sync.Parallel stage.RegionEnd)
    ∷ End 0 (pos 0) []
    ∷ []
unfolding watched reached silent children items_from_next trees_in flat_declarations function_among variables_among first_named last_named with_declarators value values all_values printed_text text_behind_percent text_behind_backslash with_parameters digits clauses_among expression_among listed_among schedule_among statements_among combining_all with_listed statement_of
sharing-member = refl

-- int main(void) { int x = 2147483647; x = x + 1; return 0; }
abbrev overflowing : TreeView
overflowing =
    program_of 1 (
    function 1 [] (
    plain node.Locals (tree node.LocalSet 2 0 (literal 2147483647 ∷ []) ∷ [])
    ∷ plain node.Step (plain (node.Assign setting.Plain) (variable 2 ∷ binary_of binary.Add (variable 2) (literal 1) ∷ []) ∷ [])
    ∷ plain node.Return (literal 0 ∷ [])
    ∷ [])
    ∷ [])

overflowing-runs : watched 100 overflowing alone [] 0 (at_start overflowing) ≡ Trap 2 1 ∷ []
unfolding watched reached silent children items_from_next trees_in flat_declarations function_among variables_among first_named last_named with_declarators value values all_values printed_text text_behind_percent text_behind_backslash with_parameters digits clauses_among expression_among listed_among schedule_among statements_among combining_all with_listed statement_of
overflowing-runs = refl

-- int a[2]; int main(void) { int i = 0; for (;;) { a[i] = 7; i++; } }
abbrev leaving_array : TreeView
leaving_array =
    program_of 1 (
    plain node.Globals (tree node.GlobalArray 2 2 [] ∷ [])
    ∷ function 1 [] (
    plain node.Locals (tree node.LocalSet 3 0 (literal 0 ∷ []) ∷ [])
    ∷ Node node.For (record { line = 0; column = 0 }) 0 0 [] (Absent (Absent (Absent (Child (
    plain node.Block (
    plain node.Step (plain (node.Assign setting.Plain) (tree node.Place 2 0 (variable 3 ∷ []) ∷ literal 7 ∷ []) ∷ [])
    ∷ plain node.Step (plain (node.Bump bump.Increment side.Behind) (variable 3 ∷ []) ∷ [])
    ∷ [])) Over))))
    ∷ [])
    ∷ [])

-- The block, the declarator and the absent first part; twice the absent test, the block, two statements, its end and the absent third part; and
-- once more the test and the block, before the index is 2.
leaving-runs : watched 100 leaving_array alone [] 0 (at_start leaving_array) ≡ Trap 17 3 ∷ []
unfolding watched reached silent children items_from_next trees_in flat_declarations function_among variables_among first_named last_named with_declarators value values all_values printed_text text_behind_percent text_behind_backslash with_parameters digits clauses_among expression_among listed_among schedule_among statements_among combining_all with_listed statement_of
leaving-runs = refl

-- A declarator where no block has it, which no text can have: main's `if` has one as its branch. It is an empty statement.
abbrev misplaced : TreeView
misplaced = program_of 1 (function 1 [] (plain node.If (literal 1 ∷ named node.LocalVar 2 ∷ []) ∷ []) ∷ [])

-- The block, the test, the empty statement, the block's end, and main falls off.
misplaced-runs : watched 100 misplaced alone [] 0 (at_start misplaced) ≡ End 5 (pos 0) [] ∷ []
unfolding watched reached silent children items_from_next trees_in flat_declarations function_among variables_among first_named last_named with_declarators value values all_values printed_text text_behind_percent text_behind_backslash with_parameters digits clauses_among expression_among listed_among schedule_among statements_among combining_all with_listed statement_of
misplaced-runs = refl
