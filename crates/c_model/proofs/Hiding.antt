-- A loop that is shared out may declare a variable with the name of one that its directive reduces. It hides the copy, and the copy is combined.
use Rattle.std.specs.Prelude.{◌≡◌, List, [], ◌∷◌, Some, None, pos, refl}
use Rattle.std.specs.Fmt.{digits}
use Rattle.c_syntax.specs.declared.node.BinaryOp.TheVariants as binary
use Rattle.c_syntax.specs.declared.node.Bump.TheVariants as bump
use Rattle.c_syntax.specs.declared.node.Side.TheVariants as side
use Rattle.c_syntax.specs.declared.node.Directive.TheVariants as directive
use Rattle.c_syntax.specs.declared.node.Lead.TheVariants as lead
use Rattle.c_syntax.specs.declared.node.ReductionOp.TheVariants as reduction
use Rattle.c_syntax.specs.declared.node.NodeKind.TheVariants as node
use Rattle.c_syntax.specs.language.Tree.{Tree}
use Rattle.c_syntax.specs.language.Tree.Tree.{Node}
use Rattle.c_syntax.specs.language.Numbered.{TreeView}
use Rattle.c_model.specs.declared.point.Point.TheVariants as point
use Rattle.c_model.specs.declared.point.Schedule.TheVariants as schedule
use Rattle.c_model.specs.declared.point.SyncKind.TheVariants as sync
use Rattle.c_model.specs.declared.point.SyncStage.TheVariants as stage
use Rattle.c_model.specs.declared.point.Work.TheVariants as work
use Rattle.c_model.specs.declared.point.WorkKind.TheVariants as work_kind
use Rattle.c_model.specs.declared.question.Answer.{Answer}
use Rattle.c_model.specs.declared.question.Answer.TheVariants as answer
use Rattle.c_model.specs.Parts.{trees_in, flat_declarations}
use Rattle.c_model.specs.Program.{function_among, variables_among}
use Rattle.c_model.specs.Cells.{first_named, last_named, with_declarators}
use Rattle.c_model.specs.Value.{value, values, all_values}
use Rattle.c_model.specs.Text.{printed_text, text_behind_percent, text_behind_backslash}
use Rattle.c_check.specs.Statements.{statement_of}
use Rattle.c_model.specs.Clauses.{clauses_among, expression_among, listed_among, schedule_among, statements_among}
use Rattle.c_model.specs.Copies.{combining_all, with_listed}
use Rattle.c_model.specs.Calls.{with_parameters}
use Rattle.c_model.specs.Task.{Moment}
use Rattle.c_model.specs.Step.{items_from_next, silent}
use Rattle.c_model.proofs.Watching.{watched, children, alone, at_start, reached, member_of, tree, plain, named, variable, literal, binary_of, function, program_of}
use Rattle.c_model.proofs.Watching.Deed.{After, End}

-- int main(void) {
-- int i = 5;
-- #pragma omp parallel for num_threads(1) reduction(+:i)
-- for (int i = 0; i < 3; i++) ;
-- return i;
-- }
abbrev hiding_loop : Tree
hiding_loop =
    Node (node.Construct directive.ParallelFor) (record { line = 3; column = 1 }) 0 0 [] (children (
    plain (node.Clause lead.Blank) (plain node.NumThreads (literal 1 ∷ []) ∷ [])
    ∷ plain (node.Clause lead.Blank) (plain (node.Reduction reduction.Add) (named node.Name 2 ∷ []) ∷ [])
    ∷ plain node.For (
    plain node.Init (named node.Name 2 ∷ literal 0 ∷ [])
    ∷ binary_of binary.Less (variable 2) (literal 3)
    ∷ plain (node.Bump bump.Increment side.Behind) (variable 2 ∷ [])
    ∷ plain node.Empty []
    ∷ [])
    ∷ []))

abbrev hiding : TreeView
hiding =
    program_of 1 (
    function 1 [] (
    plain node.Locals (tree node.LocalSet 2 0 (literal 5 ∷ []) ∷ [])
    ∷ hiding_loop
    ∷ plain node.Return (variable 2 ∷ [])
    ∷ [])
    ∷ [])

-- where main stands when the region is forked: behind its block, its declarator and the event
abbrev hiding_forked : Moment
hiding_forked = reached 3 hiding alone [] (at_start hiding)

abbrev hiding_answers : List Answer
hiding_answers = answer.Chunk (Some (0, 3)) ∷ answer.Chunk None ∷ []

-- the member: its cells, a chunk, three iterations of two steps each, no further chunk, and the combining
hiding-member :
    watched 100 hiding alone hiding_answers 0 (member_of hiding_forked)
    ≡ After 0 (point.WorkBegin 196609 (work.Loop (pos 0) 3 (pos 1) (schedule.Static 0)))
    ∷ After 10 (point.WorkEnd 196609 work_kind.Loop 3)
    ∷ After 0 (point.Sync 196609 sync.Worksharing stage.RegionBegin)
    ∷ After 0 (point.Sync 196609 sync.Worksharing stage.WaitBegin)
    ∷ After 0 (point.Sync 196609 sync.Worksharing stage.WaitEnd)
    ∷ After 0 (point.Sync 196609 sync.Worksharing stage.RegionEnd)
    ∷ After 0 (point.Sync 196609 sync.Parallel stage.RegionBegin)
    ∷ After 0 (point.Sync 196609 sync.Parallel stage.WaitBegin)
    ∷ After 0 (point.Sync 196609 sync.Parallel stage.WaitEnd)
    ∷ After 0 (point.Sync 196609 sync.Parallel stage.RegionEnd)
    ∷ End 0 (pos 0) []
    ∷ []
unfolding watched reached silent children items_from_next trees_in flat_declarations function_among variables_among first_named last_named with_declarators value values all_values printed_text text_behind_percent text_behind_backslash with_parameters digits clauses_among expression_among listed_among schedule_among statements_among combining_all with_listed statement_of
hiding-member = refl

-- where the member stands at its end
abbrev hiding_combined : Moment
hiding_combined = reached 30 hiding alone hiding_answers (member_of hiding_forked)

-- the outer i, the copy of it, and the loop's own i, which was 2 last: 5 and 0 were combined
hiding-cells : hiding_combined.store.cells ≡ pos 5 ∷ pos 0 ∷ pos 2 ∷ []
unfolding watched reached silent children items_from_next trees_in flat_declarations function_among variables_among first_named last_named with_declarators value values all_values printed_text text_behind_percent text_behind_backslash with_parameters digits clauses_among expression_among listed_among schedule_among statements_among combining_all with_listed statement_of
hiding-cells = refl

-- and main goes on
hiding-returns :
    watched 100 hiding alone [] 0 (record hiding_forked { store = hiding_combined.store }) ≡ After 0 (point.ParallelEnd 196609) ∷ End 1 (pos 5) [] ∷ []
unfolding watched reached silent children items_from_next trees_in flat_declarations function_among variables_among first_named last_named with_declarators value values all_values printed_text text_behind_percent text_behind_backslash with_parameters digits clauses_among expression_among listed_among schedule_among statements_among combining_all with_listed statement_of
hiding-returns = refl
