-- Locks, barriers, and constructs without loops, computed step by step.
use Rattle.std.specs.Prelude.{ℕ, ◌≡◌, true, false, List, [], ◌∷◌, Some, None, pos, refl}
use Rattle.std.specs.Fmt.{digits}
use Rattle.c_syntax.specs.declared.node.Bump.TheVariants as bump
use Rattle.c_syntax.specs.declared.node.Side.TheVariants as side
use Rattle.c_syntax.specs.declared.node.Directive.TheVariants as directive
use Rattle.c_syntax.specs.declared.node.LockCall.TheVariants as lock
use Rattle.c_syntax.specs.declared.node.Standalone.TheVariants as standalone
use Rattle.c_syntax.specs.declared.node.Data.TheVariants as data_clause
use Rattle.c_model.specs.declared.point.MutexKind.TheVariants as mutex
use Rattle.c_model.specs.declared.point.Target.TheVariants as target
use Rattle.c_syntax.specs.declared.node.Lead.TheVariants as lead
use Rattle.c_syntax.specs.declared.node.NodeKind.{NodeKind}
use Rattle.c_syntax.specs.declared.node.NodeKind.TheVariants as node
use Rattle.c_syntax.specs.language.Tree.{Tree}
use Rattle.c_syntax.specs.language.Tree.Tree.{Node}
use Rattle.c_syntax.specs.language.Numbered.{TreeView}
use Rattle.c_model.specs.declared.point.Point.TheVariants as point
use Rattle.c_model.specs.declared.point.SyncKind.TheVariants as sync
use Rattle.c_model.specs.declared.point.SyncStage.TheVariants as stage
use Rattle.c_model.specs.declared.point.Work.TheVariants as work
use Rattle.c_model.specs.declared.point.WorkKind.TheVariants as work_kind
use Rattle.c_model.specs.declared.question.Answer.TheVariants as answer
use Rattle.c_model.specs.declared.view.View.{View}
use Rattle.c_check.specs.Statements.{statement_of}
use Rattle.c_model.specs.Parts.{trees_in, flat_declarations}
use Rattle.c_model.specs.Program.{function_among, variables_among}
use Rattle.c_model.specs.Cells.{first_named, last_named, with_declarators}
use Rattle.c_model.specs.Value.{value, values, all_values}
use Rattle.c_model.specs.Text.{printed_text, text_behind_percent, text_behind_backslash}
use Rattle.c_model.specs.Clauses.{clauses_among, expression_among, listed_among, schedule_among, statements_among}
use Rattle.c_model.specs.Copies.{combining_all, with_listed}
use Rattle.c_model.specs.Calls.{with_parameters}
use Rattle.c_model.specs.Step.{items_from_next, silent}
use Rattle.c_model.proofs.Watching.{watched, children, alone, at_start, reached, tree, plain, named, variable, function, program_of}
use Rattle.c_model.proofs.Watching.Deed.{After, End}

-- a tree at a place
abbrev placed : ℕ → ℕ → NodeKind → List Tree → Tree
placed line column kind trees = Node kind (record { line = line; column = column }) 0 0 [] (children trees)

-- omp_lock_t l;
-- int main(void) {
-- int r;
-- omp_init_lock(&l);
-- r = omp_test_lock(&l);
-- r = omp_test_lock(&l);
-- return r;
-- }
abbrev testing_call : ℕ → Tree
testing_call line = plain node.SetCall (variable 3 ∷ placed line 5 node.TestLock (named node.Name 2 ∷ []) ∷ [])

abbrev testing : TreeView
testing =
    program_of 1 (
    plain node.Locks (named node.Name 2 ∷ [])
    ∷ function 1 [] (
    plain node.Locals (named node.LocalVar 3 ∷ [])
    ∷ placed 4 1 (node.LockCall lock.Init) (named node.Name 2 ∷ [])
    ∷ testing_call 5
    ∷ testing_call 6
    ∷ plain node.Return (variable 3 ∷ [])
    ∷ [])
    ∷ [])

-- The first test finds the lock free: it comes to be owned, and the step behind it gives 1. The second one finds it owned, and its step gives 0.
testing-runs :
    watched 100 testing alone (answer.Free true ∷ answer.Free false ∷ []) 0 (at_start testing)
    ≡ After 2 (point.LockInit 262145 65536)
    ∷ After 0 (point.MutexAcquire 327685 65536 mutex.TestLock (target.Cell 1))
    ∷ After 0 (point.MutexAcquired 327685 65536 mutex.TestLock)
    ∷ After 1 (point.MutexAcquire 393221 65536 mutex.TestLock (target.Cell 1))
    ∷ End 2 (pos 0) []
    ∷ []
unfolding watched reached silent children items_from_next trees_in flat_declarations function_among variables_among first_named last_named with_declarators value values all_values printed_text text_behind_percent text_behind_backslash with_parameters digits clauses_among expression_among listed_among schedule_among statements_among combining_all with_listed statement_of
testing-runs = refl

-- int main(void) {
-- omp_lock_t l; omp_init_lock(&l);
-- int r = omp_test_lock(&l);
-- return omp_test_lock(&l);
-- }
abbrev returning : TreeView
returning =
    program_of 1 (
    function 1 [] (
    plain node.Locks (named node.Name 2 ∷ [])
    ∷ placed 2 15 (node.LockCall lock.Init) (named node.Name 2 ∷ [])
    ∷ plain node.Locals (tree node.LocalSet 3 0 (placed 3 9 node.TestLock (named node.Name 2 ∷ []) ∷ []) ∷ [])
    ∷ plain node.Return (placed 4 8 node.TestLock (named node.Name 2 ∷ []) ∷ [])
    ∷ [])
    ∷ [])

-- The block and the lock; the variable; its test ends with a step, and so does the test of the return, and then the return is one.
returning-runs :
    watched 100 returning alone (answer.Free true ∷ answer.Free false ∷ []) 0 (at_start returning)
    ≡ After 2 (point.LockInit 131087 65536)
    ∷ After 1 (point.MutexAcquire 196617 65536 mutex.TestLock (target.Cell 1))
    ∷ After 0 (point.MutexAcquired 196617 65536 mutex.TestLock)
    ∷ After 1 (point.MutexAcquire 262152 65536 mutex.TestLock target.Return)
    ∷ End 2 (pos 0) []
    ∷ []
unfolding watched reached silent children items_from_next trees_in flat_declarations function_among variables_among first_named last_named with_declarators value values all_values printed_text text_behind_percent text_behind_backslash with_parameters digits clauses_among expression_among listed_among schedule_among statements_among combining_all with_listed statement_of
returning-runs = refl

-- #pragma omp single nowait private(x)
-- x++;
abbrev counting : ℕ → Tree
counting name = plain node.Step (plain (node.Bump bump.Increment side.Behind) (variable name ∷ []) ∷ [])

abbrev clause_of : NodeKind → List Tree → Tree
clause_of kind trees = plain (node.Clause lead.Blank) (plain kind trees ∷ [])

abbrev one_executes : Tree
one_executes =
    placed 3 1 (node.Construct directive.Single) (
    clause_of node.Nowait [] ∷ clause_of (node.Data data_clause.Private) (named node.Name 3 ∷ []) ∷ counting 3 ∷ [])

-- int x; then the single, a barrier, a masked statement, and two sections, of which the first is x++;
abbrev working : TreeView
working =
    program_of 1 (
    function 1 [] (
    plain node.Locals (named node.LocalVar 3 ∷ [])
    ∷ one_executes
    ∷ placed 4 1 (node.Standalone standalone.Barrier) []
    ∷ placed 5 1 (node.Construct directive.Masked) (plain node.Empty [] ∷ [])
    ∷ placed 6 1 (node.Construct directive.Sections) (counting 3 ∷ plain node.Section (plain node.Empty [] ∷ []) ∷ [])
    ∷ plain node.Return (variable 3 ∷ [])
    ∷ [])
    ∷ [])

-- The executor makes its copy and changes it, which nobody else sees. Of the two sections this task executes the first; a task that isn't the
-- first of its team goes past the masked statement.
working-runs :
    watched 100 working alone (answer.Section (Some 0) ∷ answer.Section None ∷ []) 0 (at_start working)
    ≡ After 2 (point.WorkBegin 196609 work.Single)
    ∷ After 2 (point.WorkEnd 196609 work_kind.SingleExecutor 1)
    ∷ After 0 (point.Sync 262145 sync.Barrier stage.RegionBegin)
    ∷ After 0 (point.Sync 262145 sync.Barrier stage.WaitBegin)
    ∷ After 0 (point.Sync 262145 sync.Barrier stage.WaitEnd)
    ∷ After 0 (point.Sync 262145 sync.Barrier stage.RegionEnd)
    ∷ After 0 (point.MaskedBegin 327681)
    ∷ After 1 (point.MaskedEnd 327681)
    ∷ After 0 (point.WorkBegin 393217 (work.Sections 2))
    ∷ After 3 (point.WorkEnd 393217 work_kind.Sections 2)
    ∷ After 0 (point.Sync 393217 sync.Worksharing stage.RegionBegin)
    ∷ After 0 (point.Sync 393217 sync.Worksharing stage.WaitBegin)
    ∷ After 0 (point.Sync 393217 sync.Worksharing stage.WaitEnd)
    ∷ After 0 (point.Sync 393217 sync.Worksharing stage.RegionEnd)
    ∷ End 1 (pos 1) []
    ∷ []
unfolding watched reached silent children items_from_next trees_in flat_declarations function_among variables_among first_named last_named with_declarators value values all_values printed_text text_behind_percent text_behind_backslash with_parameters digits clauses_among expression_among listed_among schedule_among statements_among combining_all with_listed statement_of
working-runs = refl

-- The second of two threads makes a copy for the single that it doesn't execute, goes past the masked statement, and finds no section left.
abbrev second : View
second = record { index = 1; team = 2; max = 2 }

working-on-second :
    watched 100 working second (answer.Section None ∷ []) 0 (at_start working)
    ≡ After 2 (point.WorkBegin 196609 work.Single)
    ∷ After 1 (point.WorkEnd 196609 work_kind.SingleOther 1)
    ∷ After 0 (point.Sync 262145 sync.Barrier stage.RegionBegin)
    ∷ After 0 (point.Sync 262145 sync.Barrier stage.WaitBegin)
    ∷ After 0 (point.Sync 262145 sync.Barrier stage.WaitEnd)
    ∷ After 0 (point.Sync 262145 sync.Barrier stage.RegionEnd)
    ∷ After 0 (point.WorkBegin 393217 (work.Sections 2))
    ∷ After 1 (point.WorkEnd 393217 work_kind.Sections 2)
    ∷ After 0 (point.Sync 393217 sync.Worksharing stage.RegionBegin)
    ∷ After 0 (point.Sync 393217 sync.Worksharing stage.WaitBegin)
    ∷ After 0 (point.Sync 393217 sync.Worksharing stage.WaitEnd)
    ∷ After 0 (point.Sync 393217 sync.Worksharing stage.RegionEnd)
    ∷ End 1 (pos 0) []
    ∷ []
unfolding watched reached silent children items_from_next trees_in flat_declarations function_among variables_among first_named last_named with_declarators value values all_values printed_text text_behind_percent text_behind_backslash with_parameters digits clauses_among expression_among listed_among schedule_among statements_among combining_all with_listed statement_of
working-on-second = refl
