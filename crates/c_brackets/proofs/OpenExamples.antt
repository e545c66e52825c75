-- Small programs, computed: what their code has open at some moments, and behind which event what comes next there stands.
use Rattle.std.specs.Prelude.{◌≡◌, [], ◌∷◌, Some, refl}
use Rattle.c_syntax.specs.declared.node.Directive.TheVariants as directive
use Rattle.c_syntax.specs.declared.node.NodeKind.TheVariants as node
use Rattle.c_syntax.specs.declared.node.Standalone.TheVariants as standalone
use Rattle.c_syntax.specs.language.Numbered.{TreeView}
use Rattle.c_check.specs.Statements.{statement_of}
use Rattle.c_model.specs.declared.point.SyncKind.TheVariants as sync
use Rattle.c_model.specs.declared.point.SyncStage.TheVariants as stage
use Rattle.c_model.specs.declared.point.WorkKind.TheVariants as work_kind
use Rattle.c_model.specs.declared.question.Answer.TheVariants as answer
use Rattle.c_model.specs.Cells.{last_named, with_declarators}
use Rattle.c_model.specs.Calls.{with_parameters}
use Rattle.c_model.specs.Clauses.{clauses_among, listed_among, statements_among}
use Rattle.c_model.specs.Copies.{combining_all, with_listed}
use Rattle.c_model.specs.Parts.{flat_declarations, trees_in}
use Rattle.c_model.specs.Program.{function_among, variables_among}
use Rattle.c_model.specs.Step.{items_from_next, silent}
use Rattle.c_model.specs.Value.{all_values, value, values}
use Rattle.c_model.proofs.Watching.{alone, at_start, children, function, literal, named, plain, program_of, reached}
use Rattle.c_brackets.specs.Links.{link_next}
use Rattle.c_brackets.specs.Links.Link.{Syncing}
use Rattle.c_brackets.specs.Opened.{open_calls, open_items, open_task}
use Rattle.c_brackets.specs.Opened.Open.{Awaits, Masks, Syncs, Works}

-- int f(void) {
-- #pragma omp barrier
-- return 0; }
-- int main(void) {
-- #pragma omp masked
-- f();
-- return 0; }
abbrev meeting : TreeView
meeting =
    program_of 1 (
    function 2 [] (plain (node.Standalone standalone.Barrier) [] ∷ plain node.Return (literal 0 ∷ []) ∷ [])
    ∷ function 1 [] (
    plain (node.Construct directive.Masked) (plain node.Called (named node.Call 2 ∷ []) ∷ [])
    ∷ plain node.Return (literal 0 ∷ [])
    ∷ [])
    ∷ [])

-- Main's block, the masked construct, the call, the block of the function, and two events of its barrier: the wait has begun, inside the masked
-- construct of the function that has called.
meeting-waits : open_task (reached 6 meeting alone [] (at_start meeting)).task ≡ Awaits sync.Barrier ∷ Syncs sync.Barrier ∷ Masks ∷ []
unfolding reached silent children items_from_next trees_in flat_declarations function_among variables_among last_named with_declarators value values all_values with_parameters clauses_among listed_among statements_among combining_all with_listed statement_of open_items open_calls
meeting-waits = refl

meeting-follows : link_next (reached 6 meeting alone [] (at_start meeting)).task.todo ≡ Some (Syncing sync.Barrier stage.WaitBegin)
unfolding reached silent children items_from_next trees_in flat_declarations function_among variables_among last_named with_declarators value values all_values with_parameters clauses_among listed_among statements_among combining_all with_listed statement_of
meeting-follows = refl

-- At its end nothing is open.
meeting-ends : open_task (reached 100 meeting alone [] (at_start meeting)).task ≡ []
unfolding reached silent children items_from_next trees_in flat_declarations function_among variables_among last_named with_declarators value values all_values with_parameters clauses_among listed_among statements_among combining_all with_listed statement_of open_items open_calls
meeting-ends = refl

-- int main(void) {
-- #pragma omp sections
-- { ;
-- #pragma omp section
-- ; }
-- return 0; }
abbrev dividing : TreeView
dividing =
    program_of 1 (
    function 1 [] (
    plain (node.Construct directive.Sections) (plain node.Empty [] ∷ plain node.Section (plain node.Empty [] ∷ []) ∷ [])
    ∷ plain node.Return (literal 0 ∷ [])
    ∷ [])
    ∷ [])

-- Main's block, the construct, and the first section: it has two.
dividing-works : open_task (reached 3 dividing alone (answer.Section (Some 0) ∷ []) (at_start dividing)).task ≡ Works work_kind.Sections 2 ∷ []
unfolding reached silent children items_from_next trees_in flat_declarations function_among variables_among last_named with_declarators value values all_values with_parameters clauses_among listed_among statements_among combining_all with_listed statement_of open_items open_calls
dividing-works = refl
