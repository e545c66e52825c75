-- The tasks of a program begin within its width.
use Rattle.std.specs.Prelude.{ℕ, ◌+◌, ◌≤◌, ◌≡◌, List, [], ◌∷◌, ◌++◌, length}
use Rattle.std.proofs.Common.{arith}
use Rattle.std.proofs.lemmas.List.Elements.{All-cons, All-nil}
use Rattle.c_syntax.specs.declared.node.Directive.TheVariants as directive
use Rattle.c_syntax.specs.declared.node.NodeKind.{NodeKind}
use Rattle.c_syntax.specs.declared.node.NodeKind.TheVariants as node
use Rattle.c_syntax.specs.language.Tree.{Tree, kind_of}
use Rattle.c_syntax.specs.language.Numbered.{TreeView}
use Rattle.c_model.specs.declared.point.SyncKind.TheVariants as sync
use Rattle.c_model.specs.declared.point.SyncStage.TheVariants as stage
use Rattle.c_model.specs.declared.point.Target.TheVariants.{Nowhere}
use Rattle.c_model.specs.declared.view.View.{View}
use Rattle.c_model.specs.Begin.{created_construct, explicit_task, forked_construct, main_task, member_statement, member_task}
use Rattle.c_model.specs.Calls.{file_bound}
use Rattle.c_model.specs.Cells.{Bound}
use Rattle.c_model.specs.Clauses.{construct_statement}
use Rattle.c_model.specs.Copies.{combines, makes_cells, with_task_cells}
use Rattle.c_model.specs.Program.{body_of, function_named}
use Rattle.c_model.specs.Step.{settled_task}
use Rattle.c_model.specs.Task.{Item, Moment, Task}
use Rattle.c_model.specs.Task.Item.{Start, Forked, Sync}
use Rattle.c_model.specs.Width.{IsCallWithin, IsWithin, inner_names, most_names, own_names, width}
use Rattle.c_model.proofs.WidthCells.{with_task_names}
use Rattle.c_model.proofs.WidthGoing.{combining_names, making_names}
use Rattle.c_model.proofs.WidthNames.{least}
use Rattle.c_model.proofs.WidthSettled.{settled_is_within}
use Rattle.c_model.proofs.WidthCalls.{body_enough}
use Rattle.c_model.proofs.WidthTrees.{none, of_function, of_statement, split}

-- main's code
main-body : (program : TreeView) → length (file_bound program).env + inner_names program (body_of (function_named program program.main)) ≤ width program
main-body program = omega (arith, of_function program program.main)

main-call : (program : TreeView) → IsCallWithin program (record { todo = []; env = (file_bound program).env; to = Nowhere })
unfolding most_names
main-call program = omega arith

pub main_is_within : (program : TreeView) → IsWithin program (main_task program)
main_is_within program =
    record {
      now = body_enough program (body_of (function_named program program.main)) (length (file_bound program).env) (main-body program);
      calls = All-cons (IsCallWithin program) _ [] (main-call program) (All-nil (IsCallWithin program));
    }

-- a member's code
last-names : (program : TreeView) (construct : Tree) (around names : ℕ) → most_names program (combines construct around ++ Sync construct sync.Parallel stage.RegionBegin ∷ []) names ≡ names
unfolding most_names
last-names program construct around names = combining_names program construct around (Sync construct sync.Parallel stage.RegionBegin ∷ []) names

plain-names : (program : TreeView) (construct : Tree) (names : ℕ) → most_names program ((makes_cells construct ++ Start (construct_statement construct) ∷ combines construct names) ++ Sync construct sync.Parallel stage.RegionBegin ∷ []) names ≤ names + inner_names program construct
unfolding most_names
plain-names program construct names =
    omega (
      arith,
      making_names program construct (Start (construct_statement construct) ∷ combines construct names) (Sync construct sync.Parallel stage.RegionBegin ∷ []) names,
      split program construct,
      of_statement program construct,
      last-names program construct names (names + own_names program (kind_of construct) construct),
    )

member-names : (program : TreeView) (kind : NodeKind) (construct : Tree) (names : ℕ) → most_names program (member_statement kind construct names ++ Sync construct sync.Parallel stage.RegionBegin ∷ []) names ≤ names + inner_names program construct
unfolding most_names
member-names program (node.Construct directive.ParallelFor) construct names = omega arith
member-names program (node.Construct directive.ParallelSections) construct names = omega arith
member-names program other construct names = plain-names program construct names

forked-names : (program : TreeView) (items : List Item) (names : ℕ) → names + inner_names program (forked_construct items) ≤ most_names program items names
unfolding most_names
forked-names program [] names = omega (arith, none program)
forked-names program (Forked construct ∷ items) names = omega arith
forked-names program (item ∷ items) names = omega (arith, none program, least program (item ∷ items) names)

pub member_is_within : (program : TreeView) (task : Task) → IsWithin program task → IsWithin program (member_task task)
member_is_within program task is =
    record {
      now = omega (
        arith,
        is.now,
        forked-names program task.todo (length task.env),
        member-names program (kind_of (forked_construct task.todo)) (forked_construct task.todo) (length task.env),
      );
      calls = All-nil (IsCallWithin program);
    }

-- an explicit task's code
created-names : (program : TreeView) (items : List Item) (names : ℕ) → names + inner_names program (created_construct items) ≤ most_names program items names
unfolding most_names
created-names program [] names = omega (arith, none program)
created-names program (Start construct ∷ items) names = omega arith
created-names program (item ∷ items) names = omega (arith, none program, least program (item ∷ items) names)

task-names : (program : TreeView) (construct : Tree) (bound : Bound) → most_names program (Start (construct_statement construct) ∷ []) (length (with_task_cells program bound construct).env) ≤ length bound.env + inner_names program construct
unfolding most_names
task-names program construct bound =
    omega (arith, with_task_names program bound construct, split program construct, of_statement program construct)

pub explicit_is_within : (program : TreeView) (view : View) (now : Moment) → IsWithin program now.task → IsWithin program (explicit_task program view now).task
explicit_is_within program view now is =
    let settled : IsWithin program (settled_task view now.task) = settled_is_within program view now.task is in
    record {
      now = omega (
        arith,
        settled.now,
        created-names program (settled_task view now.task).todo (length now.task.env),
        task-names program (created_construct (settled_task view now.task).todo) (record { env = now.task.env; cells = now.store.cells }),
      );
      calls = All-nil (IsCallWithin program);
    }
