-- Where the code of each kind of task begins (OpenMP 5.2, 10.1, 12.5 and 12.8).
use Rattle.std.specs.Prelude.{ℕ, List, [], ◌∷◌, ◌++◌, length, None}
use Rattle.c_syntax.specs.declared.node.Directive.TheVariants as directive
use Rattle.c_syntax.specs.declared.node.NodeKind.{NodeKind}
use Rattle.c_syntax.specs.declared.node.NodeKind.TheVariants as node
use Rattle.c_syntax.specs.language.Tree.{Tree, kind_of, nothing}
use Rattle.c_syntax.specs.language.Numbered.{TreeView}
use Rattle.c_model.specs.declared.point.SyncKind.TheVariants as sync
use Rattle.c_model.specs.declared.point.SyncStage.TheVariants as stage
use Rattle.c_model.specs.declared.point.Target.TheVariants.{Nowhere}
use Rattle.c_model.specs.declared.view.View.{View}
use Rattle.c_model.specs.Program.{body_of, function_named}
use Rattle.c_model.specs.declared.entry.Entry.{Entry}
use Rattle.c_model.specs.Clauses.{construct_statement}
use Rattle.c_model.specs.Copies.{combines, makes_cells, with_task_cells}
use Rattle.c_model.specs.Calls.{file_bound}
use Rattle.c_model.specs.Step.{settled_task}
use Rattle.c_model.specs.Task.{Item, Moment, Store, Task}
use Rattle.c_model.specs.Task.Item.{FallOff, Forked, Inside, Start, Sync}

-- the store of a run at its start: the variables and locks of the file
abbrev pub first_store : TreeView → Store
first_store program = record { cells = (file_bound program).cells; text = [] }

-- the initial task: main's body, with the names of the file. Main is a call that is open, from outside all functions
abbrev pub main_task : TreeView → Task
main_task program =
    record {
      todo = Start (body_of (function_named program program.main)) ∷ FallOff ∷ [];
      env = (file_bound program).env;
      calls = record { todo = []; env = (file_bound program).env; to = Nowhere } ∷ [];
      returned = None;
    }

-- no code: what stands there before a member's or an explicit task's code begins
abbrev pub blank_task : Task
blank_task = record { todo = []; env = []; calls = []; returned = None }

-- code with these names in scope, and no call open
abbrev pub new_task : List Item → List Entry → Task
new_task items env = record blank_task { todo = items; env = env }

-- The code of a member of a team: the statement of the parallel construct, with the cells of its own and the combining behind it, or the
-- construct that a combined directive has inside; and then the region's barrier.
abbrev pub member_statement : NodeKind → Tree → ℕ → List Item
member_statement (node.Construct directive.ParallelFor) construct names = Inside construct ∷ []
member_statement (node.Construct directive.ParallelSections) construct names = Inside construct ∷ []
member_statement other construct names = makes_cells construct ++ Start (construct_statement construct) ∷ combines construct names

abbrev pub member_items : Tree → ℕ → List Item
member_items construct names =
    member_statement (kind_of construct) construct names ++ Sync construct sync.Parallel stage.RegionBegin ∷ []

abbrev pub forked_construct : List Item → Tree
forked_construct (Forked construct ∷ items) = construct
forked_construct other = nothing

-- a member's code begins with the names of the task that has forked the region
abbrev pub member_task : Task → Task
member_task task = new_task (member_items (forked_construct task.todo) (length task.env)) task.env

-- An explicit task's code begins, with its own cells beside those of the task that creates it, when the creating task has come to its event: the
-- construct stands first when that task has left out what it goes past.
abbrev pub created_construct : List Item → Tree
created_construct (Start construct ∷ items) = construct
created_construct other = nothing

abbrev pub explicit_task_of : TreeView → Tree → Moment → Moment
explicit_task_of program construct now =
    let bound = with_task_cells program (record { env = now.task.env; cells = now.store.cells }) construct in
    record { task = new_task (Start (construct_statement construct) ∷ []) bound.env; store = record now.store { cells = bound.cells } }

abbrev pub explicit_task : TreeView → View → Moment → Moment
explicit_task program view now = explicit_task_of program (created_construct (settled_task view now.task).todo) now
