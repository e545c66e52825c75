-- What the tasks of a run are seen as, with the program and the store that their code shares.
use Rattle.std.specs.Prelude.{ℕ, zero, suc, ◌+◌, ◌-◌, ◌≡◌, ◌<◌, ◌≤◌, ◌++◌, List, [], ◌∷◌, Option, Some, None, length, slice_index_or, slice_set, refl}
use Rattle.std.specs.Coded.{Coded, code_by, coded×, coded_ℕ, coded_list}
use Rattle.c_syntax.specs.workings.Codes.{tree_view_code}
use Rattle.c_syntax.specs.language.Numbered.{TreeView}
use Rattle.c_model.specs.Begin.{blank_task, created_construct, explicit_task_of, first_store, main_task}
use Rattle.c_model.specs.Cells.{Bound}
use Rattle.c_model.specs.Copies.{with_task_cells}
use Rattle.c_model.specs.declared.limits.TheConstants.{CELL_LIMIT}
use Rattle.c_model.specs.Task.{Item, Moment, Store, Task as Code}
use Rattle.c_model.specs.Occurring.{IsAskOfNext}
use Rattle.c_model.specs.Step.{silent}
use Rattle.c_model.specs.Task.Outcome.{StepsTo}
use Rattle.c_model.specs.Upcoming.{upcoming_of}
use Rattle.c_model.specs.declared.upcoming.Upcoming.TheVariants as upcoming
use Rattle.c_model.specs.declared.view.View.{View}
use Rattle.c_syntax.specs.language.Numbered.{tree_at}
use Rattle.c_steps.specs.ControlView.{ControlView, task_at}
use Rattle.c_steps.specs.Passing.{IsEventOfNext}
use Rattle.c_steps.specs.declared.next.Next.{Next}
use Rattle.c_steps.specs.declared.next.Next.TheVariants as next
use Rattle.omp_model.specs.declared.limits.TheConstants.{STEPS_OF_A_TURN}
use Rattle.omp_model.specs.State.{Task, no_task, task_with}
use Rattle.omp_board.specs.declared.tasks.TaskRoom.{TaskRoom}
use Rattle.omp_board.specs.Codes.{store_code, task_code}

abbrev room_code : Coded TaskRoom
room_code =
    code_by (ℕ × (ℕ × (ℕ × ℕ))) (coded× coded_ℕ (coded× coded_ℕ (coded× coded_ℕ coded_ℕ)))
    (λ room. (room.task, (room.steps, (room.passes, room.tasks))))
    (λ p. record { task = p.0; steps = p.1.0; passes = p.1.1.0; tasks = p.1.1.1 })
    (λ _. refl)

-- the program, the tasks by identity, what they share, and room
pub record TasksView : Type 0 where
  pub program : TreeView
  pub tasks : List Task
  pub store : Store
  pub room : TaskRoom

abbrev pub tasks_code : Coded TasksView
tasks_code =
    code_by (TreeView × (List Task × (Store × TaskRoom))) (coded× tree_view_code (coded× (coded_list task_code) (coded× store_code room_code)))
    (λ view. (view.program, (view.tasks, (view.store, view.room))))
    (λ p. record { program = p.0; tasks = p.1.0; store = p.1.1.0; room = p.1.1.1 })
    (λ _. refl)

abbrev pub no_task_room : TaskRoom
no_task_room = record { task = 0; steps = 0; passes = 0; tasks = 0 }

-- how many silent steps, answers and looks there is room for in a turn: its 64 silent steps, an answer that ends none, and a look
abbrev pub steps_ahead : ℕ
steps_ahead = STEPS_OF_A_TURN + 2

abbrev pub turn_room : ℕ → TaskRoom
turn_room task = record { task = task; steps = steps_ahead; passes = 1; tasks = 1 }

-- the initial task alone, before its first step
abbrev pub first_tasks : TreeView → TasksView
first_tasks program =
    record { program = program; tasks = no_task ∷ task_with (main_task program) ∷ []; store = first_store program; room = no_task_room }

-- the task with this identity, its code, and its code with the store
abbrev pub task_in : TasksView → ℕ → Task
task_in view k = slice_index_or view.tasks k no_task

abbrev pub code_in : TasksView → ℕ → Code
code_in view k = (task_in view k).code

abbrev pub moment_in : TasksView → ℕ → Moment
moment_in view k = record { task = code_in view k; store = view.store }

-- one task is changed; its code; its code and the store
abbrev pub with_task_in : TasksView → ℕ → Task → TasksView
with_task_in view k task = record view { tasks = slice_set view.tasks k task }

abbrev pub with_code_in : TasksView → ℕ → Code → TasksView
with_code_in view k code = with_task_in view k (record (task_in view k) { code = code })

abbrev pub gone_in : TasksView → ℕ → Moment → TasksView
gone_in view k now = record (with_code_in view k now.task) { store = now.store }

-- one task more, with this code
abbrev pub with_one_more : TasksView → Code → TasksView
with_one_more view code = record view { tasks = view.tasks ++ task_with code ∷ []; room = record view.room { tasks = 0 } }

-- one silent step, answer or look; one event
abbrev pub one_step_less : TaskRoom → TaskRoom
one_step_less room = record room { steps = room.steps - 1 }

abbrev pub one_pass_less : TaskRoom → TaskRoom
one_pass_less room = record room { passes = room.passes - 1 }

-- a silent step takes room; what stands next doesn't
abbrev pub room_after : Next → TaskRoom → TaskRoom
room_after next.Quiet room = one_step_less room
room_after other room = room

-- there is room for a step of the task's code, for so many, and for an event
pub record HasSteps (room : TaskRoom) (task : ℕ) : Type 0 where
  pub of_task : room.task ≡ task
  pub steps : 0 < room.steps

pub record HasStepsFor (room : TaskRoom) (task most : ℕ) : Type 0 where
  pub of_task : room.task ≡ task
  pub steps : most ≤ room.steps

pub record HasPass (room : TaskRoom) (task : ℕ) : Type 0 where
  pub of_task : room.task ≡ task
  pub passes : 0 < room.passes

-- no step was made
abbrev pub IsStill : Next → Type 0
IsStill next.Quiet = ⊥
IsStill other = Unit {0}

-- an event is of what stands next, and what is asked, that asks
abbrev pub IsNamedIn : TreeView → Next → List Item → Type 0
IsNamedIn program (next.Event point node) todo = IsEventOfNext program point node todo
IsNamedIn program (next.Ask ask node) todo = IsAskOfNext ask (tree_at program.trees node) todo
IsNamedIn program other todo = Unit {0}

-- the code that a control stands for. Where none is kept there is no code
abbrev pub code_of : TreeView → Option ControlView → Code
code_of program None = blank_task
code_of program (Some held) = task_at program held

-- .. with the store
abbrev pub moment_of : TreeView → Option ControlView → Store → Moment
moment_of program control store = record { task = code_of program control; store = store }

-- the explicit task that the construct creates that stands next, with the store behind it; and that there is room for its cells
abbrev pub created_by : TreeView → Moment → Moment
created_by program now = explicit_task_of program (created_construct now.task.todo) now

abbrev pub cells_around : Moment → Bound
cells_around now = record { env = now.task.env; cells = now.store.cells }

abbrev pub HasCells : TreeView → Moment → Type 0
HasCells program now = length (with_task_cells program (cells_around now) (created_construct now.task.todo)).cells ≤ CELL_LIMIT

-- a silent step of the task's code was made, and stood next by its form
pub record HasSteppedIn (old : TasksView) (view : View) (task : ℕ) (new : TasksView) : Type 0 where
  pub step : silent old.program view (moment_in old task) ≡ StepsTo (moment_in new task)
  pub upcoming : upcoming_of view (code_in old task) ≡ upcoming.Step
  pub rest : new ≡ record (gone_in old task (moment_in new task)) { room = one_step_less old.room }

-- .. so many, one after another
abbrev pub HaveSteppedIn : ℕ → TasksView → View → ℕ → TasksView → Type 0
HaveSteppedIn zero old view task new = new ≡ old
HaveSteppedIn (suc count) old view task new = (between : TasksView) × (HaveSteppedIn count old view task between × HasSteppedIn between view task new)
