-- How the tasks are kept: the control of each one that has code, controls without code, and room.
use Rattle.std.specs.Prelude.{ℕ, ◌≡◌, ◌+◌, ◌<◌, ◌≤◌, ◌^◌, List, [], ◌∷◌, Option, Some, None, IfSome, length, map, slice_index_or}
use Rattle.std.specs.List.{All}
use Rattle.c_syntax.specs.language.Numbered.{TreeView}
use Rattle.c_model.specs.Begin.{main_task}
use Rattle.c_steps.specs.ControlView.{ControlView, task_at}
use Rattle.c_steps.specs.OfProgram.{IsBlank, IsMadeFor}
use Rattle.omp_model.specs.State.{Task as Seen}
use Rattle.omp_board.specs.declared.task.Task.{Task}
use Rattle.omp_board.specs.declared.tasks.TaskRoom.{TaskRoom}
use Rattle.omp_board.specs.Tasks.{code_of}

-- what a task that is kept is seen as
abbrev pub seen_task : TreeView → Task → Seen
seen_task program task =
    record { code = code_of program task.control; thread = task.thread; forked = task.forked; word = task.word }

abbrev pub seen_tasks : TreeView → List Task → List Seen
seen_tasks program tasks = map (seen_task program) tasks

-- a task without code
abbrev pub kept_nothing : Task
kept_nothing = record { control = None; thread = 0; forked = 0; word = 0 }

-- a task without code, and behind it the initial one, before its first step
pub record AreFirst (program : TreeView) (tasks : List Task) : Type 0 where
  pub main : ControlView
  pub made : IsMadeFor program main
  pub stands : task_at program main ≡ main_task program
  pub tasks_are : tasks ≡ kept_nothing ∷ record kept_nothing { control = Some main } ∷ []

abbrev pub control_at : List Task → ℕ → Option ControlView
control_at tasks k = (slice_index_or tasks k kept_nothing).control

abbrev pub IsOfProgram : TreeView → Task → Type 0
IsOfProgram program task = IfSome task.control (IsMadeFor program)

-- what is read where a task has no code
pub record IsNoCode (program : TreeView) (held : ControlView) : Type 0 where
  pub made : IsMadeFor program held
  pub blank : IsBlank held

-- the control has the room that is said
pub record HasRoomIn (room : TaskRoom) (held : ControlView) : Type 0 where
  pub steps : room.steps ≤ held.spare
  pub passes : room.passes ≤ held.passes

-- each control is of the program, and there is as much room as is said, for a task that there is
pub record IsKept (program : TreeView) (tasks : List Task) (capacity : ℕ) (blanks : List ControlView) (room : TaskRoom) : Type 0 where
  pub controls : All (IsOfProgram program) tasks
  pub blanks_made : All (IsMadeFor program) blanks
  pub spare : room.tasks ≤ length blanks
  pub slots : length tasks + room.tasks ≤ capacity
  pub few : length tasks + room.tasks < 2 ^ 32
  pub there : room.task < length tasks
  pub steps : IfSome (control_at tasks room.task) (HasRoomIn room)
