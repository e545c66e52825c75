-- What a control is seen as, and the task's code that it stands for.
use Rattle.std.specs.Prelude.{ℕ, List, ◌++◌, drop, take, Option, Result, Ok, Err, ℤ}
use Rattle.c_syntax.specs.language.Numbered.{TreeView, tree_at}
use Rattle.c_model.specs.declared.entry.Entry.{Entry}
use Rattle.c_model.specs.declared.point.MutexKind.TheVariants as mutex
use Rattle.c_model.specs.declared.point.Point.TheVariants.{MutexAcquire}
use Rattle.c_model.specs.declared.view.View.{View}
use Rattle.c_model.specs.Cells.{Bound}
use Rattle.c_model.specs.Value.{Scope}
use Rattle.c_model.specs.Task.{StepStart, Moment, Outcome, Store, Task}
use Rattle.c_model.specs.Task.Outcome.{StepsTo, Asks, Occurs, Ends, Traps, Limits}
use Rattle.c_steps.specs.declared.frame.Frame.{Frame}
use Rattle.c_steps.specs.declared.next.Next.{Next}
use Rattle.c_steps.specs.declared.next.Next.TheVariants as next
use Rattle.c_steps.specs.declared.next.Refusal.{Refusal}
use Rattle.c_steps.specs.declared.next.Refusal.TheVariants as refusal
use Rattle.c_steps.specs.Items.{begun, calls_at, file_names, todo_at}

-- The frames, the newest first; the names of all functions that were called and haven't ended, the oldest first and without those of the file;
-- where those of the function called last begin; what the last call gave. The rest is room: for how many silent steps and events there is room,
-- how many frames and names the step that is under way may add, how many names a step may bring, and how many names fit in all.
pub record ControlView : Type 0 where
  pub frames : List Frame
  pub names : List Entry
  pub base : ℕ
  pub returned : Option ℤ
  pub spare : ℕ
  pub passes : ℕ
  pub frames_now : ℕ
  pub names_now : ℕ
  pub step_names : ℕ
  pub room : ℕ

abbrev pub env_at : TreeView → ControlView → List Entry
env_at program held = file_names program ++ drop held.base held.names

abbrev pub task_at : TreeView → ControlView → Task
task_at program held =
    record {
      todo = todo_at program held.frames;
      env = env_at program held;
      calls = calls_at program (take held.base held.names) held.frames;
      returned = held.returned;
    }

abbrev pub moment_at : TreeView → ControlView → Store → Moment
moment_at program held store = record { task = task_at program held; store = store }

-- a step is made from here: the item that stands next has begun
abbrev pub here_at : TreeView → View → ControlView → Store → StepStart
here_at program view held store =
    record {
      program = program;
      view = view;
      task = record (task_at program held) { todo = todo_at program (begun held.frames) };
      store = store;
    }

-- what an answer says, where the control and the cells stand for this afterwards
abbrev pub outcome_at : TreeView → Next → Moment → Outcome
outcome_at program next.Quiet now = StepsTo now
outcome_at program (next.Ask ask node) now = Asks ask (tree_at program.trees node)
outcome_at program (next.Event point node) now = Occurs point (tree_at program.trees node)
outcome_at program (next.Ended number) now = Ends number
outcome_at program (next.Trap trap) now = Traps trap
outcome_at program (next.Limit limit) now = Limits limit

-- what a step comes to that was made, or wasn't
abbrev pub next_of : Result (Unit {0}) Refusal → Next
next_of (Ok it) = next.Quiet
next_of (Err (refusal.Trap trap)) = next.Trap trap
next_of (Err (refusal.Limit limit)) = next.Limit limit
next_of (Err (refusal.Test call codeptr wait_id to)) = next.Event (MutexAcquire codeptr wait_id mutex.TestLock to) call

-- what the expressions of the function that was called last are evaluated in
abbrev pub scope_in : TreeView → View → ControlView → Store → Scope
scope_in program view held store = record { env = env_at program held; cells = store.cells; view = view }

-- its names, with all cells
abbrev pub bound_in : TreeView → ControlView → Store → Bound
bound_in program held store = record { env = env_at program held; cells = store.cells }
