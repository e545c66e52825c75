-- What the tasks of a run come to, one by one: main, the members of teams and explicit tasks, whatever the threads see of their teams and are answered,
-- and whatever cells other tasks make and set meanwhile.
use Rattle.std.specs.Prelude.{ℕ, ◌≡◌, ◌≤◌, Bool, length}
use Rattle.c_syntax.specs.language.Tree.{Tree}
use Rattle.c_syntax.specs.language.Numbered.{TreeView}
use Rattle.c_model.specs.declared.point.Point.{Point}
use Rattle.c_model.specs.declared.point.Point.TheVariants.{TaskCreate}
use Rattle.c_model.specs.declared.question.Answer.{Answer}
use Rattle.c_model.specs.declared.view.View.{View}
use Rattle.c_model.specs.Begin.{explicit_task, first_store, main_task, member_task}
use Rattle.c_model.specs.AfterEvents.{after_answer, after_event}
use Rattle.c_model.specs.UsedCells.{AreCopiesInScope, IsTaskMade}
use Rattle.c_model.specs.Scoped.{IsScoped}
use Rattle.c_model.specs.Step.{settled_task, silent}
use Rattle.c_model.specs.Task.{Moment, Store}
use Rattle.c_model.specs.Task.Outcome.{Occurs, StepsTo}
use Rattle.c_slots.specs.Slotted.{IsSlotted}

pub data ComesTo : TreeView → Moment → Type 0 where
  begins : {program : TreeView} → ComesTo program (record { task = main_task program; store = first_store program })
  -- others make cells, set them and print
  waits : {program : TreeView} {now : Moment} → ComesTo program now → (store : Store) → length now.store.cells ≤ length store.cells
      → ComesTo program (record { task = now.task; store = store })
  steps : {program : TreeView} {now : Moment} → ComesTo program now → (view : View) (next : Moment) → silent program view now ≡ StepsTo next
      → ComesTo program next
  is_answered : {program : TreeView} {now : Moment} → ComesTo program now → (view : View) (given : Answer) → ComesTo program (after_answer view given now)
  goes_past : {program : TreeView} {now : Moment} → ComesTo program now → (view : View) (point : Point) (executes : Bool) (tree : Tree)
      → silent program view now ≡ Occurs point tree → ComesTo program (record { task = after_event view point executes now.task; store = now.store })
  -- another task begins: a member of the team of a region that the task has forked, and an explicit task that it creates
  forks : {program : TreeView} {now : Moment} → ComesTo program now → ComesTo program (record { task = member_task now.task; store = now.store })
  creates : {program : TreeView} {now : Moment} → ComesTo program now → (view : View) (codeptr : ℕ) (undeferred : Bool) (tree : Tree)
      → silent program view now ≡ Occurs (TaskCreate codeptr undeferred) tree → ComesTo program (explicit_task program view now)

-- All that a task uses is there: its names are in scope, with the slots that they have where the code stands, each of its cells was made, and so is in
-- scope what a task that it creates next copies by rule.
pub record IsWhole (program : TreeView) (now : Moment) : Type 0 where
  pub scoped : IsScoped program now.task
  pub slotted : IsSlotted program now.task
  pub made : IsTaskMade program (length now.store.cells) now.task
  pub copied : (view : View) → AreCopiesInScope program (settled_task view now.task)
