-- What an advance leaves as it was, and what an event or a question is of.
use Rattle.std.specs.Prelude.{◌≡◌}
use Rattle.c_syntax.specs.language.Numbered.{TreeView, tree_at}
use Rattle.c_model.specs.declared.view.View.{View}
use Rattle.c_model.specs.Occurring.{IsAskOfNext}
use Rattle.c_model.specs.Step.{settled_task}
use Rattle.c_model.specs.Task.{Store}
use Rattle.c_steps.specs.declared.next.Next.{Next}
use Rattle.c_steps.specs.declared.next.Next.TheVariants as next
use Rattle.c_steps.specs.ControlView.{ControlView, task_at}
use Rattle.c_steps.specs.Items.{todo_at}
use Rattle.c_steps.specs.Passing.{IsEventOfNext}
use Rattle.c_steps.specs.Ready.{IsAfterStep}

-- nothing was done, but that the task has left out what it goes past
pub record IsLeft (program : TreeView) (view : View) (old : ControlView) (before : Store) (new : ControlView) (after : Store) : Type 0 where
  pub task : task_at program new ≡ settled_task view (task_at program old)
  pub store : after ≡ before
  pub spare : new.spare ≡ old.spare
  pub passes : new.passes ≡ old.passes
  pub step_names : new.step_names ≡ old.step_names
  pub room : new.room ≡ old.room

abbrev pub IsKept : TreeView → View → Next → ControlView → Store → ControlView → Store → Type 0
IsKept program view next.Quiet old before new after = IsAfterStep old new
IsKept program view other old before new after = IsLeft program view old before new after

-- an event is of what stands next, and what is asked, that asks: the event can be passed, and an answer that fits can be given
abbrev pub IsNamed : TreeView → Next → ControlView → Type 0
IsNamed program (next.Event point node) new = IsEventOfNext program point node (todo_at program new.frames)
IsNamed program (next.Ask ask node) new = IsAskOfNext ask (tree_at program.trees node) (todo_at program new.frames)
IsNamed program other new = Unit {0}
