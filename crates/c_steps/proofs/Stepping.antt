-- What stands next where an item more does, if there is one.
use Rattle.std.proofs.Common.{◌≡◌, ℕ, ℤ, ◌≤◌, false, List, [], ◌∷◌, ◌++◌, length, take, Option, Some, None, IfSome, refl}
use Rattle.std.proofs.lemmas.List.Elements.{All-cons}
use Rattle.c_syntax.specs.language.Numbered.{TreeView}
use Rattle.c_model.specs.declared.entry.Entry.{Entry}
use Rattle.c_model.specs.declared.view.View.{View}
use Rattle.c_model.specs.Cells.{has_too_many, new_entry, with_cells}
use Rattle.c_model.specs.StepOutcomes.{binds, bound_of}
use Rattle.c_model.specs.Task.{Store}
use Rattle.c_model.specs.Task.Outcome.{StepsTo}
use Rattle.c_steps.specs.declared.item.Item.{Item}
use Rattle.c_steps.specs.declared.frame.Frame.{Frame}
use Rattle.c_steps.specs.declared.frame.Frame.TheVariants as frame
use Rattle.c_steps.specs.Items.{begun, calls_at, file_names, items_if, todo_at}
use Rattle.c_steps.specs.Moves.{bound, frames_if, stepping, then_if}
use Rattle.c_steps.specs.Ready.{AreFrames, IsFrame, IsItem, IsStepping}
use Rattle.c_steps.specs.ControlView.{ControlView, here_at, moment_at}
use Rattle.c_steps.proofs.Frames.{bound_env, bound_names}

module _ (program : TreeView) where
  pub todo_if : (it : Option Item) (frames : List Frame) → todo_at program (frames_if it frames) ≡ items_if program it ++ todo_at program frames
  unfolding todo_at
  todo_if None frames = refl
  todo_if (Some it) frames = refl

  pub calls_if : (names : List Entry) (it : Option Item) (frames : List Frame) → calls_at program names (frames_if it frames) ≡ calls_at program names frames
  unfolding calls_at
  calls_if names None frames = refl
  calls_if names (Some it) frames = refl

  pub are_if : (it : Option Item) (frames : List Frame) → IfSome it (IsItem program) → AreFrames program frames → AreFrames program (frames_if it frames)
  are_if None frames is are = are
  are_if (Some it) frames is are = All-cons (IsFrame program) (frame.One it) frames is are

  -- a step that brings a name with one cell
  pub bound_step : (view : View) (old new : ControlView) (before after : Store) (then : Option Item) (entry : Entry) (name slot : ℕ) (number : ℤ) → IsStepping program old → old.base ≤ length old.names → has_too_many (before.cells ++ number ∷ []) ≡ false → entry ≡ new_entry before.cells name slot (number ∷ []) → new ≡ then_if then (bound entry (stepping old)) → after ≡ record before { cells = before.cells ++ number ∷ [] } → StepsTo (moment_at program new after) ≡ binds (here_at program view old before) (with_cells (bound_of (here_at program view old before)) name slot (number ∷ [])) (items_if program then)
  bound_step view old new before after then entry name slot number ready within room is_entry is_new is_after =
      rw (is_new, is_after, room, todo_if then (begun old.frames), calls_if (take old.base (old.names ++ entry ∷ [])) then (begun old.frames), bound_env old.base (file_names program) old.names entry within, bound_names old.base old.names entry within, ready.calls (take old.base old.names), is_entry) refl

pub ruleset items_if_cases = (todo_if, calls_if, are_if)
