-- A silent step that is tried: it was made, or nothing was done.
use Rattle.std.specs.Prelude.{◌≡◌, Bool, true, false, ℕ, zero, suc, Some, None, drop}
use Rattle.c_syntax.specs.language.Numbered.{TreeView}
use Rattle.c_model.specs.declared.view.View.{View}
use Rattle.c_model.specs.declared.upcoming.Upcoming.TheVariants as upcoming
use Rattle.c_model.specs.Step.{silent}
use Rattle.c_model.specs.Task.{Outcome, Store}
use Rattle.c_model.specs.Task.Outcome.{StepsTo}
use Rattle.c_model.specs.Upcoming.{upcoming_of}
use Rattle.c_steps.specs.declared.frame.Frame.{Frame}
use Rattle.c_steps.specs.declared.item.Item.{Item}
use Rattle.c_steps.specs.declared.item.Item.TheVariants as item
use Rattle.c_steps.specs.declared.look.Plain.{Plain}
use Rattle.c_steps.specs.declared.look.Plain.TheVariants as plain
use Rattle.c_steps.specs.declared.look.Shown.{Shown}
use Rattle.c_steps.specs.declared.look.Shown.TheVariants as shown
use Rattle.c_steps.specs.ControlView.{ControlView, moment_at, task_at}
use Rattle.c_steps.specs.Items.{begun}
use Rattle.c_steps.specs.Looking.{IsInPlaceOf, ShowsItem}
use Rattle.c_steps.specs.Ready.{AreFrames, IsAfterStep}
use Rattle.c_steps.specs.Rooms.{Stacked}
use Rattle.c_steps.specs.FrontFrame.{BeginsAs}

-- nothing was done, but that another frame may say what stands next
pub record IsUntouched (program : TreeView) (old : ControlView) (before : Store) (new : ControlView) (after : Store) : Type 0 where
  pub task : task_at program new ≡ task_at program old
  pub store : after ≡ before
  pub spare : new.spare ≡ old.spare
  pub passes : new.passes ≡ old.passes
  pub step_names : new.step_names ≡ old.step_names
  pub room : new.room ≡ old.room

-- the silent step was made that stands next
pub record IsStepMade (program : TreeView) (view : View) (old : ControlView) (before : Store) (new : ControlView) (after : Store) : Type 0 where
  pub step : silent program view (moment_at program old before) ≡ StepsTo (moment_at program new after)
  pub kept : IsAfterStep old new
  pub upcoming : upcoming_of view (task_at program old) ≡ upcoming.Step

abbrev pub IsTried : TreeView → View → Bool → ControlView → Store → ControlView → Store → Type 0
IsTried program view true old before new after = IsStepMade program view old before new after
IsTried program view false old before new after = IsUntouched program old before new after

-- so many silent steps were made one after another, the last of them named last; where none was, nothing was done
abbrev pub HaveStepsMade : TreeView → View → ℕ → ControlView → Store → ControlView → Store → Type 0
HaveStepsMade program view zero old before new after = IsUntouched program old before new after
HaveStepsMade program view (suc count) old before new after =
    (between : ControlView) × (middle : Store) × HaveStepsMade program view count old before between middle × IsStepMade program view between middle new after

-- what stands next by a plain item
abbrev pub item_of : Plain → Item
item_of (plain.Start node) = item.Start (Some node)
item_of (plain.Declare node) = item.Declare node
item_of (plain.Leave names) = item.Leave names
item_of (plain.Test node names) = item.Test node names
item_of (plain.Third node names) = item.Third node names
item_of (plain.Return number) = item.Return number
item_of plain.FallOff = item.FallOff

-- an item has begun by a frame: the frame stays, as it is then, or nothing is left of it
abbrev pub IsBegunFrame : Frame → Bool → Frame → Type 0
IsBegunFrame old true new = BeginsAs old (Some new)
IsBegunFrame old false new = (new ≡ old) × BeginsAs old None

abbrev pub IsBegun : Stacked Frame → Bool → Stacked Frame → Type 0
IsBegun old true new = new ≡ record old { frames = begun old.frames }
IsBegun old false new = (new ≡ old) × (begun old.frames ≡ drop 1 old.frames)

-- what a frame says of what stands next, where that is plain
abbrev pub Shows : TreeView → Frame → Shown → Type 0
Shows program it (shown.Next found) = ShowsItem program it (item_of found)
Shows program it (shown.Instead other) = IsInPlaceOf program it other

-- the same task, by other frames
pub record IsSameBy (program : TreeView) (old new : ControlView) : Type 0 where
  pub frames : AreFrames program new.frames
  pub rest : new ≡ record old { frames = new.frames }
  pub task : task_at program new ≡ task_at program old

-- a step was made that comes to this
pub record ComesTo (program : TreeView) (outcome : Outcome) (old : ControlView) (new : ControlView) (after : Store) : Type 0 where
  pub step : outcome ≡ StepsTo (moment_at program new after)
  pub kept : IsAfterStep old new
  pub frames : AreFrames program new.frames

-- .. or nothing was done
abbrev pub IsAttempt : TreeView → Bool → ControlView → Store → ControlView → Store → Outcome → Type 0
IsAttempt program true old before new after outcome = ComesTo program outcome old new after
IsAttempt program false old before new after outcome = (new ≡ old) × (after ≡ before)
