-- What a step needs, and what comes of it.
use Rattle.std.specs.Prelude.{◌≡◌, Result}
use Rattle.c_syntax.specs.language.Numbered.{TreeView}
use Rattle.c_model.specs.declared.view.View.{View}
use Rattle.c_model.specs.Task.{Moment, Outcome, Store}
use Rattle.c_steps.specs.declared.next.Next.{Next}
use Rattle.c_steps.specs.declared.next.Refusal.{Refusal}
use Rattle.c_steps.specs.ControlView.{ControlView, moment_at, next_of, outcome_at}
use Rattle.c_steps.specs.Ready.{AreFrames, FitsProgram, IsSettled, IsStepping, IsUnchanging}
use Rattle.c_steps.specs.Views.{HasNumbers}
use Rattle.c_steps.specs.Widths.{step_names}

-- a step can be made of what stands next, there is room for the names that it brings, and what the thread sees are numbers of expressions
pub record CanStep (program : TreeView) (view : View) (held : ControlView) : Type 0 where
  pub stepping : IsStepping program held
  pub numbers : HasNumbers view
  pub brings : held.step_names ≡ step_names program

-- control and cells advance to this outcome
pub record Advances (program : TreeView) (result : Next) (old : ControlView) (before : Store) (new : ControlView) (after : Store) (outcome : Outcome) : Type 0 where
  pub step : outcome_at program result (moment_at program new after) ≡ outcome
  pub settled : IsSettled result old before new after
  pub numbers : FitsProgram program result
  pub frames : AreFrames program new.frames

-- .. by a step of C's own statements, or by what it is refused for
abbrev pub Makes : TreeView → Result (Unit {0}) Refusal → ControlView → Store → ControlView → Store → Outcome → Type 0
Makes program result old before new after outcome = Advances program (next_of result) old before new after outcome

-- a result says this outcome, and nothing was done
pub record Tells (program : TreeView) (result : Next) (outcome : Outcome) : Type 0 where
  pub step : (now : Moment) → outcome_at program result now ≡ outcome
  pub unchanged : IsUnchanging result
  pub numbers : FitsProgram program result
