-- When a control is of a program, and is left alone.
use Rattle.std.specs.Prelude.{◌≡◌, ◌≤◌, [], None}
use Rattle.c_syntax.specs.language.Numbered.{TreeView, root_tree}
use Rattle.c_model.specs.Parts.{parts}
use Rattle.c_model.specs.Width.{IsWithin, most_of_functions}
use Rattle.c_steps.specs.ControlView.{ControlView, task_at}
use Rattle.c_steps.specs.Ready.{AreFrames}
use Rattle.c_steps.specs.Widths.{step_names}

-- A control was made for a program: what stands next is of the program, there is room for what a step brings and for all names that may be in
-- scope beside those of the file, and no more names are in scope than the program's width.
pub record IsMadeFor (program : TreeView) (held : ControlView) : Type 0 where
  pub are_frames : AreFrames program held.frames
  pub brings : held.step_names ≡ step_names program
  pub fits : most_of_functions program (parts (root_tree program)) ≤ held.room
  pub is_within : IsWithin program (task_at program held)

-- no code stands next, no name is in scope, no call is open
pub record IsBlank (held : ControlView) : Type 0 where
  pub no_frames : held.frames ≡ []
  pub no_names : held.names ≡ []
  pub from_first : held.base ≡ 0
  pub no_value : held.returned ≡ None

-- no code, with room for the names of all code of the program
abbrev pub blank_held : TreeView → ControlView
blank_held program =
    record {
      frames = [];
      names = [];
      base = 0;
      returned = None;
      spare = 0;
      passes = 0;
      frames_now = 4;
      names_now = 0;
      step_names = step_names program;
      room = most_of_functions program (parts (root_tree program));
    }
