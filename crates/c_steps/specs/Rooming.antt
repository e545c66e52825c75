-- The room of a control, and what holds of its names.
use Rattle.std.specs.Prelude.{ℕ, ◌+◌, ◌*◌, ◌≤◌, ◌≡◌, List, [], ◌∷◌, length}
use Rattle.std.specs.List.{All}
use Rattle.c_model.specs.declared.entry.Entry.{Entry}
use Rattle.c_model.specs.declared.limits.TheConstants.{CELL_LIMIT}
use Rattle.c_steps.specs.declared.frame.Frame.{Frame}
use Rattle.c_steps.specs.declared.frame.Frame.TheVariants as frame
use Rattle.c_steps.specs.ControlView.{ControlView}

-- the cells of a name are among those that there may be
abbrev pub IsEntry : Entry → Type 0
IsEntry entry = entry.first + entry.size ≤ CELL_LIMIT

abbrev pub AreEntries : List Entry → Type 0
AreEntries entries = All IsEntry entries

-- how many calls are open
unfoldable pub open_calls : List Frame → ℕ
open_calls [] = 0
open_calls (frame.One it ∷ frames) = open_calls frames
open_calls (frame.Parts block place at names ∷ frames) = open_calls frames
open_calls (frame.Combining construct from names ∷ frames) = open_calls frames
open_calls (frame.Combines operator name construct from names ∷ frames) = open_calls frames
open_calls (frame.Caller base to ∷ frames) = open_calls frames + 1

-- With so many frames and names taken without memory, and this count of open calls, a control has room for what it says.
pub record HasRoomFor (free_frames free_names calls : ℕ) (held : ControlView) : Type 0 where
  pub base : held.base ≤ length held.names
  pub entries : AreEntries held.names
  pub frames : held.frames_now + 3 * held.spare + 3 * held.passes ≤ free_frames
  pub names : held.names_now + held.step_names * held.spare + held.passes ≤ free_names
  pub room : held.room ≤ length held.names + free_names
  pub counted : calls ≡ open_calls held.frames
