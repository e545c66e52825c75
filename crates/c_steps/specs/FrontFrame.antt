-- Frames that are looked through without a change, and what an item tells by itself.
use Rattle.std.specs.Prelude.{◌≡◌, false, List, ◌∷◌, Option, Some, None}
use Rattle.c_syntax.specs.language.Numbered.{TreeView}
use Rattle.c_model.specs.declared.view.View.{View}
use Rattle.c_model.specs.Step.{skips_masked}
use Rattle.c_model.specs.Upcoming.{upcoming_item}
use Rattle.c_model.specs.declared.upcoming.Upcoming.{Upcoming}
use Rattle.c_steps.specs.declared.frame.Frame.{Frame}
use Rattle.c_steps.specs.declared.item.Item.{Item}
use Rattle.c_steps.specs.Items.{begun, item_at}

-- a frame, if there is one, above others
abbrev pub above : Option Frame → List Frame → List Frame
above None frames = frames
above (Some it) frames = it ∷ frames

-- a frame whose item has begun is this one
abbrev pub BeginsAs : Frame → Option Frame → Type 0
BeginsAs it other = (frames : List Frame) → begun (it ∷ frames) ≡ above other frames

-- an item tells by itself that this comes next where it stands next, and no task goes past it
abbrev pub ItemTells : TreeView → Item → Upcoming → Type 0
ItemTells program it upcoming = (upcoming_item (item_at program it) ≡ upcoming) × ((view : View) → skips_masked (item_at program it) view ≡ false)
