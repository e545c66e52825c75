-- What a frame on top says of what stands next.
use Rattle.std.specs.Prelude.{ℕ, ◌+◌, ◌*◌, ◌<◌, ◌≡◌, List, [], ◌∷◌, length}
use Rattle.c_syntax.specs.language.Numbered.{TreeView, tree_at}
use Rattle.c_model.specs.declared.entry.Entry.{Entry}
use Rattle.c_steps.specs.declared.item.Item.{Item}
use Rattle.c_steps.specs.declared.frame.Frame.{Frame}
use Rattle.c_steps.specs.declared.frame.Frame.TheVariants as frame
use Rattle.c_steps.specs.declared.look.Look.{Look}
use Rattle.c_steps.specs.declared.look.Look.TheVariants as look
use Rattle.c_steps.specs.ListedNames.{listed_from}
use Rattle.c_steps.specs.Rests.{parts_from}
use Rattle.c_steps.specs.Items.{begun, calls_at, parts_left, todo_at}
use Rattle.c_steps.specs.Ready.{AreFrames, IsFrame, IsFront}

-- how much there is to look through
unfoldable pub weight : TreeView → Frame → ℕ
weight program (frame.One it) = 1
weight program (frame.Parts block place at names) =
    let trees = parts_from (tree_at program.trees block) place in 2 + length (parts_left at trees) + length trees
weight program (frame.Combining construct from names) = 1 + 2 * length (listed_from (tree_at program.trees construct) from)
weight program (frame.Combines operator name construct from names) = 2 + 2 * length (listed_from (tree_at program.trees construct) from)
weight program (frame.Caller base to) = 1

unfoldable pub weights : TreeView → List Frame → ℕ
weights program [] = 0
weights program (it ∷ frames) = weight program it + weights program frames

-- an item stands next
pub record ShowsItem (program : TreeView) (it : Frame) (found : Item) : Type 0 where
  pub front : (frames : List Frame) → AreFrames program frames → IsFront program (it ∷ frames) found
  pub less : (frames : List Frame) → weights program (begun (it ∷ frames)) < weights program (it ∷ frames)

-- another frame says the same
pub record IsInPlaceOf (program : TreeView) (it other : Frame) : Type 0 where
  pub is_frame : IsFrame program other
  pub todo : (frames : List Frame) → todo_at program (other ∷ frames) ≡ todo_at program (it ∷ frames)
  pub calls : (names : List Entry) (frames : List Frame) → calls_at program names (other ∷ frames) ≡ calls_at program names (it ∷ frames)
  pub less : weight program other < weight program it

-- nothing is left of it
pub record IsOver (program : TreeView) (it : Frame) : Type 0 where
  pub todo : (frames : List Frame) → todo_at program frames ≡ todo_at program (it ∷ frames)
  pub calls : (names : List Entry) (frames : List Frame) → calls_at program names frames ≡ calls_at program names (it ∷ frames)
  pub less : 0 < weight program it

abbrev pub Looks : TreeView → Frame → Look → Type 0
Looks program it (look.Found found) = ShowsItem program it found
Looks program it (look.Instead other) = IsInPlaceOf program it other
Looks program it look.Over = IsOver program it
Looks program it look.Nothing = (frames : List Frame) → todo_at program (it ∷ frames) ≡ []
