-- What stands next where another frame says the same.
use Rattle.std.proofs.Common.{◌≡◌, ◌<◌, List, [], ◌∷◌, Some, slice_get, slice_set, length, drop, take, refl, sym, ap, ◌∙◌, subst, arith}
use Rattle.std.proofs.lemmas.List.Elements.{All-cons, All-head, All-tail}
use Rattle.c_syntax.specs.language.Numbered.{TreeView}
use Rattle.c_model.specs.declared.entry.Entry.{Entry}
use Rattle.c_steps.specs.declared.item.Item.{Item}
use Rattle.c_steps.specs.declared.frame.Frame.{Frame}
use Rattle.c_steps.specs.declared.frame.Frame.TheVariants as frame
use Rattle.c_steps.specs.ControlView.{ControlView, task_at}
use Rattle.c_steps.specs.Items.{begun, calls_at, todo_at}
use Rattle.c_steps.specs.Looking.{IsInPlaceOf, ShowsItem, weights}
use Rattle.c_steps.specs.Ready.{AreFrames, IsFrame, IsFront}
use Rattle.c_steps.specs.Rooming.{open_calls}
use Rattle.c_steps.specs.Trying.{IsSameBy}
use Rattle.c_steps.proofs.Frames.{calls_counted}
use Rattle.c_steps.proofs.Settling.{top_frame}

-- no call more or less is open where an item has begun
pub begun_calls : (frames : List Frame) → open_calls (begun frames) ≡ open_calls frames
unfolding open_calls
begun_calls [] = refl
begun_calls (frame.One it ∷ frames) = refl
begun_calls (frame.Parts block place at names ∷ frames) = refl
begun_calls (frame.Combining construct from names ∷ frames) = refl
begun_calls (frame.Combines operator name construct from names ∷ frames) = refl
begun_calls (frame.Caller base to ∷ frames) = refl

same_task : (program : TreeView) (old : ControlView) (frames : List Frame) → todo_at program frames ≡ todo_at program old.frames → ((names : List Entry) → calls_at program names frames ≡ calls_at program names old.frames) → task_at program (record old { frames = frames }) ≡ task_at program old
same_task program old frames todo calls = rw (todo, calls (take old.base old.names)) refl

module _ (program : TreeView) (old : ControlView) (it : Frame) (are : AreFrames program old.frames) (top : Some it ≡ slice_get old.frames 0) where
  abbrev rest : List Frame
  rest = drop 1 old.frames

  whole : old.frames ≡ it ∷ rest
  whole = top_frame old.frames it top

  are_whole : AreFrames program (it ∷ rest)
  are_whole = subst (AreFrames program) whole are

  pub is_top : IsFrame program it
  is_top = All-head (IsFrame program) it rest are_whole

  -- an item stands next
  pub shown_top : (found : Item) → ShowsItem program it found → IsFront program old.frames found
  shown_top found shows = subst (λ (frames : List Frame). IsFront program frames found) (sym whole) (shows.front rest (All-tail (IsFrame program) it rest are_whole))

  module _ (other : Frame) (same : IsInPlaceOf program it other) where
    placed : IsSameBy program old (record old { frames = other ∷ rest })
    placed = record {
      frames = All-cons (IsFrame program) other rest same.is_frame (All-tail (IsFrame program) it rest are_whole);
      rest = refl;
      task = same_task program old (other ∷ rest)
          (same.todo rest ∙ ap (todo_at program) (sym whole))
          (λ names. same.calls names rest ∙ ap (calls_at program names) (sym whole));
    }

    set_top : slice_set old.frames 0 other ≡ other ∷ rest
    set_top = ap (λ (frames : List Frame). slice_set frames 0 other) whole

    pub same_calls : open_calls (slice_set old.frames 0 other) ≡ open_calls old.frames
    same_calls =
        ap open_calls set_top
        ∙ sym (calls_counted program [] (other ∷ rest))
        ∙ ap length (same.calls [] rest)
        ∙ calls_counted program [] (it ∷ rest)
        ∙ ap open_calls (sym whole)

    pub replaced : (new : ControlView) → new ≡ record old { frames = slice_set old.frames 0 other } → IsSameBy program old new
    replaced new is =
        subst (IsSameBy program old) (sym (is ∙ ap (λ (frames : List Frame). record old { frames = frames }) set_top)) placed

-- a look later, where the task was the same before it
module _ (program : TreeView) (old mid : ControlView) (it : Frame) (so : IsSameBy program old mid) (top : Some it ≡ slice_get mid.frames 0) where
  pub front_shown : (found : Item) → ShowsItem program it found → IsFront program mid.frames found
  front_shown found shows = shown_top program mid it so.frames top found shows

  pub frame_shown : IsFrame program it
  frame_shown = is_top program mid it so.frames top

  module _ (other : Frame) (same : IsInPlaceOf program it other) where
    pub calls_kept : open_calls (slice_set mid.frames 0 other) ≡ open_calls mid.frames
    calls_kept = same_calls program mid it so.frames top other same

    module _ (new : ControlView) (is : new ≡ record mid { frames = slice_set mid.frames 0 other }) where
      pub same_still : IsSameBy program old new
      same_still =
          let next = replaced program mid it so.frames top other same new is in
          record { frames = next.frames; rest = next.rest ∙ ap (λ (held : ControlView). record held { frames = new.frames }) so.rest; task = next.task ∙ so.task }

      pub less_left : weights program new.frames < weights program mid.frames
      unfolding weights
      less_left = rw (is, whole program mid it so.frames top) (let less = same.less in omega arith)

pub same_first : (program : TreeView) (held : ControlView) → AreFrames program held.frames → IsSameBy program held held
same_first program held are = record { frames = are; rest = refl; task = refl }

pub ruleset shown_cases = (same_first, frame_shown, front_shown, calls_kept, same_still, less_left)
