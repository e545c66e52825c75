-- What stands next, where frames that are over go, and statements that the task goes past.
use Rattle.std.proofs.Common.{◌≡◌, true, false, List, [], ◌∷◌, Some, None, slice_get, slice_set, ◌<◌, length, drop, take, refl, arith, sym, ap, ◌∙◌, subst, rules}
use Rattle.std.proofs.lemmas.List.Elements.{All-cons, All-tail}
use Rattle.c_syntax.specs.language.Numbered.{TreeView}
use Rattle.c_model.specs.declared.entry.Entry.{Entry}
use Rattle.c_model.specs.declared.view.View.{View}
use Rattle.c_model.specs.Step.{skips_masked, items_from_next, settled_task}
use Rattle.c_model.specs.Task.{Item as SeenItem}
use Rattle.c_steps.specs.declared.item.Item.{Item}
use Rattle.c_steps.specs.declared.frame.Frame.{Frame}
use Rattle.c_steps.specs.ControlView.{ControlView, task_at}
use Rattle.c_steps.specs.Items.{begun, calls_at, item_at, todo_at}
use Rattle.c_steps.specs.Looking.{IsInPlaceOf, IsOver, ShowsItem, weights}
use Rattle.c_steps.specs.Rooming.{open_calls}
use Rattle.c_steps.proofs.Frames.{calls_counted}
use Rattle.c_steps.specs.Ready.{AreFrames, IsFrame, IsFront}

pub record SettlesTo (program : TreeView) (view : View) (old new : List Frame) : Type 0 where
  pub are_frames : AreFrames program new
  pub todo : items_from_next view (todo_at program new) ≡ items_from_next view (todo_at program old)
  pub calls : (names : List Entry) → calls_at program names new ≡ calls_at program names old

-- the newest frame
pub top_frame : (frames : List Frame) (it : Frame) → Some it ≡ slice_get frames 0 → frames ≡ it ∷ drop 1 frames
top_frame [] it top = absurd (search rules)
top_frame (first ∷ frames) it top = ap (λ frame. frame ∷ frames) (search rules)

module _ (view : View) where
  passes : (item : SeenItem) (items : List SeenItem) → skips_masked item view ≡ true → items_from_next view (item ∷ items) ≡ items_from_next view items
  unfolding items_from_next
  passes item items past = rw past refl

  stands : (item : SeenItem) (items : List SeenItem) → skips_masked item view ≡ false → items_from_next view (item ∷ items) ≡ item ∷ items
  unfolding items_from_next
  stands item items stays = rw stays refl

  ends : items_from_next view [] ≡ []
  unfolding items_from_next
  ends = refl

module _ (program : TreeView) (view : View) (old : List Frame) where
  pub settles_none : AreFrames program old → SettlesTo program view old old
  settles_none are = record { are_frames = are; todo = refl; calls = λ names. refl }

  pub settles_instead : (it other : Frame) (frames : List Frame) → SettlesTo program view old (it ∷ frames) → IsInPlaceOf program it other → SettlesTo program view old (other ∷ frames)
  settles_instead it other frames so same = record {
    are_frames = All-cons (IsFrame program) other frames same.is_frame (All-tail (IsFrame program) it frames so.are_frames);
    todo = ap (items_from_next view) (same.todo frames) ∙ so.todo;
    calls = λ names. same.calls names frames ∙ so.calls names;
  }

  pub settles_over : (it : Frame) (frames : List Frame) → SettlesTo program view old (it ∷ frames) → IsOver program it → SettlesTo program view old frames
  settles_over it frames so over = record {
    are_frames = All-tail (IsFrame program) it frames so.are_frames;
    todo = ap (items_from_next view) (over.todo frames) ∙ so.todo;
    calls = λ names. over.calls names frames ∙ so.calls names;
  }

  pub settles_past : (frames : List Frame) (found : Item) → SettlesTo program view old frames → IsFront program frames found → skips_masked (item_at program found) view ≡ true → SettlesTo program view old (begun frames)
  settles_past frames found so front past = record {
    are_frames = front.are_begun;
    todo = sym (ap (items_from_next view) front.todo ∙ passes view (item_at program found) (todo_at program (begun frames)) past) ∙ so.todo;
    calls = λ names. front.calls names ∙ so.calls names;
  }

  pub settled_front : (frames : List Frame) (found : Item) → SettlesTo program view old frames → IsFront program frames found → skips_masked (item_at program found) view ≡ false → todo_at program frames ≡ items_from_next view (todo_at program old)
  settled_front frames found so front stays =
      front.todo ∙ sym (ap (items_from_next view) front.todo ∙ stands view (item_at program found) (todo_at program (begun frames)) stays) ∙ so.todo

  pub settled_none : (frames : List Frame) → SettlesTo program view old frames → todo_at program frames ≡ [] → todo_at program frames ≡ items_from_next view (todo_at program old)
  settled_none frames so none = none ∙ sym (ap (items_from_next view) none ∙ ends view) ∙ so.todo

-- what is left after one look
pub record IsLookedThrough (program : TreeView) (view : View) (old before after : List Frame) : Type 0 where
  pub count : open_calls after ≡ open_calls before
  pub so : SettlesTo program view old after
  pub less : weights program after < weights program before

same_count : (program : TreeView) (frames others : List Frame) → ((names : List Entry) → calls_at program names others ≡ calls_at program names frames) → open_calls others ≡ open_calls frames
same_count program frames others same = sym (calls_counted program [] others) ∙ ap length (same []) ∙ calls_counted program [] frames

module _ (program : TreeView) (view : View) (old frames : List Frame) (it : Frame) (so : SettlesTo program view old frames) (top : Some it ≡ slice_get frames 0) where
  abbrev rest : List Frame
  rest = drop 1 frames

  whole : frames ≡ it ∷ rest
  whole = top_frame frames it top

  so_whole : SettlesTo program view old (it ∷ rest)
  so_whole = subst (SettlesTo program view old) whole so

  pub over_top : IsOver program it → IsLookedThrough program view old frames rest
  unfolding weights
  over_top over = subst (λ before. IsLookedThrough program view old before rest) (sym whole) (record {
    count = same_count program (it ∷ rest) rest (λ names. over.calls names rest);
    so = settles_over program view old it rest so_whole over;
    less = let less = over.less in omega arith;
  })

  pub instead_top : (other : Frame) → IsInPlaceOf program it other → IsLookedThrough program view old frames (slice_set frames 0 other)
  unfolding weights
  instead_top other same = subst (λ before. IsLookedThrough program view old before (slice_set before 0 other)) (sym whole) (record {
    count = same_count program (it ∷ rest) (other ∷ rest) (λ names. same.calls names rest);
    so = settles_instead program view old it other rest so_whole same;
    less = let less = same.less in omega arith;
  })

  pub front_top : (found : Item) → ShowsItem program it found → IsFront program frames found
  front_top found shows = subst (λ at. IsFront program at found) (sym whole) (shows.front rest (All-tail (IsFrame program) it rest so_whole.are_frames))

  pub past_top : (found : Item) → ShowsItem program it found → skips_masked (item_at program found) view ≡ true → IsLookedThrough program view old frames (begun frames)
  past_top found shows past = subst (λ before. IsLookedThrough program view old before (begun before)) (sym whole) (
      let front = shows.front rest (All-tail (IsFrame program) it rest so_whole.are_frames) in
      record {
        count = same_count program (it ∷ rest) (begun (it ∷ rest)) front.calls;
        so = settles_past program view old (it ∷ rest) found so_whole front past;
        less = shows.less rest;
      })

  pub nothing_top : ((frames : List Frame) → todo_at program (it ∷ frames) ≡ []) → todo_at program frames ≡ []
  nothing_top none = subst (λ at. todo_at program at ≡ []) (sym whole) (none rest)

pub none_top : (program : TreeView) (frames : List Frame) → None ≡ slice_get frames 0 → todo_at program frames ≡ []
unfolding todo_at
none_top program [] top = refl
none_top program (first ∷ frames) top = absurd (search rules)

-- the control after one look
pub record IsMoved (program : TreeView) (view : View) (old before after : ControlView) : Type 0 where
  pub so : SettlesTo program view old.frames after.frames
  pub rest : after ≡ record old { frames = after.frames }
  pub less : weights program after.frames < weights program before.frames

pub moved : (program : TreeView) (view : View) (old before after : ControlView) (frames : List Frame) → before ≡ record old { frames = before.frames } → after ≡ record before { frames = frames } → IsLookedThrough program view old.frames before.frames frames → IsMoved program view old before after
moved program view old before after frames rest is next = subst (IsMoved program view old before) (sym is) (record {
  so = next.so;
  rest = ap (λ (held : ControlView). record held { frames = frames }) rest;
  less = next.less;
})

-- the task then
settled_task_at : (program : TreeView) (view : View) (old new : ControlView) → new ≡ record old { frames = new.frames } → SettlesTo program view old.frames new.frames → todo_at program new.frames ≡ items_from_next view (todo_at program old.frames) → task_at program new ≡ settled_task view (task_at program old)
settled_task_at program view old new rest so todo = rw (rest, todo, so.calls (take old.base old.names)) refl

pub settled_at_front : (program : TreeView) (view : View) (old new : ControlView) (found : Item) → new ≡ record old { frames = new.frames } → SettlesTo program view old.frames new.frames → IsFront program new.frames found → skips_masked (item_at program found) view ≡ false → task_at program new ≡ settled_task view (task_at program old)
settled_at_front program view old new found rest so front stays = settled_task_at program view old new rest so (settled_front program view old.frames new.frames found so front stays)

pub settled_at_end : (program : TreeView) (view : View) (old new : ControlView) → new ≡ record old { frames = new.frames } → SettlesTo program view old.frames new.frames → todo_at program new.frames ≡ [] → task_at program new ≡ settled_task view (task_at program old)
settled_at_end program view old new rest so none = settled_task_at program view old new rest so (settled_none program view old.frames new.frames so none)

pub ruleset settled_tops_cases = (over_top, instead_top, past_top, front_top, nothing_top, none_top, settled_at_front, settled_at_end, settles_none)
