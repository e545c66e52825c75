-- What stands next, told without a change.
use Rattle.std.proofs.Common.{◌≡◌, ◌<◌, true, false, List, [], ◌∷◌, reverse, slice_get, Option, Some, None, refl, sym, ap, ◌∙◌, subst, arith}
use Rattle.std.proofs.lemmas.List.{reverse-reverse}
use Rattle.std.proofs.lemmas.List.Elements.{All-head, All-tail}
use Rattle.c_syntax.specs.language.Numbered.{TreeView}
use Rattle.c_model.specs.declared.view.View.{View}
use Rattle.c_model.specs.Step.{skips_masked, items_from_next}
use Rattle.c_model.specs.Task.{Item as SeenItem}
use Rattle.c_steps.specs.declared.item.Item.{Item}
use Rattle.c_steps.specs.declared.frame.Frame.{Frame}
use Rattle.c_steps.specs.Items.{begun, item_at, todo_at}
use Rattle.c_steps.specs.Looking.{IsInPlaceOf, IsOver, ShowsItem, weights}
use Rattle.c_steps.specs.Ready.{AreFrames, IsFrame, IsFront}
use Rattle.c_steps.specs.FrontFrame.{BeginsAs, above}
use Rattle.c_steps.proofs.Settling.{SettlesTo, settled_front, settled_none, settles_instead, settles_none, settles_over, settles_past}

-- all frames are left at first
pub all_left : (program : TreeView) (view : View) (old items : List Frame) → items ≡ reverse old → AreFrames program old → SettlesTo program view old (reverse items)
all_left program view old items is are =
    subst (SettlesTo program view old) (sym (ap reverse is ∙ reverse-reverse old)) (settles_none program view old are)

-- none is left
pub none_left : (program : TreeView) (view : View) (old all : List Frame) → SettlesTo program view old all → all ≡ [] → slice_get (items_from_next view (todo_at program old)) 0 ≡ None
unfolding todo_at
none_left program view old [] so is = ap (λ (items : List SeenItem). slice_get items 0) (sym (settled_none program view old [] so refl))
none_left program view old (it ∷ rest) so is = absurd (cc)

module _ (program : TreeView) (view : View) (old all rest : List Frame) (it : Frame) (so : SettlesTo program view old all) (top : all ≡ it ∷ rest) where
  whole : SettlesTo program view old (it ∷ rest)
  whole = subst (SettlesTo program view old) top so

  pub top_is_frame : IsFrame program it
  top_is_frame = All-head (IsFrame program) it rest whole.are_frames

  pub nothing_left : ((frames : List Frame) → todo_at program (it ∷ frames) ≡ []) → slice_get (items_from_next view (todo_at program old)) 0 ≡ None
  nothing_left none = ap (λ (items : List SeenItem). slice_get items 0) (sym (settled_none program view old (it ∷ rest) whole (none rest)) ∙ none rest)

  pub over_left : IsOver program it → SettlesTo program view old rest
  over_left over = settles_over program view old it rest whole over

  pub over_less : IsOver program it → weights program rest < weights program all
  unfolding weights
  over_less over = rw top (let less = over.less in omega arith)

  pub instead_left : (other : Frame) → IsInPlaceOf program it other → SettlesTo program view old (other ∷ rest)
  instead_left other same = settles_instead program view old it other rest whole same

  pub instead_less : (other : Frame) → IsInPlaceOf program it other → weights program (other ∷ rest) < weights program all
  unfolding weights
  instead_less other same = rw top (let less = same.less in omega arith)

  module _ (found : Item) (shows : ShowsItem program it found) where
    next : IsFront program (it ∷ rest) found
    next = shows.front rest (All-tail (IsFrame program) it rest whole.are_frames)

    pub found_first : skips_masked (item_at program found) view ≡ false → slice_get (items_from_next view (todo_at program old)) 0 ≡ Some (item_at program found)
    found_first stays = ap (λ (items : List SeenItem). slice_get items 0) (sym (settled_front program view old (it ∷ rest) found whole next stays) ∙ next.todo)

    pub past_left : skips_masked (item_at program found) view ≡ true → (other : Option Frame) → BeginsAs it other → SettlesTo program view old (above other rest)
    past_left past other begins = subst (SettlesTo program view old) (begins rest) (settles_past program view old (it ∷ rest) found whole next past)

    pub past_less : (other : Option Frame) → BeginsAs it other → weights program (above other rest) < weights program all
    past_less other begins = rw (top, ← begins rest) (shows.less rest)

pub ruleset left_cases = (all_left, none_left, top_is_frame, nothing_left, over_left, over_less, instead_left, instead_less, found_first, past_left, past_less)
