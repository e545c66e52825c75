-- The top of a stack, which is the last of its items.
use Rattle.std.proofs.Common.{◌≡◌, ◌-◌, ◌<◌, ℕ, suc, Bool, true, false, List, [], ◌∷◌, ◌++◌, drop, length, reverse, slice_index_or, slice_set, take, sym, ap, ◌∙◌, subst, arith}
use Rattle.std.proofs.lemmas.List.{drop_all, reverse-append, set-get_or, set_split}
use Rattle.c_steps.specs.declared.frame.Frame.{Frame}
use Rattle.c_steps.specs.declared.frame.Frame.TheVariants as frame
use Rattle.c_steps.specs.Items.{begun}
use Rattle.c_steps.specs.Ready.{CanBegin}
use Rattle.c_steps.specs.Rooms.{Stacked}
use Rattle.c_steps.specs.Trying.{IsBegun, IsBegunFrame}

module _ {X : Type 0} (items : List X) (place : ℕ) (last : 0 < length items) (is : place ≡ length items - 1) where
  abbrev below : List X
  below = reverse (take place items)

  set_last : (y : X) → slice_set items place y ≡ take place items ++ y ∷ []
  set_last y = set_split items place y (omega (arith, last, is)) ∙ ap (λ (rest : List X). take place items ++ y ∷ rest) (drop_all (suc place) items (omega (arith, last, is)))

  top_set : (y : X) → reverse (slice_set items place y) ≡ y ∷ below
  top_set y = ap reverse (set_last y) ∙ reverse-append (take place items) (y ∷ [])

  top_is : (it : X) → it ≡ slice_index_or items place it → reverse items ≡ it ∷ below
  top_is it found =
      let same : slice_set items place it ≡ items = ap (slice_set items place) found ∙ set-get_or items place it in
      sym (ap reverse same) ∙ top_set it

can_begin_first : (it : Frame) (frames : List Frame) → CanBegin (it ∷ frames) → CanBegin (it ∷ [])
can_begin_first (frame.One it) frames can = tt
can_begin_first (frame.Parts block part at names) frames can = can
can_begin_first (frame.Combining construct from names) frames can = tt
can_begin_first (frame.Combines operator name construct from names) frames can = tt
can_begin_first (frame.Caller base to) frames can = tt

module _ (items : List Frame) (place : ℕ) (it : Frame) (last : 0 < length items) (is : place ≡ length items - 1) (found : it ≡ slice_index_or items place it) where
  abbrev rest : List Frame
  rest = below items place last is

  whole : reverse items ≡ it ∷ rest
  whole = top_is items place last is it found

  pub can_begin_top : CanBegin (reverse items) → CanBegin (it ∷ [])
  can_begin_top can = can_begin_first it rest (subst CanBegin whole can)

  begins_top : (other : Frame) → IsBegunFrame it true other → reverse (slice_set items place other) ≡ begun (reverse items)
  begins_top other begins = top_set items place last is other ∙ sym (begins rest) ∙ ap begun (sym whole)

  ends_top : (other : Frame) → IsBegunFrame it false other → reverse (slice_set items place other) ≡ reverse items
  ends_top other ends = top_set items place last is other ∙ ap (λ (it : Frame). it ∷ rest) ends.0 ∙ sym whole

  gone_top : (other : Frame) → IsBegunFrame it false other → begun (reverse items) ≡ drop 1 (reverse items)
  gone_top other ends = ap begun whole ∙ ends.1 rest ∙ ap (drop 1) (sym whole)

  -- the whole stack
  pub begun_stack : (old new : Stacked Frame) (other : Frame) (stays : Bool) → old.frames ≡ reverse items → new ≡ record old { frames = reverse (slice_set items place other) } → IsBegunFrame it stays other → IsBegun old stays new
  begun_stack old new other true same becomes begins =
      becomes ∙ ap (λ (frames : List Frame). record old { frames = frames }) (begins_top other begins ∙ ap begun (sym same))
  begun_stack old new other false same becomes ends = (
    becomes ∙ ap (λ (frames : List Frame). record old { frames = frames }) (ends_top other ends ∙ sym same),
    ap begun same ∙ gone_top other ends ∙ ap (drop 1) (sym same),
  )
