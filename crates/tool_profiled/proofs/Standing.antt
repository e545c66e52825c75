-- What each of the parts that are joined with profiles stands for, where the part does so.
use Rattle.std.proofs.Common.{◌≡◌, ℕ, suc, ◌<◌, List, ◌∷◌, length, slice_index_or, sym, ap, subst, ◌∙◌, arith}
use Rattle.std.proofs.lemmas.List.{get_or-map}
use Rattle.tool_api.specs.Record.{IsUncalled, Record, initialized}
use Rattle.tool_both.specs.declared.masks.Masks.{Masks}
use Rattle.tool_both.specs.Tools.{fresh_both}
use Rattle.tool_profiled.specs.Joining.{AreJoined, Profiled, ProfiledFor, nothing_counted, part_in}
use Rattle.tool_profiled.proofs.Hearing.{fresh-marked, fresh-unsaid, with_mark, nothing_said}

module _ {P : Type 0} (part_for : P → Record → Type 0) (Same : P → P → Type 0) (p : P) (ps : List P) (masks : Masks) (joined : List (Profiled P)) (joins : AreJoined part_for Same (p ∷ ps) masks joined) where
  -- the first holds the part that was asked
  pub first-is : (e : Profiled P) → part_in (slice_index_or joined 0 e) ≡ joins.asked
  first-is e = sym (get_or-map part_in joined 0 e joins.asked (omega (arith, joins.as_many))) ∙ ap (λ (parts : List P). slice_index_or parts 0 joins.asked) joins.parts_are

  -- and the others hold the parts as they were
  pub other-is : (k : ℕ) (d : P) (e : Profiled P) → k < length ps → part_in (slice_index_or joined (suc k) e) ≡ slice_index_or ps k d
  other-is k d e below = sym (get_or-map part_in joined (suc k) e d (omega (arith, below, joins.as_many))) ∙ ap (λ (parts : List P). slice_index_or parts (suc k) d) joins.parts_are

  -- each stands for a record with a mark, where its part does without it, and for the other one anyway
  pub first-marked : (h : Record) → IsUncalled h → part_for p h → (e : Profiled P)
      → ProfiledFor part_for (slice_index_or joined 0 e) (fresh_both masks (with_mark (initialized h masks.first_answer (joins.was_asked p).registered)) nothing_counted)
  first-marked h uncalled for e =
      fresh-marked part_for masks (slice_index_or joined 0 e) (joins.fresh 0 e (omega (arith, joins.as_many))) (initialized h masks.first_answer (joins.was_asked p).registered)
      (record { calls = uncalled.calls; finished = uncalled.finished; unheard = uncalled.unheard })
      (subst (λ (part : P). part_for part (initialized h masks.first_answer (joins.was_asked p).registered)) (sym (first-is e)) ((joins.was_asked p).starts h for))

  pub other-marked : (k : ℕ) → k < length ps → (h : Record) → IsUncalled h → (d : P) → part_for (slice_index_or ps k d) h → (e : Profiled P)
      → ProfiledFor part_for (slice_index_or joined (suc k) e) (fresh_both masks (with_mark h) nothing_counted)
  other-marked k below h uncalled d for e =
      fresh-marked part_for masks (slice_index_or joined (suc k) e) (joins.fresh (suc k) e (omega (arith, below, joins.as_many))) h
      (record { calls = uncalled.calls; finished = uncalled.finished; unheard = uncalled.unheard })
      (subst (λ (part : P). part_for part h) (sym (other-is k d e below)) for)

  pub each-unsaid : (k : ℕ) → k < length joined → (e : Profiled P) → ProfiledFor part_for (slice_index_or joined k e) (fresh_both masks nothing_said nothing_counted)
  each-unsaid k below e = fresh-unsaid part_for masks (slice_index_or joined k e) (joins.fresh k e below)
