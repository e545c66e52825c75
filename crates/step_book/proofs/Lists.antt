-- Lists read and written at a place.
use Rattle.std.proofs.Common.{◌≡◌, ℕ, zero, suc, ◌≢◌, ◌⊎◌, List, [], ◌∷◌, ◌++◌, length, set, sym, refl, ap, inl, inr, ⊎_elim}
use mathlib.Core.Option.{some, some-injective, some-ne-none}
use lib.ListN.{get_elem?}

module _ {X : Type 0} where
  -- what stands in a list with one item more at its end
  pub at_more : (xs : List X) (x y : X) (i : ℕ) → get_elem? (xs ++ x ∷ []) i ≡ some y → (get_elem? xs i ≡ some y) ⊎ ((i ≡ length xs) × (x ≡ y))
  at_more [] x y zero at = inr (refl, some-injective x y at)
  at_more [] x y (suc i) at = absurd (some-ne-none y (sym at))
  at_more (z ∷ zs) x y zero at = inl at
  at_more (z ∷ zs) x y (suc i) at = ⊎_elim (λ here. inl here) (λ last. inr (ap suc last.0, last.1)) (at_more zs x y i at)

  -- writes to two places, in either order
  pub set_either : (xs : List X) (i j : ℕ) (x y : X) → i ≢ j → set (set xs i x) j y ≡ set (set xs j y) i x
  set_either [] i j x y apart = refl
  set_either (z ∷ zs) zero zero x y apart = absurd (apart refl)
  set_either (z ∷ zs) zero (suc j) x y apart = refl
  set_either (z ∷ zs) (suc i) zero x y apart = refl
  set_either (z ∷ zs) (suc i) (suc j) x y apart = ap (λ (ws : List X). z ∷ ws) (set_either zs i j x y (λ same. apart (ap suc same)))
