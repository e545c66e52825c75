-- Maps that keep the first value of a key.
use Rattle.std.proofs.Common.{◌≡◌, ℕ, Bool, true, false, cond, Option, Some, None, refl, sym, ap, ◌∙◌, nat_eq}
use Rattle.std.specs.Option.{is_some, option_or}
use Rattle.std.specs.Map.{update}
use Rattle.std.proofs.lemmas.Bool.{and_parts, eqb-true}
use Rattle.c_check.specs.Pairs.{same_pair}

pub same_pair-true : (first second : ℕ × ℕ) → same_pair first second ≡ true → first ≡ second
same_pair-true (line, column) (other, another) is =
    let parts = and_parts (nat_eq line other) (nat_eq column another) is in
    ap (λ (it : ℕ). let pair : ℕ × ℕ = (it, column) in pair) (eqb-true line other parts.0) ∙ ap (λ (it : ℕ). let pair : ℕ × ℕ = (other, it) in pair) (eqb-true column another parts.1)

or_none : {X : Type 0} (value : Option X) → value ≡ option_or value None
or_none None = refl
or_none (Some value) = refl

or_some : {X : Type 0} (value other : Option X) → is_some value ≡ true → value ≡ option_or value other
or_some None other is = absurd cc
or_some (Some value) other is = refl

none_or : {X : Type 0} (value other : Option X) → is_some value ≡ false → other ≡ option_or value other
none_or None other is = refl
none_or (Some value) other is = absurd cc

module _ {K X : Type 0} (same : K → K → Bool) (exact : (first second : K) → same first second ≡ true → first ≡ second) (key : K) (value : X) (before : K → Option X) where
  new_kept : is_some (before key) ≡ false → (other : K) (here : Bool) → same key other ≡ here → cond here (Some value) (before other) ≡ option_or (before other) (cond here (Some value) None)
  new_kept none other true is = none_or (before other) (Some value) (ap (λ (it : K). is_some (before it)) (sym (exact key other is)) ∙ none)
  new_kept none other false is = or_none (before other)

  -- it had no value
  pub kept_new : (after : K → Option X) → is_some (before key) ≡ false → ((other : K) → after other ≡ update same before key (Some value) other)
      → (other : K) → after other ≡ option_or (before other) (cond (same key other) (Some value) None)
  kept_new after none put other = put other ∙ new_kept none other (same key other) refl

  old_kept : is_some (before key) ≡ true → (other : K) (here : Bool) → same key other ≡ here → before other ≡ option_or (before other) (cond here (Some value) None)
  old_kept some other true is = or_some (before other) (Some value) (ap (λ (it : K). is_some (before it)) (sym (exact key other is)) ∙ some)
  old_kept some other false is = or_none (before other)

  -- it had one
  pub kept_old : is_some (before key) ≡ true → (other : K) → before other ≡ option_or (before other) (cond (same key other) (Some value) None)
  kept_old some other = old_kept some other (same key other) refl
