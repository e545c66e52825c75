-- Names by their places, and one more.
use Rattle.std.proofs.Common.{◌≡◌, ℕ, Bool, true, false, cond, ◌==◌, ◌&&◌, List, [], ◌∷◌, ◌++◌, Option, Some, None, refl, sym, ap, ◌∙◌, inl, inr}
use Rattle.std.proofs.lemmas.Bool.{cases_Bool, eqb-true, false≢true}
use Rattle.c_tokens.specs.declared.token.Spot.{Spot}
use Rattle.c_check.specs.declared.scopes.declared.Named.{Named}
use Rattle.c_check.specs.Seen.{slot_in}
use Rattle.c_check.specs.Faults.{is_same_spot}

both : (first second : Bool) → (first && second) ≡ true → (first ≡ true) × (second ≡ true)
both true second holds = (refl, holds)
both false second fails = absurd (false≢true fails)

pub same-spot : (first second : Spot) → is_same_spot first second ≡ true → first ≡ second
same-spot first second same =
    let parts = both (first.line == second.line) (first.column == second.column) same in
    let line = eqb-true first.line second.line parts.0 in
    let column = eqb-true first.column second.column parts.1 in
    λ i. record { line = line i; column = column i }

-- a place that is new
pub slot_in-new : (named : List Named) (at : Spot) (slot : ℕ) (other : Spot) → slot_in named at ≡ None → slot_in (named ++ record { spot = at; slot = slot } ∷ []) other ≡ cond (is_same_spot at other) (Some slot) (slot_in named other)
unfolding slot_in
slot_in-new [] at slot other none = refl
slot_in-new (first ∷ rest) at slot other none =
    elim (cases_Bool (is_same_spot first.spot at)) [
      | inl same ↦ absurd (let found : Some first.slot ≡ None = rw same at none in cc)
      | inr apart ↦
          let more : slot_in (rest ++ record { spot = at; slot = slot } ∷ []) other ≡ cond (is_same_spot at other) (Some slot) (slot_in rest other) = slot_in-new rest at slot other (rw apart at none) in
          elim (cases_Bool (is_same_spot first.spot other)) [
            | inl here ↦
                elim (cases_Bool (is_same_spot at other)) [
                  | inl too ↦ absurd (false≢true (sym apart ∙ (ap (λ (spot : Spot). is_same_spot first.spot spot) (same-spot at other too) ∙ here)))
                  | inr away ↦ rw (here, away) refl
                ]
            | inr away ↦ rw away more
          ]
    ]

-- a place that isn't
pub slot_in-again : (named : List Named) (at : Spot) (slot known : ℕ) (other : Spot) → slot_in named at ≡ Some known → slot_in (named ++ record { spot = at; slot = slot } ∷ []) other ≡ slot_in named other
unfolding slot_in
slot_in-again [] at slot known other found = absurd (cc)
slot_in-again (first ∷ rest) at slot known other found =
    elim (cases_Bool (is_same_spot first.spot other)) [
      | inl here ↦ rw here refl
      | inr away ↦
          rw away
          (elim (cases_Bool (is_same_spot first.spot at)) [
            | inl same ↦ behind rest other (ap (λ (spot : Spot). is_same_spot spot other) (sym (same-spot first.spot at same)) ∙ away)
            | inr apart ↦ slot_in-again rest at slot known other (rw apart at found)
          ])
    ]
  where
    behind : (named : List Named) (other : Spot) → is_same_spot at other ≡ false → slot_in (named ++ record { spot = at; slot = slot } ∷ []) other ≡ slot_in named other
    behind [] other away = rw away refl
    behind (next ∷ named) other away = ap (λ (more : Option ℕ). cond (is_same_spot next.spot other) (Some next.slot) more) (behind named other away)
