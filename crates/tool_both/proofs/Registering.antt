-- What two tools registered, registered one callback after another.
use Rattle.std.proofs.Common.{◌≡◌, ◌≢◌, ℕ, ◌+◌, ◌<◌, ◌^◌, max, Bool, true, false, ◌&&◌, ◌==◌, nat_lt, bit_or, inl, inr, refl, ◌∙◌, arith}
use Rattle.std.specs.Int.{bit_at}
use Rattle.std.proofs.lemmas.Bool.{cases_Bool, eqb-true}
use Rattle.std.proofs.lemmas.Bool.Decides.{eqb_tells, nat_tests}
use Rattle.std.proofs.lemmas.Nat.Bits.{bit_at_or, bit_at-lt}
use Rattle.std.proofs.Math.Bool.{or-true, or-false}
use Rattle.omp_codes.specs.Answers.{answer_of}
use Rattle.ompt_calls.specs.Number.{is_registered}
use Rattle.ompt_calls.proofs.Masks.{none-above}
use Rattle.tool_api.specs.Registering.{AreAlways, is_registered_after}
use Rattle.tool_api.proofs.Registering.{same-mask}

-- the greater of two bits is one of them
other-bit : (a b : ℕ) → a < 2 → b < 2 → max a b ≡ 1 → (a == 1) ≡ false → (b == 1) ≡ true
other-bit a b below-a below-b one not_a = grind (arith, nat_tests)

-- each callback of both is called always
pub both-always : (first second : ℕ) → AreAlways first → AreAlways second → AreAlways (bit_or first second)
both-always first second of_first of_second number is =
    let one : max (bit_at first number) (bit_at second number) ≡ 1 = rw (bit_at_or first second number) at (eqb-true (bit_at (bit_or first second) number) 1 is) in
    elim (cases_Bool (is_registered first number)) [
      | inl found ↦ of_first number found
      | inr other ↦ of_second number (other-bit (bit_at first number) (bit_at second number) (bit_at-lt first number) (bit_at-lt second number) one other)
    ]

-- the numbers below the next one
next-below : (other number : ℕ) → other ≢ number → nat_lt other (number + 1) ≡ nat_lt other number
next-below other number different = grind (arith, nat_tests)

last-below : (number : ℕ) → nat_lt number (number + 1) ≡ true
last-below number = grind (arith, nat_tests)

-- one callback more is registered
pub registers-one : (joint old new number : ℕ) → is_registered joint number ≡ true → answer_of number ≡ 5
    → ((other : ℕ) → is_registered new other ≡ is_registered_after old number other) → ((other : ℕ) → is_registered old other ≡ (is_registered joint other && nat_lt other number))
    → (other : ℕ) → is_registered new other ≡ (is_registered joint other && nat_lt other (number + 1))
registers-one joint old new number is always says before other =
    elim (eqb_tells other number) as (λ _. is_registered new other ≡ (is_registered joint other && nat_lt other (number + 1))) [
      | inl same ↦ says other ∙ rw (same.0, always, same.1, is, last-below number) (or-true (is_registered old number))
      | inr different ↦ says other ∙ rw (different.0, or-false (is_registered old other), next-below other number different.1) (before other)
    ]

-- and one that isn't registered is passed over
pub passes-one : (joint old number : ℕ) → is_registered joint number ≡ false → ((other : ℕ) → is_registered old other ≡ (is_registered joint other && nat_lt other number))
    → (other : ℕ) → is_registered old other ≡ (is_registered joint other && nat_lt other (number + 1))
passes-one joint old number isnt before other =
    elim (eqb_tells other number) as (λ _. is_registered old other ≡ (is_registered joint other && nat_lt other (number + 1))) [
      | inl same ↦ before other ∙ rw (same.1, isnt) refl
      | inr different ↦ rw (next-below other number different.1) (before other)
    ]

-- all are registered at the end
below-end : (joint other : ℕ) → joint < 2 ^ 64 → (is_registered joint other && nat_lt other 64) ≡ is_registered joint other
below-end joint other fits =
    elim (cases_Bool (nat_lt other 64)) [
      | inl below ↦ rw below (and-true (is_registered joint other))
      | inr above ↦ rw (none-above joint other fits (grind (arith, nat_tests))) refl
    ]
  where
    and-true : (b : Bool) → (b && true) ≡ b
    and-true true = refl
    and-true false = refl

pub registers-all : (joint registered : ℕ) → joint < 2 ^ 64 → ((other : ℕ) → is_registered registered other ≡ (is_registered joint other && nat_lt other 64)) → registered ≡ joint
registers-all joint registered fits says = same-mask registered joint (λ other. says other ∙ below-end joint other fits)
