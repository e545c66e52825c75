-- The mask of the profile has exactly the callbacks of the profile.
use Rattle.std.proofs.Common.{◌≡◌, ◌≢◌, ℕ, ◌<◌, ◌^◌, true, min, inl, inr, refl, sym, ap, ◌∙◌, arith}
use Rattle.std.specs.Prelude.{bit_and}
use Rattle.std.specs.Int.{bit_at}
use Rattle.std.proofs.lemmas.Bool.{agree_below_at, cases_Bool, cases_lt, eq-eqb, eqb-false, eqb-true}
use Rattle.std.proofs.lemmas.Nat.{and_le_l}
use Rattle.std.proofs.lemmas.Nat.Bits.{bit_at-lt, bit_at_above, bit_at_and, same_from_bits_below}
use Rattle.omp_codes.specs.Answers.{in_profile}
use Rattle.omp_codes.specs.declared.callbacks.TheConstants.{PROFILE_MASK}
use Rattle.ompt_calls.specs.Number.{is_registered}

-- below 64 by computing
same_below : (number : ℕ) → number < 64 → is_registered PROFILE_MASK number ≡ in_profile number
same_below number below = agree_below_at (is_registered PROFILE_MASK) in_profile 64 number refl below

mask_fits : PROFILE_MASK < 2 ^ 64
mask_fits = omega arith

-- a callback that is in the mask of the profile is in the profile
in_mask : (number : ℕ) → bit_at PROFILE_MASK number ≡ 1 → in_profile number ≡ true
in_mask number bit =
    elim (cases_lt number 64) [
      | inl below ↦ sym (same_below number below) ∙ eq-eqb (bit_at PROFILE_MASK number) 1 bit
      | inr above ↦ absurd (omega (arith, bit, bit_at_above PROFILE_MASK 64 number mask_fits above))
    ]

-- A mask that has nothing but what the profile's has.
pub profile_alone : (mask number : ℕ) → bit_and mask PROFILE_MASK ≡ mask → is_registered mask number ≡ true → in_profile number ≡ true
profile_alone mask number same registered =
    let bit : bit_at mask number ≡ 1 = eqb-true (bit_at mask number) 1 registered in
    let both : min (bit_at mask number) (bit_at PROFILE_MASK number) ≡ 1 =
    sym (bit_at_and mask PROFILE_MASK number) ∙ ap (λ (m : ℕ). bit_at m number) same ∙ bit in
    in_mask number (omega (arith, bit, both, bit_at-lt PROFILE_MASK number))

-- The bit of the mask is in both masks, if the profile has it.
bit_and_both :
    (mask number : ℕ) → number < 64 → (is_registered mask number ≡ true → in_profile number ≡ true)
    → bit_at (bit_and mask PROFILE_MASK) number ≡ bit_at mask number
bit_and_both mask number below alone =
    let both = bit_at_and mask PROFILE_MASK number in
    elim (cases_Bool (is_registered mask number)) [
      | inl has ↦
          let bit : bit_at mask number ≡ 1 = eqb-true (bit_at mask number) 1 has in
          let other : bit_at PROFILE_MASK number ≡ 1 = eqb-true (bit_at PROFILE_MASK number) 1 (same_below number below ∙ alone has) in
          omega (arith, both, bit, other)
      | inr lacks ↦
          let bit : bit_at mask number ≡ 0 = let no : bit_at mask number ≢ 1 = eqb-false (bit_at mask number) 1 lacks in omega (arith, no, bit_at-lt mask number) in
          omega (arith, both, bit)
    ]

pub profile_and : (mask : ℕ) → mask < 2 ^ 64 → ((number : ℕ) → is_registered mask number ≡ true → in_profile number ≡ true) → bit_and mask PROFILE_MASK ≡ mask
profile_and mask fits alone =
    same_from_bits_below 64 (bit_and mask PROFILE_MASK) mask (omega (arith, fits, and_le_l mask PROFILE_MASK)) fits (λ number below. bit_and_both mask number below (alone number))
