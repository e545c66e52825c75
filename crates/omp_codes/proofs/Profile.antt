-- The mask of the profile has the bits of the callbacks of the profile.
use Rattle.std.proofs.Common.{◌≡◌, ℕ, ◌≤◌, ◌==◌, refl, inl, inr, arith}
use Rattle.std.specs.Int.{bit_at}
use Rattle.std.proofs.lemmas.Bool.{agree_below_at, cases_lt, le-leb, lt-leb}
use Rattle.std.proofs.lemmas.Nat.Bits.{bit_at_above}
use Rattle.omp_codes.specs.Answers.{in_profile}
use Rattle.omp_codes.specs.declared.callbacks.TheConstants.{PROFILE_MASK}

-- no callback of the profile has a greater number than 32
above : (number : ℕ) → 33 ≤ number → (bit_at PROFILE_MASK number == 1) ≡ in_profile number
above number far =
    rw (
      bit_at_above PROFILE_MASK 33 number (omega arith) far,
      lt-leb number 7 (omega (arith, far)),
      lt-leb number 17 (omega (arith, far)),
      lt-leb number 21 (omega (arith, far)),
      lt-leb number 27 (omega (arith, far)),
      lt-leb number 32 (omega (arith, far)),
      le-leb 1 number (omega (arith, far)),
      le-leb 16 number (omega (arith, far)),
      le-leb 20 number (omega (arith, far)),
      le-leb 23 number (omega (arith, far)),
      le-leb 32 number (omega (arith, far)),
    ) refl

pub profile-bits : (number : ℕ) → (bit_at PROFILE_MASK number == 1) ≡ in_profile number
profile-bits number =
    elim (cases_lt number 33) [
      | inl near ↦ agree_below_at (λ n. bit_at PROFILE_MASK n == 1) in_profile 33 number refl near
      | inr far ↦ above number far
    ]
