-- One more bit of a mask.
use Rattle.std.proofs.Common.{◌≡◌, ℕ, ◌<◌, ◌^◌, max, true, ◌||◌, ◌==◌, bit_or, refl, inl, inr, arith}
use Rattle.std.specs.Int.{bit_at}
use Rattle.std.proofs.lemmas.Bool.Decides.{eqb_tells}
use Rattle.std.proofs.lemmas.Nat.Bits.{bit_at_or, bit_at-pow_same, bit_at-pow_other, bit_at-lt}
use Rattle.std.proofs.Math.Nat.{max-zero}
use Rattle.std.proofs.Math.Bool.{or-true, or-false}
use Rattle.ompt_calls.specs.Number.{is_registered}
use Rattle.omp_codes.specs.Answers.{answer_of}
use Rattle.tool_api.specs.Registering.{is_registered_after}

-- a bit and 1
max-one : (bit : ℕ) → bit < 2 → max bit 1 ≡ 1
max-one bit below = omega (arith, below)

pub registered : (mask number other : ℕ) → answer_of number ≡ 5 → is_registered (bit_or mask (2 ^ number)) other ≡ is_registered_after mask number other
registered mask number other always =
    elim (eqb_tells other number) as (λ _. is_registered (bit_or mask (2 ^ number)) other ≡ is_registered_after mask number other) [ inl same ↦ rw (bit_at_or mask (2 ^ number) other, same.0, always) (same-bit same.1) | inr different ↦ rw (bit_at_or mask (2 ^ number) other, different.0, bit_at-pow_other number other different.1, max-zero (bit_at mask other), or-false (is_registered mask other)) refl ]
  where
    same-bit : other ≡ number → (max (bit_at mask other) (bit_at (2 ^ number) other) == 1) ≡ (is_registered mask other || true)
    same-bit equal = rw (equal, bit_at-pow_same number, max-one (bit_at mask number) (bit_at-lt mask number), or-true (is_registered mask number)) refl
