-- What is in a mask.
use Rattle.std.proofs.Common.{◌≡◌, ℕ, ◌<◌, ◌≤◌, ◌^◌, false, refl}
use Rattle.std.proofs.lemmas.Nat.Bits.{bit_at_above}
use Rattle.ompt_calls.specs.Number.{is_registered}

-- no number from 64 on
pub none-above : (mask number : ℕ) → mask < 2 ^ 64 → 64 ≤ number → is_registered mask number ≡ false
none-above mask number fits above = rw (bit_at_above mask 64 number fits above) refl
