-- The number of a callback, and the masks of them.
use Rattle.std.specs.Prelude.{ℕ, Bool, ◌==◌}
use Rattle.std.specs.Int.{bit_at}
pub use Rattle.ompt_calls.specs.Arguments.{number_of}

-- the callback with this number is in the mask: bit n for number n
abbrev pub is_registered : ℕ → ℕ → Bool
is_registered mask number = bit_at mask number == 1
