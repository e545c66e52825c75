-- The number and the place that tell a fault of the tokens. Want of memory has neither.
use Rattle.std.specs.Prelude.{ℕ}
use Rattle.c_tokens.specs.declared.token.Spot.{Spot}
use Rattle.c_tokens.specs.declared.token.TokenFault.{TokenFault}
use Rattle.c_tokens.specs.declared.token.TokenFault.TheVariants.{BadByte, OpenComment, BadNumber, Memory}

-- the place of what stands nowhere in a text
abbrev pub nowhere : Spot
nowhere = record { line = 0; column = 0 }

abbrev pub fault_number : TokenFault → ℕ
fault_number (BadByte spot) = 1
fault_number (OpenComment spot) = 2
fault_number (BadNumber spot) = 3
fault_number Memory = 0

abbrev pub fault_spot : TokenFault → Spot
fault_spot (BadByte spot) = spot
fault_spot (OpenComment spot) = spot
fault_spot (BadNumber spot) = spot
fault_spot Memory = nowhere
