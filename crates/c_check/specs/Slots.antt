-- The slots of the code, and what they are.
use Rattle.std.specs.Prelude.{◌≡◌, List}
use Rattle.std.specs.HashMap.{get}
use Rattle.c_tokens.specs.declared.token.Spot.{Spot}
use Rattle.c_check.specs.declared.scopes.declared.Named.{Named}
use Rattle.c_check.specs.declared.scopes.slots.Slots.{Slots}
use Rattle.c_check.specs.Pairs.{same_pair}
use Rattle.c_check.specs.Seen.{slot_in}

-- these names have come, in this order
abbrev pub AreSlots : List Named → Slots → Type 0
AreSlots named slots = (spot : Spot) → get same_pair slots.slots (spot.line, spot.column) ≡ slot_in named spot
