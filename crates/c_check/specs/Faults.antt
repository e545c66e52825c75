-- Faults: their numbers, their places, and which of several is told.
use Rattle.std.specs.Prelude.{ℕ, ◌==◌, nat_lt, ◌&&◌, ◌||◌, if◌then◌else◌, Bool, List, [], ◌∷◌, Option, Some, None}
use Rattle.c_tokens.specs.declared.token.Spot.{Spot}
use Rattle.c_tokens.specs.language.Faults.{nowhere}
use Rattle.c_check.specs.declared.fault.CheckFault.{CheckFault}
use Rattle.c_check.specs.declared.fault.CheckFault.TheVariants as fault

-- want of memory has no number and no place
abbrev pub fault_number : CheckFault → ℕ
fault_number (fault.UnknownName spot) = 8
fault_number (fault.TwiceDeclared spot) = 9
fault_number (fault.WrongUse spot) = 10
fault_number (fault.BadNesting spot) = 11
fault_number (fault.BadLoop spot) = 12
fault_number (fault.NoMain spot) = 13
fault_number (fault.NotListed spot) = 14
fault_number fault.Memory = 0

abbrev pub fault_spot : CheckFault → Spot
fault_spot (fault.UnknownName spot) = spot
fault_spot (fault.TwiceDeclared spot) = spot
fault_spot (fault.WrongUse spot) = spot
fault_spot (fault.BadNesting spot) = spot
fault_spot (fault.BadLoop spot) = spot
fault_spot (fault.NoMain spot) = spot
fault_spot (fault.NotListed spot) = spot
fault_spot fault.Memory = nowhere

-- a fault is told before another: its place comes first, or at one place its number is less
abbrev pub is_earlier : Spot → Spot → Bool
is_earlier first second = nat_lt first.line second.line || first.line == second.line && nat_lt first.column second.column

abbrev pub is_same_spot : Spot → Spot → Bool
is_same_spot first second = first.line == second.line && first.column == second.column

abbrev pub comes_first : CheckFault → CheckFault → Bool
comes_first first second =
    is_earlier (fault_spot first) (fault_spot second)
    || is_same_spot (fault_spot first) (fault_spot second) && nat_lt (fault_number first) (fault_number second)

abbrev pub sooner : Option CheckFault → CheckFault → Option CheckFault
sooner None found = Some found
sooner (Some first) found = if comes_first found first then Some found else Some first

unfoldable pub first_of : Option CheckFault → List CheckFault → Option CheckFault
first_of known [] = known
first_of known (found ∷ rest) = first_of (sooner known found) rest
