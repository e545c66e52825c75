-- The first of faults, one behind the other.
use Rattle.std.proofs.Common.{◌≡◌, Bool, true, false, List, [], ◌∷◌, ◌++◌, map, Option, refl}
use Rattle.c_tokens.specs.declared.token.Spot.{Spot}
use Rattle.c_check.specs.declared.fault.CheckFault.{CheckFault}
use Rattle.c_check.specs.declared.fault.CheckFault.TheVariants as fault
use Rattle.c_check.specs.Faults.{first_of, sooner}
use Rattle.c_check.specs.Rules.{where_so}
use Rattle.c_check.specs.Standing.{if_so}

pub first_of_append : (known : Option CheckFault) (front more : List CheckFault) → first_of known (front ++ more) ≡ first_of (first_of known front) more
unfolding first_of
first_of_append known [] more = refl
first_of_append known (found ∷ front) more = first_of_append (sooner known found) front more

pub first_of_nothing : (known : Option CheckFault) → first_of known [] ≡ known
unfolding first_of
first_of_nothing known = refl

-- a fault at a place where a rule is broken
module _ (known : Option CheckFault) (broken : Bool) (spot : Spot) where
  one : (sort : Spot → CheckFault) → (test : Bool) → first_of known (map sort (where_so test spot)) ≡ first_of known (if_so test (sort spot))
  one sort true = refl
  one sort false = refl

  pub first_of_unknown : first_of known (map fault.UnknownName (where_so broken spot)) ≡ first_of known (if_so broken (fault.UnknownName spot))
  first_of_unknown = one fault.UnknownName broken

  pub first_of_twice : first_of known (map fault.TwiceDeclared (where_so broken spot)) ≡ first_of known (if_so broken (fault.TwiceDeclared spot))
  first_of_twice = one fault.TwiceDeclared broken

  pub first_of_wrong : first_of known (map fault.WrongUse (where_so broken spot)) ≡ first_of known (if_so broken (fault.WrongUse spot))
  first_of_wrong = one fault.WrongUse broken

  pub first_of_nested : first_of known (map fault.BadNesting (where_so broken spot)) ≡ first_of known (if_so broken (fault.BadNesting spot))
  first_of_nested = one fault.BadNesting broken

  pub first_of_main : first_of known (map fault.NoMain (where_so broken spot)) ≡ first_of known (if_so broken (fault.NoMain spot))
  first_of_main = one fault.NoMain broken

pub ruleset first_fault_cases = (first_of_append, first_of_nothing, first_of_unknown, first_of_twice, first_of_wrong, first_of_nested, first_of_main)
