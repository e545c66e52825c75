-- How constructs are kept: by numbers.
use Rattle.std.specs.Prelude.{◌≡◌, ℕ, ◌<◌, List, [], ◌∷◌, length, map, reverse, slice_index_or}
use Rattle.c_tokens.specs.declared.token.Spot.{Spot}
use Rattle.c_tokens.specs.language.Faults.{nowhere}
use Rattle.c_syntax.specs.declared.node.Directive.TheVariants as directive
use Rattle.c_check.specs.declared.constructs.parts.EndedNumber.{EndedNumber}
use Rattle.c_check.specs.Constructs.{Construct, EndedConstruct, begun_construct}
use Rattle.c_check.specs.Spots.{spots_of}

-- a construct that isn't there
abbrev pub no_construct : Construct
no_construct = begun_construct nowhere directive.Parallel 0 0

-- the constructs with some numbers
abbrev pub numbered : List Construct → List ℕ → List Construct
numbered all numbers = map (λ (number : ℕ). slice_index_or all number no_construct) numbers

abbrev pub ended_with : List Construct → EndedNumber → EndedConstruct
ended_with all it = record { construct = slice_index_or all it.construct no_construct; outer = numbered all (reverse it.outer.items) }

abbrev pub ended_in : List Construct → List EndedNumber → List EndedConstruct
ended_in all ended = map (ended_with all) ended

-- some numbers are below a count
unfoldable pub AreBelow : ℕ → List ℕ → Type 0
AreBelow count [] = Unit {0}
AreBelow count (first ∷ numbers) = (first < count) × AreBelow count numbers

-- those of the constructs that have ended are
unfoldable pub HaveBelow : ℕ → List EndedNumber → Type 0
HaveBelow count [] = Unit {0}
HaveBelow count (first ∷ others) = (first.construct < count) × AreBelow count (reverse first.outer.items) × HaveBelow count others

-- the constructs that are kept, with where those stand that have ended, and the numbers of those that are open
pub record AreKept (all : List Construct) (around : List ℕ) (ended : List EndedNumber) (spots : List Spot) : Type 0 where
  pub open_below : AreBelow (length all) around
  pub ended_below : HaveBelow (length all) ended
  pub stand : spots ≡ spots_of (ended_in all ended)
