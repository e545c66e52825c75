-- The numbers of places.
use Rattle.std.specs.Prelude.{ℕ, ◌+◌, if◌then◌else◌, List, [], ◌∷◌, map, Option, Some, None}
use Rattle.c_tokens.specs.declared.token.Spot.{Spot}
use Rattle.c_check.specs.Constructs.{EndedConstruct}
use Rattle.c_check.specs.Pairs.{same_pair}

-- the number of the first of some places that has this line and this column, where they have the numbers from this one on
unfoldable pub number_of_place : ℕ → List Spot → ℕ × ℕ → Option ℕ
number_of_place next [] place = None
number_of_place next (first ∷ spots) place = if same_pair (first.line, first.column) place then Some next else number_of_place (next + 1) spots place

abbrev pub spots_of : List EndedConstruct → List Spot
spots_of ended = map (λ (it : EndedConstruct). it.construct.head.spot) ended
