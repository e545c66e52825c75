-- The numbers of places, as they are kept.
use Rattle.std.proofs.Common.{◌≡◌, ℕ, suc, ◌+◌, ◌<◌, true, false, cond, List, [], ◌∷◌, ◌++◌, length, get_or, Some, None, refl, sym, ap, arith}
use Rattle.std.specs.Option.{option_or}
use Rattle.std.proofs.lemmas.Option.{same_Some}
use Rattle.c_tokens.specs.declared.token.Spot.{Spot}
use Rattle.c_check.specs.Seen.{construct_at}
use Rattle.c_check.specs.Constructs.{EndedConstruct}
use Rattle.c_check.specs.Pairs.{same_pair}
use Rattle.c_check.specs.Spots.{number_of_place, spots_of}

-- with one more
pub number_from-more : (next : ℕ) (spots : List Spot) (spot : Spot) (number : ℕ) (place : ℕ × ℕ) → number ≡ next + length spots
    → number_of_place next (spots ++ spot ∷ []) place ≡ option_or (number_of_place next spots place) (cond (same_pair (spot.line, spot.column) place) (Some number) None)
unfolding number_of_place
number_from-more next [] spot number place is =
    let same : next ≡ number = omega arith in
    ap (λ (it : ℕ). cond (same_pair (spot.line, spot.column) place) (Some it) None) same
number_from-more next (first ∷ spots) spot number place is =
    elim (same_pair (first.line, first.column) place) as (λ here. cond here (Some next) (number_of_place (next + 1) (spots ++ spot ∷ []) place) ≡ option_or (cond here (Some next) (number_of_place (next + 1) spots place)) (cond (same_pair (spot.line, spot.column) place) (Some number) None)) [
      | true ↦ refl
      | false ↦ number_from-more (next + 1) spots spot number place (omega arith)
    ]

module _ (spot : Spot) where
  at_number : (next : ℕ) (all : List EndedConstruct) (number : ℕ) → number_of_place next (spots_of all) (spot.line, spot.column) ≡ Some number
      → (index : ℕ) × (number ≡ next + index) × (index < length all) × ((other : EndedConstruct) → construct_at all spot ≡ Some (get_or all index other))
  unfolding number_of_place construct_at
  at_number next [] number is = absurd cc
  at_number next (first ∷ all) number is =
      (elim (same_pair (first.construct.head.spot.line, first.construct.head.spot.column) (spot.line, spot.column)) as (λ here. cond here (Some next) (number_of_place (next + 1) (spots_of all) (spot.line, spot.column)) ≡ Some number
      → (index : ℕ) × (number ≡ next + index) × (index < length (first ∷ all)) × ((other : EndedConstruct) → cond here (Some first) (construct_at all spot) ≡ Some (get_or (first ∷ all) index other))) [
        | true ↦ λ found. (0, omega (arith, same_Some next number found), omega arith, λ other. refl)
        | false ↦ λ found. let at = at_number (next + 1) all number found in (suc at.0, omega (arith, at.1), omega (arith, at.2), at.3)
      ]) is

  at_no_number : (next : ℕ) (all : List EndedConstruct) → number_of_place next (spots_of all) (spot.line, spot.column) ≡ None → construct_at all spot ≡ None
  unfolding number_of_place construct_at
  at_no_number next [] is = refl
  at_no_number next (first ∷ all) is =
      (elim (same_pair (first.construct.head.spot.line, first.construct.head.spot.column) (spot.line, spot.column)) as (λ here. cond here (Some next) (number_of_place (next + 1) (spots_of all) (spot.line, spot.column)) ≡ None → cond here (Some first) (construct_at all spot) ≡ None) [
        | true ↦ λ none. absurd cc
        | false ↦ at_no_number (next + 1) all
      ]) is

module _ (all : List EndedConstruct) (spots : List Spot) (spot : Spot) (stand : spots ≡ spots_of all) where
  -- the construct with the number of a place stands there
  pub found_at : (number : ℕ) → Some number ≡ number_of_place 0 spots (spot.line, spot.column) → (number < length all) × ((other : EndedConstruct) → construct_at all spot ≡ Some (get_or all number other))
  found_at number is =
      let at = at_number spot 0 all number (sym (rw stand at is)) in
      let same : at.0 ≡ number = omega (arith, at.1) in
      rw (← same) (at.2, at.3)

  pub none_at : None ≡ number_of_place 0 spots (spot.line, spot.column) → construct_at all spot ≡ None
  none_at is = at_no_number spot 0 all (sym (rw stand at is))
