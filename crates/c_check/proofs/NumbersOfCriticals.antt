-- The names of criticals, and one more.
use Rattle.std.proofs.Common.{◌≡◌, ℕ, ◌+◌, Bool, true, false, cond, ◌||◌, List, [], ◌∷◌, ◌++◌, length, Option, Some, None, refl, ap, ◌∙◌, nat_eq, arith}
use Rattle.std.specs.Option.{is_some, option_map, option_or}
use Rattle.c_check.specs.Once.{is_among}
use Rattle.c_check.specs.Seen.{number_among}

some_next : (number : Option ℕ) → is_some (option_map (λ it. it + 1) number) ≡ is_some number
some_next None = refl
some_next (Some number) = refl

pub among-some : (names : List ℕ) (name : ℕ) → is_some (number_among names name) ≡ is_among names name
unfolding is_among number_among
among-some [] name = refl
among-some (first ∷ names) name =
    elim (nat_eq first name) as (λ here. is_some (cond here (Some 1) (option_map (λ it. it + 1) (number_among names name))) ≡ (here || is_among names name)) [
      | true ↦ refl
      | false ↦ some_next (number_among names name) ∙ among-some names name
    ]

next_or : (number other : Option ℕ) → option_map (λ it. it + 1) (option_or number other) ≡ option_or (option_map (λ it. it + 1) number) (option_map (λ it. it + 1) other)
next_or None other = refl
next_or (Some number) other = refl

-- with one more
pub number_among-more : (names : List ℕ) (one number : ℕ) (name : ℕ) → number ≡ length names + 1 → number_among (names ++ one ∷ []) name ≡ option_or (number_among names name) (cond (nat_eq one name) (Some number) None)
unfolding number_among
number_among-more [] one number name is = rw is refl
number_among-more (first ∷ names) one number name is =
    elim (nat_eq first name) as (λ here. cond here (Some 1) (option_map (λ it. it + 1) (number_among (names ++ one ∷ []) name)) ≡ option_or (cond here (Some 1) (option_map (λ it. it + 1) (number_among names name))) (cond (nat_eq one name) (Some number) None)) [
      | true ↦ refl
      | false ↦
          ap (option_map (λ it. it + 1)) (number_among-more names one (length names + 1) name refl)
          ∙ next_or (number_among names name) (cond (nat_eq one name) (Some (length names + 1)) None)
          ∙ ap (option_or (option_map (λ it. it + 1) (number_among names name))) (last (nat_eq one name))
    ]
  where
    last : (here : Bool) → option_map (λ it. it + 1) (cond here (Some (length names + 1)) None) ≡ cond here (Some number) None
    last true = ap Some (omega (arith, is))
    last false = refl
