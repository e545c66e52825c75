-- The arguments of a call from a place on, and the function that it enters.
use Rattle.std.specs.Prelude.{◌≡◌, ℕ, ◌+◌, List, [], ◌∷◌, Result, Ok, Err, ℤ, pos, refl}
use Rattle.std.proofs.Common.{ap, sym, ◌∙◌, rules}
use Rattle.c_syntax.specs.language.Tree.{Tree}
use Rattle.c_model.specs.Calls.{behind_first, first_or_zero}
use Rattle.c_model.specs.Value.{Scope, all_values, value, value_before}
use Rattle.c_steps.specs.Arguments.{values_in, without_values}
use Rattle.c_steps.specs.Entering.{HaveNoTrap, IsNextArgument, arguments_from}
use Rattle.c_steps.specs.Rests.{parts_from}

-- the first of some results, and the others, where none is a trap
record IsSplit (first : ℤ) (all others : Result (List ℤ) ℕ) : Type 0 where
  number : first ≡ first_or_zero (values_in all)
  rest : values_in others ≡ behind_first (values_in all)
  ok : without_values others ≡ Ok tt

split : (number : ℤ) (first : Result ℤ ℕ) (others : Result (List ℤ) ℕ) → Ok number ≡ first → without_values (value_before first others) ≡ Ok tt → IsSplit number (value_before first others) others
split number (Err trap) others is ok = absurd (search rules)
split number (Ok other) (Err trap) is ok = absurd (search rules)
split number (Ok other) (Ok numbers) is ok = record { number = search rules; rest = refl; ok = refl }

trapped : (trap : ℕ) (first : Result ℤ ℕ) (others : Result (List ℤ) ℕ) → Err trap ≡ first → without_values (value_before first others) ≡ Ok tt → ⊥
trapped trap (Err other) others is ok = search rules
trapped trap (Ok number) others is ok = search rules

module _ (scope : Scope) (call : Tree) (place : ℕ) where
  from_here : (child : Tree) → parts_from call place ≡ child ∷ parts_from call (place + 1) → arguments_from scope call place ≡ value_before (value scope child) (arguments_from scope call (place + 1))
  unfolding all_values
  from_here child here = ap (all_values scope) here

  -- an argument that is there
  pub argument_here : (child : Tree) (number : ℤ) → parts_from call place ≡ child ∷ parts_from call (place + 1) → Ok number ≡ value scope child → HaveNoTrap scope call place → IsNextArgument scope call place (record { number = number; next = place + 1 })
  argument_here child number here is have =
      let first = from_here child here in
      let them = split number (value scope child) (arguments_from scope call (place + 1)) is (sym (ap without_values first) ∙ have.ok) in
      record {
        number = them.number ∙ ap (λ all. first_or_zero (values_in all)) (sym first);
        rest = them.rest ∙ ap (λ all. behind_first (values_in all)) (sym first);
        are = record { ok = them.ok };
      }

  -- it has no trap
  pub argument_trap : (child : Tree) (trap : ℕ) → parts_from call place ≡ child ∷ parts_from call (place + 1) → Err trap ≡ value scope child → HaveNoTrap scope call place → ⊥
  argument_trap child trap here is have = trapped trap (value scope child) (arguments_from scope call (place + 1)) is (sym (ap without_values (from_here child here)) ∙ have.ok)

  -- none is left
  pub argument_none : parts_from call place ≡ [] → IsNextArgument scope call place (record { number = pos 0; next = place })
  unfolding all_values
  argument_none none =
      let over : arguments_from scope call place ≡ Ok [] = ap (all_values scope) none in
      record {
        number = ap (λ all. first_or_zero (values_in all)) (sym over);
        rest = ap values_in over ∙ ap (λ all. behind_first (values_in all)) (sym over);
        are = record { ok = ap without_values over };
      }
