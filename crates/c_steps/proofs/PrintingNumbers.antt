-- The next number of a `printf`.
use Rattle.std.specs.Prelude.{◌≡◌, ℕ, ◌+◌, List, [], ◌∷◌, Some, None, Result, Ok, Err, ℤ, refl, MatchOption}
use Rattle.std.specs.Result.{result_ok}
use Rattle.std.proofs.Common.{ap, sym, subst, ◌∙◌}
use Rattle.c_syntax.specs.language.Tree.{Tree, child_of}
use Rattle.c_syntax.specs.language.Numbered.{tree_at}
use Rattle.c_model.specs.Value.{value, value_before}
use Rattle.c_steps.specs.Arguments.{HaveValues, numbers_behind, results_behind, values_in, without_values}
use Rattle.c_steps.specs.Scopes.{scope_of}
use Rattle.c_steps.specs.declared.scope.Scope.{Scope as Here}
use Rattle.c_steps.proofs.ValuesAll.{all_with, all_without}

pub no_number : (here : Here) (node place : ℕ) → None ≡ child_of (tree_at here.tree.now.trees node) place → numbers_behind here node place ≡ []
no_number here node place is = ap values_in (all_without (scope_of here) (tree_at here.tree.now.trees node) place (sym is))

first_value : (first : Result ℤ ℕ) (rest : Result (List ℤ) ℕ) → without_values (value_before first rest) ≡ Ok tt →
    MatchOption (result_ok first) (values_in (value_before first rest) ≡ []) (λ number. values_in (value_before first rest) ≡ number ∷ values_in rest)
first_value (Err trap) rest ok = refl
first_value (Ok number) (Err trap) ok = cc
first_value (Ok number) (Ok numbers) ok = refl

rest_values : (first : Result ℤ ℕ) (rest : Result (List ℤ) ℕ) → without_values (value_before first rest) ≡ Ok tt → without_values rest ≡ Ok tt
rest_values (Err trap) rest ok = cc
rest_values (Ok number) (Err trap) ok = ok
rest_values (Ok number) (Ok numbers) ok = refl

-- there are values with the value of the first
behind_with : (here : Here) (node place : ℕ) (tree : Tree) → Some tree ≡ child_of (tree_at here.tree.now.trees node) place →
    results_behind here node place ≡ value_before (value (scope_of here) tree) (results_behind here node (place + 1))
behind_with here node place tree is = all_with (scope_of here) (tree_at here.tree.now.trees node) place tree (sym is)

pub next_number : (here : Here) (node place : ℕ) (tree : Tree) → Some tree ≡ child_of (tree_at here.tree.now.trees node) place → HaveValues here node place →
    MatchOption (result_ok (value (scope_of here) tree)) (numbers_behind here node place ≡ []) (λ number. numbers_behind here node place ≡ number ∷ numbers_behind here node (place + 1))
next_number here node place tree is have =
    let same = behind_with here node place tree is in
    let P : Result (List ℤ) ℕ → Type 0 = λ results. MatchOption (result_ok (value (scope_of here) tree)) (values_in results ≡ []) (λ number. values_in results ≡ number ∷ numbers_behind here node (place + 1)) in
    subst P (sym same) (first_value (value (scope_of here) tree) (results_behind here node (place + 1)) (ap without_values (sym same) ∙ have.ok))

pub next_values : (here : Here) (node place : ℕ) (tree : Tree) → Some tree ≡ child_of (tree_at here.tree.now.trees node) place → HaveValues here node place →
    HaveValues here node (place + 1)
next_values here node place tree is have =
    let same = behind_with here node place tree is in
    record { ok = rest_values (value (scope_of here) tree) (results_behind here node (place + 1)) (ap without_values (sym same) ∙ have.ok) }

pub ruleset numbers_cases = (no_number, next_number, next_values)
