-- The values of the children of a node from a place on.
use Rattle.std.specs.Prelude.{◌≡◌, ℕ, zero, suc, ◌+◌, List, [], ◌∷◌, Some, None, Result, Ok, Err, ℤ, refl}
use Rattle.std.proofs.Common.{ap, sym, ◌∙◌, add-one}
use Rattle.c_syntax.specs.language.Tree.{Tree, Children, at_place, child_of, children_of}
use Rattle.c_syntax.specs.language.Tree.Children.{Over, Child, Absent}
use Rattle.c_model.specs.Parts.{trees_in}
use Rattle.c_model.specs.Value.{Scope, all_values, value, value_before}
use Rattle.c_steps.specs.Arguments.{children_behind, parts_behind, values_in, without_values}

parts_with : (children : Children) (place : ℕ) (tree : Tree) → at_place children place ≡ Some tree →
    trees_in (children_behind place children) ≡ tree ∷ trees_in (children_behind (suc place) children)
unfolding trees_in
parts_with Over place tree is = cc
parts_with (Child first rest) zero tree is = cc
parts_with (Absent rest) zero tree is = cc
parts_with (Child first rest) (suc place) tree is = parts_with rest place tree is
parts_with (Absent rest) (suc place) tree is = parts_with rest place tree is

parts_without : (children : Children) (place : ℕ) → at_place children place ≡ None →
    trees_in (children_behind place children) ≡ []
unfolding trees_in
parts_without Over zero is = refl
parts_without Over (suc place) is = refl
parts_without (Child first rest) zero is = cc
parts_without (Absent rest) zero is = refl
parts_without (Child first rest) (suc place) is = parts_without rest place is
parts_without (Absent rest) (suc place) is = parts_without rest place is

-- a child that is there has the next value, or the next trap
pub all_with : (scope : Scope) (node : Tree) (place : ℕ) (tree : Tree) → child_of node place ≡ Some tree →
    all_values scope (parts_behind place node) ≡ value_before (value scope tree) (all_values scope (parts_behind (place + 1) node))
unfolding all_values
all_with scope node place tree is = rw add-one (ap (all_values scope) (parts_with (children_of node) place tree is))

-- one that is absent ends them
pub all_without : (scope : Scope) (node : Tree) (place : ℕ) → child_of node place ≡ None → all_values scope (parts_behind place node) ≡ Ok []
unfolding all_values
all_without scope node place is = ap (all_values scope) (parts_without (children_of node) place is)

first_trap : (trap : ℕ) (first : Result ℤ ℕ) (rest : Result (List ℤ) ℕ) → Err trap ≡ first → without_values (value_before first rest) ≡ Err trap
first_trap trap (Err other) rest is = cc
first_trap trap (Ok number) rest is = cc

next_trap : (number : ℤ) (first : Result ℤ ℕ) (rest : Result (List ℤ) ℕ) → Ok number ≡ first → without_values (value_before first rest) ≡ without_values rest
next_trap number (Err trap) rest is = cc
next_trap number (Ok other) (Err trap) is = refl
next_trap number (Ok other) (Ok numbers) is = refl

pub all_trap : (scope : Scope) (node : Tree) (place : ℕ) (tree : Tree) (trap : ℕ) → Some tree ≡ child_of node place → Err trap ≡ value scope tree →
    Err trap ≡ without_values (all_values scope (parts_behind place node))
all_trap scope node place tree trap is traps = sym (ap without_values (all_with scope node place tree (sym is)) ∙ first_trap trap (value scope tree) _ traps)

pub all_next : (scope : Scope) (node : Tree) (place : ℕ) (tree : Tree) (number : ℤ) → Some tree ≡ child_of node place → Ok number ≡ value scope tree →
    without_values (all_values scope (parts_behind place node)) ≡ without_values (all_values scope (parts_behind (place + 1) node))
all_next scope node place tree number is has = ap without_values (all_with scope node place tree (sym is)) ∙ next_trap number (value scope tree) _ has

pub trap_values : (trap : ℕ) (results : Result (List ℤ) ℕ) → Err trap ≡ without_values results → results ≡ Err trap
trap_values trap (Err other) is = cc
trap_values trap (Ok numbers) is = cc

pub ok_values : (results : Result (List ℤ) ℕ) → Ok tt ≡ without_values results → results ≡ Ok (values_in results)
ok_values (Err trap) is = cc
ok_values (Ok numbers) is = refl

pub ruleset all_cases = (all_trap, all_next, all_without)
