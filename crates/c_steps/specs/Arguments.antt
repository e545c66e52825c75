-- The children of a node from a place on, and their values.
use Rattle.std.specs.Prelude.{◌≡◌, ℕ, zero, suc, List, [], Result, Ok, Err, ℤ}
use Rattle.c_syntax.specs.language.Tree.{Tree, Children, children_of}
use Rattle.c_syntax.specs.language.Tree.Children.{Over, Child, Absent}
use Rattle.c_syntax.specs.language.Numbered.{tree_at}
use Rattle.c_model.specs.Parts.{trees_in}
use Rattle.c_model.specs.Value.{all_values}
use Rattle.c_steps.specs.Scopes.{scope_of}
use Rattle.c_steps.specs.declared.scope.Scope.{Scope as Here}

abbrev pub children_behind : ℕ → Children → Children
children_behind zero children = children
children_behind (suc place) Over = Over
children_behind (suc place) (Child tree rest) = children_behind place rest
children_behind (suc place) (Absent rest) = children_behind place rest

-- those up to the first absent one
abbrev pub parts_behind : ℕ → Tree → List Tree
parts_behind place node = trees_in (children_behind place (children_of node))

-- whether there are values, or the trap
abbrev pub without_values : Result (List ℤ) ℕ → Result (Unit {0}) ℕ
without_values (Ok numbers) = Ok tt
without_values (Err trap) = Err trap

-- the values, if there is no trap
abbrev pub values_in : Result (List ℤ) ℕ → List ℤ
values_in (Ok numbers) = numbers
values_in (Err trap) = []

abbrev pub results_behind : Here → ℕ → ℕ → Result (List ℤ) ℕ
results_behind here node place = all_values (scope_of here) (parts_behind place (tree_at here.tree.now.trees node))

abbrev pub numbers_behind : Here → ℕ → ℕ → List ℤ
numbers_behind here node place = values_in (results_behind here node place)

-- none of them has a trap
pub record HaveValues (here : Here) (node place : ℕ) : Type 0 where
  pub ok : without_values (results_behind here node place) ≡ Ok tt
