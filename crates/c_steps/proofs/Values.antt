-- The number of a node by those of its first two children, and the cell of a place by that of its index.
use Rattle.std.specs.Prelude.{◌≡◌, ℕ, zero, suc, if◌then◌else◌, Option, Some, None, is_some, unwrap_or, Result, ℤ, refl}
use Rattle.std.specs.Option.{option_map}
use Rattle.std.proofs.Common.{ap, ◌∙◌}
use Rattle.c_syntax.specs.language.Tree.{Tree, Children, at_place, child_of, kind_of, name_of, number_of, nothing}
use Rattle.c_syntax.specs.language.Tree.Tree.{Node}
use Rattle.c_syntax.specs.language.Tree.Children.{Over, Child, Absent}
use Rattle.c_model.specs.Cells.{entry_of}
use Rattle.c_model.specs.Value.{Scope, cell_of, node_value, place_cell, value, value_at, values}

pub values_at : (scope : Scope) (children : Children) (place : ℕ) →
    value_at (values scope children) place ≡ option_map (value scope) (at_place children place)
unfolding value values
values_at scope Over place = refl
values_at scope (Child tree rest) zero = refl
values_at scope (Absent rest) zero = refl
values_at scope (Child tree rest) (suc place) = values_at scope rest place
values_at scope (Absent rest) (suc place) = values_at scope rest place

pub value_is : (scope : Scope) (tree : Tree) →
    value scope tree ≡ node_value scope (kind_of tree) (name_of tree) (number_of tree) (option_map (value scope) (child_of tree 0)) (option_map (value scope) (child_of tree 1))
unfolding value values
value_is scope (Node kind spot name number text children) =
    ap (λ (first : Option (Result ℤ ℕ)). node_value scope kind name number first (value_at (values scope children) 1)) (values_at scope children 0)
    ∙ ap (λ (second : Option (Result ℤ ℕ)). node_value scope kind name number (option_map (value scope) (at_place children 0)) second) (values_at scope children 1)

given : (f : Tree → Result ℤ ℕ) (tree : Option Tree) →
    (if is_some tree then Some (f (unwrap_or tree nothing)) else None) ≡ option_map f tree
given f None = refl
given f (Some tree) = refl

pub cell_is : (scope : Scope) (place : Tree) →
    cell_of scope place ≡ place_cell (entry_of scope.env (name_of place)) (option_map (value scope) (child_of place 0))
cell_is scope place = ap (place_cell (entry_of scope.env (name_of place))) (given (value scope) (child_of place 0))
