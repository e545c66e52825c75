-- What the sections of a construct execute.
use Rattle.std.proofs.Common.{◌≡◌, ℕ, zero, suc, List, [], ◌∷◌, refl}
use Rattle.std.specs.Prelude.{map, slice_index_or}
use Rattle.c_syntax.specs.language.Tree.{Tree, kind_of, nothing}
use Rattle.c_model.specs.Clauses.{section_statement}

-- what a section executes is the statement of its part
pub nth_section : (trees : List Tree) (number : ℕ) →
    slice_index_or (map (λ (tree : Tree). section_statement (kind_of tree) tree) trees) number nothing
    ≡ section_statement (kind_of (slice_index_or trees number nothing)) (slice_index_or trees number nothing)
nth_section [] number = refl
nth_section (tree ∷ trees) zero = refl
nth_section (tree ∷ trees) (suc number) = nth_section trees number
