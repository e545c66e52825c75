-- The parts of a tree from a place on.
use Rattle.std.proofs.Common.{◌≡◌, ℕ, ◌+◌, [], ◌∷◌, Some, None, inl, inr, refl, ap, get_or}
use Rattle.std.proofs.lemmas.Bool.{cases_Bool}
use Rattle.c_syntax.specs.language.Tree.{Tree, Children, child_of, children_of, kind_of, nothing}
use Rattle.c_syntax.specs.language.Tree.Children.{Over, Child, Absent}
use Rattle.c_check.proofs.Behind.{behind_child, behind_none}
use Rattle.c_model.specs.Parts.{trees_in}
use Rattle.c_model.specs.Clauses.{statements_among}
use Rattle.c_check.specs.Statements.{is_head, statement_of}
use Rattle.c_check.specs.Tasks.{from_place}
use Rattle.c_steps.specs.Rests.{parts_from, statements_from}

pub part_here : (tree : Tree) (place : ℕ) (child : Tree) → Some child ≡ child_of tree place → parts_from tree place ≡ child ∷ parts_from tree (place + 1)
unfolding trees_in
part_here tree place child at = ap trees_in (behind_child (children_of tree) place (place + 1) child at refl)

pub part_none : (tree : Tree) (place : ℕ) → None ≡ child_of tree place → parts_from tree place ≡ []
unfolding trees_in
part_none tree place at = behind_none trees_in [] refl (λ rest. refl) (children_of tree) place at

pub part_missing : (place : ℕ) → parts_from nothing place ≡ []
part_missing place = part_none nothing place refl

statement_in : (children : Children) → statement_of children ≡ get_or (statements_among (trees_in children)) 0 nothing
unfolding trees_in statements_among statement_of
statement_in Over = refl
statement_in (Absent rest) = refl
statement_in (Child tree rest) =
    elim (cases_Bool (is_head (kind_of tree))) [
      | inl head ↦ rw head (statement_in rest)
      | inr other ↦ rw other refl
    ]

-- the statement of a construct is the first part behind its clauses
pub statement_first : (construct : Tree) → statement_of (children_of construct) ≡ get_or (statements_from construct 0) 0 nothing
unfolding from_place
statement_first construct = statement_in (children_of construct)

pub ruleset rest_parts_cases = (part_here, part_none, part_missing)
