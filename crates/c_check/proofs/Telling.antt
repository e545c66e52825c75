-- What children tell from a place on, one after another.
use Rattle.std.proofs.Common.{◌≡◌, ℕ, ◌+◌, List, [], ◌∷◌, ◌++◌, Option, Some, None, true, false, refl, ap, ◌∙◌}
use Rattle.c_syntax.specs.declared.node.NodeKind.TheVariants as node
use Rattle.c_syntax.specs.language.Tree.{Tree, Children, at_place, children_of, kind_of}
use Rattle.c_syntax.specs.language.Tree.Tree.{Node}
use Rattle.c_syntax.specs.language.Tree.Children.{Over, Child, Absent}
use Rattle.c_check.specs.declared.acts.act.Act.{Act}
use Rattle.c_check.specs.declared.acts.role.Role.{Role}
use Rattle.c_check.specs.declared.acts.role.Naming.{Naming}
use Rattle.c_check.specs.Acts.{acts, clause_outside, each, outside_acts, statements}
use Rattle.c_check.specs.Clauses.{clause_inside, first_inside, inside_acts}
use Rattle.c_check.specs.NameLists.{named, names}
use Rattle.c_check.specs.Statements.{is_head}
use Rattle.c_check.specs.Tasks.{from_place}
use Rattle.c_check.specs.Steps.{clause_in, outside_by}
use Rattle.c_check.proofs.Behind.{behind_child, behind_none}

-- what stands outside, and inside, of what a clause is
abbrev pub told_outside : Option Tree → List Act
told_outside None = []
told_outside (Some tree) = outside_by (kind_of tree) (children_of tree)

abbrev pub told_inside : Option Tree → List Act
told_inside None = []
told_inside (Some tree) = clause_inside (kind_of tree) (children_of tree)

module _ (children : Children) (place : ℕ) (at : None ≡ at_place children place) where
  pub each_none : (around : Role) → each around (from_place place children) ≡ []
  unfolding acts
  each_none around = behind_none (each around) [] refl (λ rest. refl) children place at

  pub names_none : (why : Naming) → names why (from_place place children) ≡ []
  unfolding names
  names_none why = behind_none (names why) [] refl (λ rest. refl) children place at

  pub outside_none : outside_acts (from_place place children) ≡ []
  unfolding acts
  outside_none = behind_none outside_acts [] refl (λ rest. refl) children place at

  pub inside_none : inside_acts (from_place place children) ≡ []
  unfolding inside_acts
  inside_none = behind_none inside_acts [] refl (λ rest. refl) children place at

  pub statements_none : (around : Role) → statements around (from_place place children) ≡ []
  unfolding acts
  statements_none around = behind_none (statements around) [] refl (λ rest. refl) children place at

module _ (children : Children) (place next : ℕ) (tree : Tree) (at : Some tree ≡ at_place children place) (after : next ≡ place + 1) where
  pub each_child : (around : Role) → each around (from_place place children) ≡ acts around tree ++ each around (from_place next children)
  unfolding acts
  each_child around = ap (each around) (behind_child children place next tree at after)

  pub names_child : (why : Naming) → names why (from_place place children) ≡ named why tree ∷ names why (from_place next children)
  unfolding names
  names_child why = ap (names why) (behind_child children place next tree at after)

  pub outside_child : outside_acts (from_place place children) ≡ told_outside (clause_in tree) ++ outside_acts (from_place next children)
  unfolding acts
  outside_child = ap outside_acts (behind_child children place next tree at after) ∙ first tree (from_place next children)
    where
      by-clause : (inner : Children) → clause_outside inner ≡ told_outside (at_place inner 0)
      by-clause Over = refl
      by-clause (Absent rest) = refl
      by-clause (Child (Node node.NumThreads spot name number text children) rest) = refl
      by-clause (Child (Node node.IfClause spot name number text children) rest) = refl
      by-clause (Child (Node (node.Data which) spot name number text children) rest) = refl
      by-clause (Child (Node (node.Reduction operator) spot name number text children) rest) = refl
      by-clause (Child (Node other spot name number text children) rest) = refl

      first : (tree : Tree) (rest : Children) → outside_acts (Child tree rest) ≡ told_outside (clause_in tree) ++ outside_acts rest
      first (Node (node.Clause lead) spot name number text children) rest = ap (λ told. told ++ outside_acts rest) (by-clause children)
      first (Node other spot name number text children) rest = refl

  pub inside_child : inside_acts (from_place place children) ≡ told_inside (clause_in tree) ++ inside_acts (from_place next children)
  unfolding inside_acts
  inside_child = ap inside_acts (behind_child children place next tree at after) ∙ first tree (from_place next children)
    where
      by-clause : (inner : Children) → first_inside inner ≡ told_inside (at_place inner 0)
      by-clause Over = refl
      by-clause (Absent rest) = refl
      by-clause (Child (Node kind spot name number text children) rest) = refl

      first : (tree : Tree) (rest : Children) → inside_acts (Child tree rest) ≡ told_inside (clause_in tree) ++ inside_acts rest
      first (Node (node.Clause lead) spot name number text children) rest = ap (λ told. told ++ inside_acts rest) (by-clause children)
      first (Node other spot name number text children) rest = refl

  pub statements_head : (around : Role) → is_head (kind_of tree) ≡ true → statements around (from_place place children) ≡ statements around (from_place next children)
  unfolding acts
  statements_head around head = ap (statements around) (behind_child children place next tree at after) ∙ rw head refl

  pub statements_child : (around : Role) → is_head (kind_of tree) ≡ false → statements around (from_place place children) ≡ acts around tree ++ statements around (from_place next children)
  unfolding acts
  statements_child around head = ap (statements around) (behind_child children place next tree at after) ∙ rw head refl
