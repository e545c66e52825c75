-- Codes of trees and of what has trees, by which proofs tell them apart.
use Rattle.std.specs.Prelude.{ℕ, ◌≡◌, List, Option, refl}
use Rattle.std.specs.Coded.{Coded, code_by, coded×, coded_ℕ, coded_list, coded_option}
use Rattle.std.proofs.Common.{ap, subst, sym}
use base.Stored.{Gv, gnil, gcons}
use Rattle.c_tokens.specs.declared.token.Spot.{Spot}
use Rattle.c_syntax.specs.declared.node.NodeKind.{NodeKind}
use Rattle.c_syntax.specs.contracts.node.NodeKind as kind
use Rattle.c_syntax.specs.language.Tree.{Tree, Children}
use Rattle.c_syntax.specs.language.Tree.Tree.{Node}
use Rattle.c_syntax.specs.language.Tree.Children.{Over, Child, Absent}
use Rattle.c_syntax.specs.workings.Derivation.{Opened}
use Rattle.c_syntax.specs.language.Numbered.{TreeView}

abbrev spot_code : Coded Spot
spot_code = code_by (ℕ × ℕ) (coded× coded_ℕ coded_ℕ) (λ spot. (spot.line, spot.column)) (λ p. record { line = p.0; column = p.1 }) (λ _. refl)

-- what a node is beside its children
abbrev Label : Type 0
Label = NodeKind × (Spot × (ℕ × (ℕ × List ℕ)))

abbrev label_code : Coded Label
label_code = coded× kind.the_row.coded (coded× spot_code (coded× coded_ℕ (coded× coded_ℕ (coded_list coded_ℕ))))

abbrev mutual
  tree_value : Tree → Gv
  tree_value (Node kind spot name number text children) = gcons (label_code.code (kind, (spot, (name, (number, text))))) (children_value children)

  children_value : Children → Gv
  children_value Over = gnil
  children_value (Absent rest) = gcons gnil (children_value rest)
  children_value (Child tree rest) = gcons (tree_value tree) (children_value rest)

abbrev IsPair : Gv → Type 0
IsPair (gcons first rest) = Unit {0}
IsPair other = ⊥

abbrev first_of : Gv → Gv
first_of (gcons first rest) = first
first_of other = gnil

abbrev rest_of : Gv → Gv
rest_of (gcons first rest) = rest
rest_of other = gnil

mutual
  pub same_tree : (a b : Tree) → tree_value a ≡ tree_value b → a ≡ b
  same_tree (Node ka sa na ma ta left) (Node kb sb nb mb tb right) same =
      let label = label_code.inj (ka, (sa, (na, (ma, ta)))) (kb, (sb, (nb, (mb, tb)))) (ap first_of same) in
      let children = same_children left right (ap rest_of same) in
      λ i. Node (label i).0 (label i).1.0 (label i).1.1.0 (label i).1.1.1.0 (label i).1.1.1.1 (children i)

  same_children : (a b : Children) → children_value a ≡ children_value b → a ≡ b
  same_children Over Over same = refl
  same_children Over (Absent right) same = absurd (subst IsPair (sym same) tt)
  same_children Over (Child tree right) same = absurd (subst IsPair (sym same) tt)
  same_children (Absent left) Over same = absurd (subst IsPair same tt)
  same_children (Absent left) (Absent right) same = ap Absent (same_children left right (ap rest_of same))
  same_children (Absent left) (Child (Node kind spot name number text children) right) same = absurd (subst IsPair (sym (ap first_of same)) tt)
  same_children (Child tree left) Over same = absurd (subst IsPair same tt)
  same_children (Child (Node kind spot name number text children) left) (Absent right) same = absurd (subst IsPair (ap first_of same) tt)
  same_children (Child one left) (Child other right) same = λ i. Child (same_tree one other (ap first_of same) i) (same_children left right (ap rest_of same) i)

abbrev pub tree_code : Coded Tree
tree_code = record { code = tree_value; inj = same_tree }

abbrev pub trees_code : Coded (List Tree)
trees_code = coded_list tree_code

abbrev pub opened_code : Coded (List Opened)
opened_code =
    coded_list
    (code_by (Spot × (ℕ × (ℕ × (List ℕ × List (Option Tree)))))
    (coded× spot_code (coded× coded_ℕ (coded× coded_ℕ (coded× (coded_list coded_ℕ) (coded_list (coded_option tree_code))))))
    (λ node. (node.spot, (node.name, (node.number, (node.text, node.children)))))
    (λ p. record { spot = p.0; name = p.1.0; number = p.1.1.0; text = p.1.1.1.0; children = p.1.1.1.1 })
    (λ _. refl))

abbrev pub tree_view_code : Coded TreeView
tree_view_code =
    code_by (List Tree × (ℕ × (Spot × ℕ))) (coded× trees_code (coded× coded_ℕ (coded× spot_code coded_ℕ)))
    (λ tree. (tree.trees, (tree.root, (tree.end, tree.main))))
    (λ p. record { trees = p.0; root = p.1.0; end = p.1.1.0; main = p.1.1.1 })
    (λ _. refl)
