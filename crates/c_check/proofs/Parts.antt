-- What a node with named parts tells, by the children at their places.
use Rattle.std.proofs.Common.{◌≡◌, ℕ, Bool, true, false, if◌then◌else◌, List, [], ◌∷◌, ◌++◌, Option, Some, None, refl, sym, ap, append-nil, append_assoc}
use Rattle.c_syntax.specs.declared.node.Directive.{Directive}
use Rattle.c_syntax.specs.declared.node.Returns.{Returns}
use Rattle.c_syntax.specs.language.Tree.{Tree, Children, at_place, children_of, name_of, spot_of}
use Rattle.c_syntax.specs.language.Tree.Tree.{Node}
use Rattle.c_syntax.specs.language.Tree.Children.{Over, Child, Absent}
use Rattle.c_check.specs.declared.acts.act.Act.{Act}
use Rattle.c_check.specs.declared.acts.act.Act.TheVariants.{Begin, Declare, End}
use Rattle.c_check.specs.declared.acts.act.Thing.TheVariants as thing
use Rattle.c_check.specs.declared.acts.role.Role.{Role}
use Rattle.c_check.specs.declared.acts.role.Role.TheVariants as role
use Rattle.c_check.specs.declared.acts.role.Naming.TheVariants as naming
use Rattle.c_check.specs.Acts.{acts, each, first_part, function, init, second_part, target, third_part}
use Rattle.c_check.specs.NameLists.{child_count, names}
use Rattle.c_check.specs.Statements.{role_with, shares_loop, statement_of, statement_role}
use Rattle.c_check.specs.Loops.{loop_name}
use Rattle.c_check.specs.Tasks.{from_place}
use Rattle.c_check.specs.Steps.{part_of}

pub target_none : (around : Role) (children : Children) → None ≡ at_place children 0 → target around children ≡ []
unfolding acts
target_none around Over at = refl
target_none around (Absent rest) at = refl
target_none around (Child tree rest) at = absurd (cc)

pub target_child : (around : Role) (children : Children) (tree : Tree) → Some tree ≡ at_place children 0 → target around children ≡ acts role.Target tree ++ each around (from_place 1 children)
unfolding acts from_place
target_child around Over tree at = absurd (cc)
target_child around (Absent rest) tree at = absurd (cc)
target_child around (Child first rest) tree at = let same : tree ≡ first = cc in rw same refl

pub init_none : (children : Children) → None ≡ at_place children 0 → init children ≡ []
unfolding acts
init_none Over at = refl
init_none (Absent rest) at = refl
init_none (Child tree rest) at = absurd (cc)

pub init_child : (children : Children) (tree : Tree) → Some tree ≡ at_place children 0 → init children ≡ each role.Plain (from_place 1 children) ++ Declare (name_of tree) (spot_of tree) thing.Int ∷ []
unfolding acts from_place
init_child Over tree at = absurd (cc)
init_child (Absent rest) tree at = absurd (cc)
init_child (Child first rest) tree at = let same : tree ≡ first = cc in rw same refl

-- the parts of a `for`, and its body
module _ (mark : List Act) where
  thirds_are : (children : Children) → third_part mark children ≡ part_of (at_place children 0) ++ (mark ++ each role.Plain (from_place 1 children))
  unfolding acts from_place
  thirds_are Over = sym (append-nil mark)
  thirds_are (Absent rest) = refl
  thirds_are (Child tree rest) = refl

  seconds_are : (children : Children) → second_part mark children ≡ part_of (at_place children 0) ++ (part_of (at_place children 1) ++ (mark ++ each role.Plain (from_place 2 children)))
  unfolding acts from_place
  seconds_are Over = sym (append-nil mark)
  seconds_are (Absent rest) = thirds_are rest
  seconds_are (Child tree rest) = ap (λ (told : List Act). acts role.Plain tree ++ told) (thirds_are rest)

  pub parts_are : (children : Children) → first_part mark children ≡ part_of (at_place children 0) ++ (part_of (at_place children 1) ++ (part_of (at_place children 2) ++ (mark ++ each role.Plain (from_place 3 children))))
  unfolding acts from_place
  parts_are Over = sym (append-nil mark)
  parts_are (Absent rest) = seconds_are rest
  parts_are (Child tree rest) = ap (λ (told : List Act). acts role.Plain tree ++ told) (seconds_are rest)

module _ (returns : Returns) where
  pub function_none : (children : Children) → None ≡ at_place children 0 → function returns children ≡ []
  unfolding acts
  function_none Over at = refl
  function_none (Absent rest) at = refl
  function_none (Child tree rest) at = absurd (cc)

  pub function_one : (children : Children) → None ≡ at_place children 1 → function returns children ≡ []
  unfolding acts
  function_one Over at = refl
  function_one (Absent rest) at = refl
  function_one (Child tree Over) at = refl
  function_one (Child tree (Absent rest)) at = refl
  function_one (Child tree (Child other rest)) at = absurd (cc)

  pub function_two : (children : Children) → None ≡ at_place children 2 → function returns children ≡ []
  unfolding acts
  function_two Over at = refl
  function_two (Absent rest) at = refl
  function_two (Child tree Over) at = refl
  function_two (Child tree (Absent rest)) at = refl
  function_two (Child tree (Child (Node kind spot name number text children) Over)) at = refl
  function_two (Child tree (Child (Node kind spot name number text children) (Absent rest))) at = refl
  function_two (Child tree (Child other (Child third rest))) at = absurd (cc)

  pub function_all : (children : Children) (name parameters block : Tree) → Some name ≡ at_place children 0 → Some parameters ≡ at_place children 1 → Some block ≡ at_place children 2 → function returns children ≡ Begin (name_of name) (spot_of name) returns (child_count (children_of parameters)) ∷ (names naming.Parameters (children_of parameters) ++ (each role.Plain (children_of block) ++ End ∷ []))
  unfolding acts
  function_all Over name parameters block first second third = absurd (cc)
  function_all (Absent rest) name parameters block first second third = absurd (cc)
  function_all (Child one Over) name parameters block first second third = absurd (cc)
  function_all (Child one (Absent rest)) name parameters block first second third = absurd (cc)
  function_all (Child one (Child two Over)) name parameters block first second third = absurd (cc)
  function_all (Child one (Child two (Absent rest))) name parameters block first second third = absurd (cc)
  function_all (Child one (Child (Node kind spot other number text inner) (Child (Node sort place another value bytes items) rest))) name parameters block first second third =
      let is-name : name ≡ one = cc in
      let are-parameters : parameters ≡ Node kind spot other number text inner = cc in
      let is-block : block ≡ Node sort place another value bytes items = cc in
      rw (is-name, are-parameters, is-block) (ap (λ (told : List Act). Begin (name_of one) (spot_of one) returns (child_count inner) ∷ told) (append_assoc (names naming.Parameters inner) (each role.Plain items) (End ∷ [])))

-- what a construct does with its loop, by the name of the loop's variable, if it shares out a loop
module _ (which : Directive) (children : Children) (name : Option ℕ) (is : name ≡ (if shares_loop which then loop_name (statement_of children) else None)) where
  pub shared_role : role_with name ≡ statement_role which children
  shared_role = by-test (shares_loop which) (loop_name (statement_of children)) is
    where
      by-test : (test : Bool) (found : Option ℕ) → name ≡ (if test then found else None) → role_with name ≡ (if test then role_with found else role.Plain)
      by-test true found same = ap role_with same
      by-test false found same = ap role_with same
