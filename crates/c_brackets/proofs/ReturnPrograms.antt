-- In a program that breaks no rule each function has its returns outside of constructs.
use Rattle.std.specs.Prelude.{ℕ, ◌≡◌, if◌then◌else◌, Bool, true, false, IsTrue, List, [], ◌∷◌, ◌++◌, refl}
use Rattle.std.specs.List.{All}
use Rattle.std.proofs.Common.{subst}
use Rattle.std.proofs.lemmas.List.Elements.{All-cons, All-head, All-nil, All-tail}
use Rattle.c_tokens.specs.declared.token.Spot.{Spot}
use Rattle.c_syntax.specs.declared.node.Directive.{Directive}
use Rattle.c_syntax.specs.declared.node.Returns.{Returns}
use Rattle.c_syntax.specs.declared.node.NodeKind.{NodeKind}
use Rattle.c_syntax.specs.declared.node.NodeKind.TheVariants as node
use Rattle.c_syntax.specs.language.Tree.{Tree, Children, kind_of}
use Rattle.c_syntax.specs.language.Tree.Tree.{Node}
use Rattle.c_syntax.specs.language.Tree.Children.{Over, Child, Absent}
use Rattle.c_syntax.specs.language.Numbered.{TreeView, root_tree}
use Rattle.c_check.specs.declared.acts.act.Act.{Act}
use Rattle.c_check.specs.declared.acts.act.Act.TheVariants.{End, Finish}
use Rattle.c_check.specs.declared.acts.role.Role.TheVariants as role
use Rattle.c_check.specs.declared.acts.role.Naming.TheVariants as naming
use Rattle.c_check.specs.Acts.{acts, each, function}
use Rattle.c_check.specs.Checked.{Checked}
use Rattle.c_check.specs.NameLists.{names}
use Rattle.c_model.specs.Formed.{AreFormed, AreInRow, HasChild, IsFormed, IsOver, IsProgramFormed, is_block, is_file_part, is_params, is_part}
use Rattle.c_model.specs.Loops.{is_declared}
use Rattle.c_model.specs.Parts.{parts, trees_in}
use Rattle.c_model.specs.Program.{body_of, function_among, is_function, is_function_named}
use Rattle.c_brackets.specs.Returns.{HasReturnsOutside, ReturnsOutside, ReturnOutsideEach}
use Rattle.c_brackets.proofs.OpenLists.{never}
use Rattle.c_brackets.proofs.OutsideActs.{Outside, around_all, checked_is_outside, outside_both}
use Rattle.c_brackets.proofs.ReturnWalk.{before_walked, behind_walked, each_walked, names_back, part_code, row_of, tree_walked}

abbrev IfFunction : Tree → Type 0
IfFunction tree = IsTrue (is_function (kind_of tree)) → ReturnsOutside (body_of tree)

-- a part of the file, behind whose acts no construct is open
record IsFunctionWalked (some : List Act) (tree : Tree) : Type 0 where
  back : around_all [] some ≡ []
  proper : ReturnsOutside (body_of tree)

module _ (gives : Returns) (spot : Spot) (other number : ℕ) (text : List ℕ) where
  abbrev Named : Children → Type 0
  Named children =
      Outside [] (function gives children) → IsFunctionWalked (function gives children) (Node (node.Function gives) spot other number text children)

  third-child : (named : Tree) (params : NodeKind) (s1 : Spot) (n1 u1 : ℕ) (t1 : List ℕ) (parameters children : Children) → HasChild is_block IsOver children
      → AreFormed children → Named (Child named (Child (Node params s1 n1 u1 t1 parameters) children))
  unfolding function AreFormed IsFormed ReturnsOutside Outside around_all
  third-child named params s1 n1 u1 t1 parameters (Child (Node node.Block s2 n2 u2 t2 items) rest) form formed outside =
      let walked = behind_walked [] (names naming.Parameters parameters ++ each role.Plain items) (End ∷ []) (ReturnOutsideEach items) _ refl outside.1
      (λ outside. before_walked [] (names naming.Parameters parameters) (each role.Plain items) (ReturnOutsideEach items) _ (names_back [] naming.Parameters parameters) outside
      (λ outside. each_walked items (row_of is_part part_code items formed.0.0) formed.0.1 role.Plain [] outside)) in
      record { back = walked.back; proper = walked.proper }
  third-child named params s1 n1 u1 t1 parameters (Child (Node kind s2 n2 u2 t2 items) more) form formed outside = never form.0
  third-child named params s1 n1 u1 t1 parameters Over form formed outside = absurd form
  third-child named params s1 n1 u1 t1 parameters (Absent more) form formed outside = absurd form

  second-child : (named : Tree) (children : Children) → HasChild is_params (HasChild is_block IsOver) children → AreFormed children
      → Named (Child named children)
  unfolding AreFormed
  second-child named (Child (Node params s1 n1 u1 t1 parameters) children) form formed outside =
      third-child named params s1 n1 u1 t1 parameters children form.1 formed.1 outside
  second-child named Over form formed outside = absurd form
  second-child named (Absent more) form formed outside = absurd form

  first-child : (children : Children) → HasChild is_declared (HasChild is_params (HasChild is_block IsOver)) children → AreFormed children → Named children
  unfolding AreFormed
  first-child (Child named children) form formed outside = second-child named children form.1 formed.1 outside
  first-child Over form formed outside = absurd form
  first-child (Absent more) form formed outside = absurd form

-- the parts of the file one after another
behind-part : (some more : List Act) → around_all [] some ≡ [] → Outside [] (some ++ more) → Outside [] more
behind-part some more back outside = subst (λ (around : List Directive). Outside around more) back (outside_both [] some more outside).1

file-walked : (children : Children) → AreInRow is_file_part children → AreFormed children → Outside [] (each role.Plain children)
    → All IfFunction (trees_in children)
unfolding acts each trees_in AreInRow AreFormed IsFormed
file-walked Over row formed outside = All-nil IfFunction
file-walked (Absent rest) row formed outside = All-nil IfFunction
file-walked (Child (Node (node.Function gives) spot name number text children) rest) row formed outside =
    let tree = Node (node.Function gives) spot name number text children in
    let done = first-child gives spot name number text children formed.0.0 formed.0.1 (outside_both [] (function gives children) (each role.Plain rest) outside).0 in
    All-cons IfFunction tree (trees_in rest) (λ is. done.proper) (file-walked rest row.1 formed.1 (behind-part (function gives children) (each role.Plain rest) done.back outside))
file-walked (Child (Node node.Include spot name number text children) rest) row formed outside =
    All-cons IfFunction (Node node.Include spot name number text children) (trees_in rest) (λ is. never is) (file-walked rest row.1 formed.1 outside)
file-walked (Child (Node node.Globals spot name number text children) rest) row formed outside =
    let tree = Node node.Globals spot name number text children in
    let walked = tree_walked tree refl formed.0 role.Plain [] (outside_both [] (acts role.Plain tree) (each role.Plain rest) outside).0 in
    All-cons IfFunction tree (trees_in rest) (λ is. never is) (file-walked rest row.1 formed.1 (behind-part (acts role.Plain tree) (each role.Plain rest) walked.back outside))
file-walked (Child (Node node.Locks spot name number text children) rest) row formed outside =
    let tree = Node node.Locks spot name number text children in
    let walked = tree_walked tree refl formed.0 role.Plain [] (outside_both [] (acts role.Plain tree) (each role.Plain rest) outside).0 in
    All-cons IfFunction tree (trees_in rest) (λ is. never is) (file-walked rest row.1 formed.1 (behind-part (acts role.Plain tree) (each role.Plain rest) walked.back outside))
file-walked (Child (Node other spot name number text children) rest) row formed outside = never row.0

root-walked : (root : Tree) → kind_of root ≡ node.Program → IsFormed root → Outside [] (acts role.Plain root) → All IfFunction (parts root)
unfolding acts IsFormed
root-walked (Node node.Program spot name number text children) kind formed outside = file-walked children formed.0 formed.1 outside
root-walked (Node other spot name number text children) kind formed outside = absurd (cc)

-- whichever function is named
is-named : (is same : Bool) → (if is then same else false) ≡ true → is ≡ true
is-named true same found = refl
is-named false same found = absurd (cc)

chosen-walked : (name : ℕ) (tree other : Tree) (found : Bool) → is_function_named name tree ≡ found → IfFunction tree → ReturnsOutside (body_of other)
    → ReturnsOutside (body_of (if found then tree else other))
chosen-walked name tree other false is walked also = also
chosen-walked name tree other true is walked also = walked (is-named (is_function (kind_of tree)) _ is)

named-walked : (name : ℕ) (trees : List Tree) → All IfFunction trees → ReturnsOutside (body_of (function_among name trees))
unfolding function_among ReturnsOutside
named-walked name [] are = tt
named-walked name (tree ∷ trees) are =
    chosen-walked name tree (function_among name trees) (is_function_named name tree) refl (All-head IfFunction tree trees are) (named-walked name trees (All-tail IfFunction tree trees are))

pub returns_outside : (program : TreeView) → Checked program → IsProgramFormed program → HasReturnsOutside program
returns_outside program checked formed =
    let outside = outside_both [] (acts role.Plain (root_tree program)) (Finish program.end ∷ []) (checked_is_outside program checked) in
    let walked = root-walked (root_tree program) formed.kind formed.formed outside.0 in
    λ name. named-walked name (parts (root_tree program)) walked
