-- What stands inside a function begins no other one.
use Rattle.std.specs.Prelude.{ℕ, ◌≡◌, ◌&&◌, not, if◌then◌else◌, Bool, true, false, IsTrue, List, [], ◌∷◌, ◌++◌, Option, Some, None, refl}
use Rattle.std.proofs.Common.{◌∙◌}
use Rattle.c_tokens.specs.declared.token.Spot.{Spot}
use Rattle.c_syntax.specs.declared.node.Standalone.TheVariants as standalone
use Rattle.c_syntax.specs.declared.node.NodeKind.{NodeKind}
use Rattle.c_syntax.specs.declared.node.NodeKind.TheVariants as node
use Rattle.c_syntax.specs.language.Tree.{Tree, Children, kind_of}
use Rattle.c_syntax.specs.language.Tree.Tree.{Node}
use Rattle.c_syntax.specs.language.Tree.Children.{Over, Child, Absent}
use Rattle.c_check.specs.declared.acts.act.Act.{Act}
use Rattle.c_check.specs.declared.acts.act.Act.TheVariants.{Begin, OddLoop, Use}
use Rattle.c_check.specs.declared.acts.act.Usage.{Usage}
use Rattle.c_check.specs.declared.acts.act.Usage.TheVariants as usage
use Rattle.c_check.specs.declared.acts.role.Role.{Role}
use Rattle.c_check.specs.declared.acts.role.Role.TheVariants as role
use Rattle.c_check.specs.declared.acts.role.Naming.{Naming}
use Rattle.c_check.specs.declared.acts.role.Naming.TheVariants as naming
use Rattle.c_check.specs.declared.scopes.declared.Declared.{Declared}
use Rattle.c_check.specs.Acts.{acts, clause_outside, each, first_part, init, outside_acts, second_part, statements, target, third_part}
use Rattle.c_check.specs.Checked.{after_all}
use Rattle.c_check.specs.Clauses.{clause_inside, first_inside, inside_acts}
use Rattle.c_check.specs.Declarations.{find}
use Rattle.c_check.specs.Here.{Here, after, used}
use Rattle.c_check.specs.NameLists.{names}
use Rattle.c_check.specs.Statements.{is_head, looped, odd_loop}
use Rattle.c_check.specs.Loops.{is_place}
use Rattle.c_check.specs.Usages.{assigned}
use Rattle.c_model.specs.Formed.{AreFormed, AreInRow, HasChild, HasPart, IsFormed, IsOver, is_construct_part, is_first_part, is_local, is_part, is_quiet}
use Rattle.c_model.proofs.ScopeChecked.{first_inner, is_inner, local_inner, part_inner, quiet_inner}
use Rattle.c_model.proofs.ScopeLoops.{one_quiet, two_quiet}

-- none of these acts begins a function
abbrev pub begins : Act → Bool
begins (Begin name spot gives parameters) = true
begins other = false

unfoldable pub BeginNone : List Act → Type 0
BeginNone [] = Unit {0}
BeginNone (act ∷ acts) = (begins act ≡ false) × BeginNone acts

pub none_both : (some more : List Act) → BeginNone some → BeginNone more → BeginNone (some ++ more)
unfolding BeginNone
none_both [] more none also = also
none_both (act ∷ some) more none also = (none.0, none_both some more none.1 also)

-- so main isn't declared by them
used-has : (here : Here) (spot : Spot) (found : Option Declared) → (used here spot found).has_main ≡ here.has_main
used-has here spot None = refl
used-has here spot (Some it) = refl

pub one_has : (here : Here) (act : Act) → begins act ≡ false → (after here act).has_main ≡ here.has_main
unfolding after
one_has here (Begin name spot gives parameters) none = absurd (cc)
one_has here (Use name spot usage) none = used-has here spot (find here.names.visible name)
one_has here other none = refl

pub has_same : (here : Here) (some : List Act) → BeginNone some → (after_all here some).has_main ≡ here.has_main
unfolding BeginNone after_all
has_same here [] none = refl
has_same here (act ∷ some) none = has_same (after here act) some none.1 ∙ one_has here act none.0

-- lists of names, and what clauses say of a construct
pub names_none : (why : Naming) (children : Children) → BeginNone (names why children)
unfolding names BeginNone
names_none why Over = tt
names_none why (Absent rest) = tt
names_none naming.Parameters (Child tree rest) = (refl, names_none naming.Parameters rest)
names_none naming.Locks (Child tree rest) = (refl, names_none naming.Locks rest)
names_none naming.Locked (Child tree rest) = (refl, names_none naming.Locked rest)
names_none (naming.Mentioned which) (Child tree rest) = (refl, names_none (naming.Mentioned which) rest)
names_none (naming.Listed which) (Child tree rest) = (refl, names_none (naming.Listed which) rest)

clause-none : (kind : NodeKind) (children : Children) → BeginNone (clause_inside kind children)
unfolding BeginNone
clause-none node.NumThreads children = (refl, tt)
clause-none (node.Default word) children = (refl, tt)
clause-none (node.Data which) children = names_none _ children
clause-none (node.Reduction operator) children = names_none _ children
clause-none (node.Schedule kind) children = (refl, tt)
clause-none node.Nowait children = (refl, tt)
clause-none node.IfClause children = (refl, tt)
clause-none other children = tt

first-none : (children : Children) → BeginNone (first_inside children)
unfolding BeginNone
first-none Over = tt
first-none (Absent rest) = tt
first-none (Child (Node kind spot name number text children) rest) = clause-none kind children

inside-none : (children : Children) → BeginNone (inside_acts children)
unfolding inside_acts BeginNone
inside-none Over = tt
inside-none (Absent rest) = tt
inside-none (Child (Node (node.Clause lead) spot name number text children) rest) = none_both (first_inside children) (inside_acts rest) (first-none children) (inside-none rest)
inside-none (Child (Node other spot name number text children) rest) = inside-none rest

looped-none : (around : Role) → BeginNone (looped around)
unfolding BeginNone
looped-none (role.Looped name) = (refl, tt)
looped-none role.Plain = tt
looped-none role.Used = tt
looped-none role.Target = tt

assigned-none : (around : Role) (used : Usage) (name : ℕ) → BeginNone (assigned around used name)
unfolding BeginNone
assigned-none role.Target usage.Plain name = (refl, tt)
assigned-none role.Target other name = tt
assigned-none role.Plain other name = tt
assigned-none role.Used other name = tt
assigned-none (role.Looped loop) other name = tt

odd-none : (shares form : Bool) → BeginNone (if shares && not form then OddLoop ∷ [] else [])
unfolding BeginNone
odd-none true true = tt
odd-none true false = (refl, tt)
odd-none false form = tt

head-none : (head : Bool) (some : List Act) → (head ≡ false → BeginNone some) → BeginNone (if head then [] else some)
unfolding BeginNone
head-none true some none = tt
head-none false some none = none refl

-- what stands below a node is a part of a function
unfoldable AreInner : Children → Type 0
AreInner Over = Unit {0}
AreInner (Absent rest) = AreInner rest
AreInner (Child tree rest) = IsTrue (is_inner (kind_of tree)) × AreInner rest

over-inner : (children : Children) → IsOver children → AreInner children
unfolding AreInner
over-inner Over is = tt
over-inner (Child tree rest) is = absurd is
over-inner (Absent rest) is = absurd is

row-inner : (test : NodeKind → Bool) → ((kind : NodeKind) → IsTrue (test kind) → IsTrue (is_inner kind)) → (children : Children) → AreInRow test children → AreInner children
unfolding AreInner AreInRow
row-inner test each Over row = tt
row-inner test each (Absent rest) row = over-inner rest row
row-inner test each (Child tree rest) row = (each (kind_of tree) row.0, row-inner test each rest row.1)

quiet-row : (children : Children) → AreInRow is_quiet children → AreInner children
quiet-row children row = row-inner is_quiet quiet_inner children row

one-row : (children : Children) → HasChild is_quiet IsOver children → AreInner children
one-row children form = quiet-row children (one_quiet children form)

two-row : (children : Children) → HasChild is_quiet (HasChild is_quiet IsOver) children → AreInner children
two-row children form = quiet-row children (two_quiet children form)

place-kind : (kind : NodeKind) → IsTrue (is_place kind) → IsTrue (is_inner kind)
place-kind node.Place is = refl
place-kind other is = absurd (cc)

place-row : (next : Children → Type 0) → ((children : Children) → next children → AreInner children) → (children : Children) → HasChild is_place next children → AreInner children
unfolding AreInner
place-row next each (Child tree rest) form = (place-kind (kind_of tree) form.0, each rest form.1)
place-row next each Over form = absurd form
place-row next each (Absent rest) form = absurd form

part-row : (test : NodeKind → Bool) → ((kind : NodeKind) → IsTrue (test kind) → IsTrue (is_inner kind)) → (next : Children → Type 0) → ((children : Children) → next children → AreInner children) → (children : Children) → HasPart test next children → AreInner children
unfolding AreInner
part-row test kinds next each (Child tree rest) form = (kinds (kind_of tree) form.0, each rest form.1)
part-row test kinds next each (Absent rest) form = each rest form
part-row test kinds next each Over form = absurd form

child-row : (next : Children → Type 0) → ((children : Children) → next children → AreInner children) → (children : Children) → HasChild is_quiet next children → AreInner children
unfolding AreInner
child-row next each (Child tree rest) form = (quiet_inner (kind_of tree) form.0, each rest form.1)
child-row next each Over form = absurd form
child-row next each (Absent rest) form = absurd form

code-inner : (kind : NodeKind) → IsTrue (is_construct_part kind) → is_head kind ≡ false → IsTrue (is_inner kind)
code-inner (node.Clause lead) is apart = absurd (cc)
code-inner other is apart = quiet_inner other is

mutual
  unfolding acts each target first_part second_part third_part init statements outside_acts clause_outside BeginNone AreInner AreInRow IsFormed AreFormed

  acts_none : (tree : Tree) → IsTrue (is_inner (kind_of tree)) → IsFormed tree → (around : Role) → BeginNone (acts around tree)
  acts_none (Node node.Locks spot name number text children) inner formed around = names_none naming.Locks children
  acts_none (Node node.Block spot name number text children) inner formed around = (refl, none_both (each role.Plain children) _ (each_none children (row-inner is_part part_inner children formed.0) formed.1 role.Plain) (refl, tt))
  acts_none (Node node.Locals spot name number text children) inner formed around = each_none children (row-inner is_local local_inner children formed.0) formed.1 role.Plain
  acts_none (Node node.LocalVar spot name number text children) inner formed around = (refl, tt)
  acts_none (Node node.LocalArray spot name number text children) inner formed around = (refl, tt)
  acts_none (Node node.LocalSet spot name number text children) inner formed around = none_both (each role.Used children) _ (each_none children (one-row children formed.0) formed.1 role.Used) (refl, tt)
  acts_none (Node node.If spot name number text children) inner formed around = each_none children (child-row _ (child-row _ (part-row is_quiet quiet_inner IsOver over-inner)) children formed.0) formed.1 role.Plain
  acts_none (Node node.While spot name number text children) inner formed around = each_none children (two-row children formed.0) formed.1 role.Plain
  acts_none (Node node.For spot name number text children) inner formed around = (refl, none_both (first_part (looped around) children) _ (first_part_none children (part-row is_first_part first_inner _ (part-row is_quiet quiet_inner _ (part-row is_quiet quiet_inner _ one-row)) children formed.0) formed.1 (looped around) (looped-none around)) (refl, tt))
  acts_none (Node node.Init spot name number text (Child tree rest)) inner formed around = none_both (each role.Plain rest) _ (each_none rest (one-row rest formed.0.1) formed.1.1 role.Plain) (refl, tt)
  acts_none (Node node.Init spot name number text Over) inner formed around = tt
  acts_none (Node node.Init spot name number text (Absent rest)) inner formed around = tt
  acts_none (Node node.Return spot name number text children) inner formed around = none_both (each role.Used children) _ (each_none children (quiet-row children formed.0) formed.1 role.Used) (refl, tt)
  acts_none (Node node.SetCall spot name number text children) inner formed around = target_none children (place-row _ one-row children formed.0) formed.1 role.Used
  acts_none (Node node.Step spot name number text children) inner formed around = each_none children (one-row children formed.0) formed.1 role.Plain
  acts_none (Node node.Called spot name number text children) inner formed around = each_none children (one-row children formed.0) formed.1 role.Plain
  acts_none (Node node.Print spot name number text children) inner formed around = none_both (each role.Plain children) _ (each_none children (quiet-row children formed.0) formed.1 role.Plain) (refl, tt)
  acts_none (Node (node.LockCall which) spot name number text children) inner formed around = names_none naming.Locked children
  acts_none (Node (node.Assign setting) spot name number text children) inner formed around = target_none children (place-row _ one-row children formed.0) formed.1 role.Plain
  acts_none (Node (node.Bump which side) spot name number text children) inner formed around = target_none children (place-row IsOver over-inner children formed.0) formed.1 role.Plain
  acts_none (Node node.Place spot name number text children) inner formed around = (refl, none_both (assigned around _ name) (each role.Plain children) (assigned-none around _ name) (each_none children (quiet-row children formed.0) formed.1 role.Plain))
  acts_none (Node node.Call spot name number text children) inner formed around = (refl, each_none children (quiet-row children formed.0) formed.1 role.Plain)
  acts_none (Node node.TestLock spot name number text children) inner formed around = names_none naming.Locked children
  acts_none (Node (node.Binary operator) spot name number text children) inner formed around = each_none children (two-row children formed.0) formed.1 role.Plain
  acts_none (Node (node.Unary operator) spot name number text children) inner formed around = each_none children (one-row children formed.0) formed.1 role.Plain
  acts_none (Node node.Paren spot name number text children) inner formed around = each_none children (one-row children formed.0) formed.1 role.Plain
  acts_none (Node (node.Standalone standalone.Barrier) spot name number text children) inner formed around = (refl, tt)
  acts_none (Node (node.Construct which) spot name number text children) inner formed around =
      none_both (((outside_acts children ++ _ ∷ inside_acts children) ++ odd_loop which children) ++ statements _ children) _
      (none_both ((outside_acts children ++ _ ∷ inside_acts children) ++ odd_loop which children) (statements _ children)
      (none_both (outside_acts children ++ _ ∷ inside_acts children) (odd_loop which children)
      (none_both (outside_acts children) _ (outside_none children formed.1) (refl, inside-none children)) (odd-none _ _))
      (statements_none children formed.0 formed.1 _))
      (refl, tt)
  acts_none (Node node.Section spot name number text children) inner formed around = each_none children (one-row children formed.0) formed.1 role.Plain
  acts_none (Node node.Program spot name number text children) inner formed around = absurd (let wrong : false ≡ true = inner in cc)
  acts_none (Node (node.Function returns) spot name number text children) inner formed around = absurd (let wrong : false ≡ true = inner in cc)
  acts_none (Node node.Globals spot name number text children) inner formed around = absurd (let wrong : false ≡ true = inner in cc)
  acts_none (Node node.GlobalVar spot name number text children) inner formed around = (refl, tt)
  acts_none (Node node.GlobalArray spot name number text children) inner formed around = (refl, tt)
  acts_none (Node (node.GlobalSet sign) spot name number text children) inner formed around = (refl, tt)
  acts_none (Node other spot name number text children) inner formed around = tt

  each_none : (children : Children) → AreInner children → AreFormed children → (around : Role) → BeginNone (each around children)
  each_none Over inner formed around = tt
  each_none (Absent rest) inner formed around = tt
  each_none (Child tree rest) inner formed around = none_both (acts around tree) (each around rest) (acts_none tree inner.0 formed.0 around) (each_none rest inner.1 formed.1 around)

  target_none : (children : Children) → AreInner children → AreFormed children → (around : Role) → BeginNone (target around children)
  target_none Over inner formed around = tt
  target_none (Absent rest) inner formed around = tt
  target_none (Child tree rest) inner formed around = none_both (acts role.Target tree) (each around rest) (acts_none tree inner.0 formed.0 role.Target) (each_none rest inner.1 formed.1 around)

  first_part_none : (children : Children) → AreInner children → AreFormed children → (mark : List Act) → BeginNone mark → BeginNone (first_part mark children)
  first_part_none Over inner formed mark none = none
  first_part_none (Absent rest) inner formed mark none = second_part_none rest inner formed mark none
  first_part_none (Child tree rest) inner formed mark none = none_both (acts role.Plain tree) (second_part mark rest) (acts_none tree inner.0 formed.0 role.Plain) (second_part_none rest inner.1 formed.1 mark none)

  second_part_none : (children : Children) → AreInner children → AreFormed children → (mark : List Act) → BeginNone mark → BeginNone (second_part mark children)
  second_part_none Over inner formed mark none = none
  second_part_none (Absent rest) inner formed mark none = third_part_none rest inner formed mark none
  second_part_none (Child tree rest) inner formed mark none = none_both (acts role.Plain tree) (third_part mark rest) (acts_none tree inner.0 formed.0 role.Plain) (third_part_none rest inner.1 formed.1 mark none)

  third_part_none : (children : Children) → AreInner children → AreFormed children → (mark : List Act) → BeginNone mark → BeginNone (third_part mark children)
  third_part_none Over inner formed mark none = none
  third_part_none (Absent rest) inner formed mark none = none_both mark (each role.Plain rest) none (each_none rest inner formed role.Plain)
  third_part_none (Child tree rest) inner formed mark none =
      none_both (acts role.Plain tree) (mark ++ each role.Plain rest) (acts_none tree inner.0 formed.0 role.Plain) (none_both mark (each role.Plain rest) none (each_none rest inner.1 formed.1 role.Plain))

  statements_none : (children : Children) → AreInRow is_construct_part children → AreFormed children → (around : Role) → BeginNone (statements around children)
  statements_none Over row formed around = tt
  statements_none (Absent rest) row formed around = tt
  statements_none (Child tree rest) row formed around =
      none_both (if is_head (kind_of tree) then [] else acts around tree) (statements around rest)
      (head-none (is_head (kind_of tree)) (acts around tree) (λ apart. acts_none tree (code-inner (kind_of tree) row.0 apart) formed.0 around)) (statements_none rest row.1 formed.1 around)

  outside_none : (children : Children) → AreFormed children → BeginNone (outside_acts children)
  outside_none Over formed = tt
  outside_none (Absent rest) formed = tt
  outside_none (Child (Node (node.Clause lead) spot name number text children) rest) formed = none_both (clause_outside children) (outside_acts rest) (clause_outside_none children formed.0.1) (outside_none rest formed.1)
  outside_none (Child (Node other spot name number text children) rest) formed = outside_none rest formed.1

  clause_outside_none : (children : Children) → AreFormed children → BeginNone (clause_outside children)
  clause_outside_none Over formed = tt
  clause_outside_none (Absent rest) formed = tt
  clause_outside_none (Child (Node node.NumThreads spot name number text children) rest) formed = each_none children (one-row children formed.0.0) formed.0.1 role.Plain
  clause_outside_none (Child (Node node.IfClause spot name number text children) rest) formed = each_none children (one-row children formed.0.0) formed.0.1 role.Plain
  clause_outside_none (Child (Node (node.Data which) spot name number text children) rest) formed = names_none _ children
  clause_outside_none (Child (Node (node.Reduction operator) spot name number text children) rest) formed = names_none _ children
  clause_outside_none (Child (Node other spot name number text children) rest) formed = tt

-- nor does a function's block
pub items_none : (children : Children) → AreInRow is_part children → AreFormed children → BeginNone (each role.Plain children)
items_none children row formed = each_none children (row-inner is_part part_inner children row) formed role.Plain
