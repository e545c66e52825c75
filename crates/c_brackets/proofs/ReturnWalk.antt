-- Statements whose acts have no return in a construct: none is among the statements of a construct in them, and where they stand in one they have none.
use Rattle.std.specs.Prelude.{ℕ, ◌≡◌, ◌||◌, ◌&&◌, not, if◌then◌else◌, Bool, true, false, IsTrue, List, [], ◌∷◌, ◌++◌, refl}
use Rattle.std.proofs.Common.{ap, ◌∙◌, subst}
use Rattle.c_tokens.specs.declared.token.Spot.{Spot}
use Rattle.c_syntax.specs.declared.node.Directive.{Directive}
use Rattle.c_syntax.specs.declared.node.Standalone.TheVariants as standalone
use Rattle.c_syntax.specs.declared.node.NodeKind.{NodeKind}
use Rattle.c_syntax.specs.declared.node.NodeKind.TheVariants as node
use Rattle.c_syntax.specs.language.Tree.{Tree, Children, kind_of}
use Rattle.c_syntax.specs.language.Tree.Tree.{Node}
use Rattle.c_syntax.specs.language.Tree.Children.{Over, Child, Absent}
use Rattle.c_check.specs.declared.acts.act.Act.{Act}
use Rattle.c_check.specs.declared.acts.act.Act.TheVariants.{Close, Declare, Enter, Leave, OddLoop, Open, Print, Return, Use}
use Rattle.c_check.specs.declared.acts.act.Thing.TheVariants as thing
use Rattle.c_check.specs.declared.acts.act.Usage.{Usage}
use Rattle.c_check.specs.declared.acts.act.Usage.TheVariants as usage
use Rattle.c_check.specs.declared.acts.act.DataClause.TheVariants as clause
use Rattle.c_check.specs.declared.acts.role.Role.{Role}
use Rattle.c_check.specs.declared.acts.role.Role.TheVariants as role
use Rattle.c_check.specs.declared.acts.role.Naming.{Naming}
use Rattle.c_check.specs.declared.acts.role.Naming.TheVariants as naming
use Rattle.c_check.specs.Acts.{acts, clause_outside, each, first_part, init, outside_acts, second_part, statements, target, third_part}
use Rattle.c_check.specs.Clauses.{clause_inside, data_of, first_inside, inside_acts}
use Rattle.c_check.specs.Loops.{has_form, is_place}
use Rattle.c_check.specs.NameLists.{child_count, names}
use Rattle.c_check.specs.Printed.{as_many, numbers_in}
use Rattle.c_check.specs.Statements.{is_head, looped, name_of_critical, odd_loop, shares_loop, statement_of, statement_role}
use Rattle.c_check.specs.Usages.{assigned, call_value, place_usage, returned_of}
use Rattle.c_model.specs.Loops.{is_declared}
use Rattle.c_model.specs.Formed.{AreFormed, AreInRow, HasChild, HasPart, IsFormed, IsOver, is_construct_part, is_first_part, is_global, is_local, is_part, is_quiet}
use Rattle.c_brackets.specs.Returns.{ReturnOutsideEach, ReturnsOutside, has_return, has_return_among}
use Rattle.c_brackets.proofs.OpenLists.{never, right_true}
use Rattle.c_brackets.proofs.ReturnTrees.{each_proper}
use Rattle.c_brackets.proofs.OutsideActs.{Outside, around_all, around_both, outside_both}

-- What stands below a statement: anything but a program and a function.
abbrev pub is_code : NodeKind → Bool
is_code node.Program = false
is_code (node.Function returns) = false
is_code other = true

quiet-code : (kind : NodeKind) → IsTrue (is_quiet kind) → IsTrue (is_code kind)
quiet-code node.Program is = never is
quiet-code (node.Function returns) is = never is
quiet-code other is = refl

pub part_code : (kind : NodeKind) → IsTrue (is_part kind) → IsTrue (is_code kind)
part_code node.Program is = never is
part_code (node.Function returns) is = never is
part_code other is = refl

local-code : (kind : NodeKind) → IsTrue (is_local kind) → IsTrue (is_code kind)
local-code node.Program is = never is
local-code (node.Function returns) is = never is
local-code other is = refl

global-code : (kind : NodeKind) → IsTrue (is_global kind) → IsTrue (is_code kind)
global-code node.Program is = never is
global-code (node.Function returns) is = never is
global-code other is = refl

first-code : (kind : NodeKind) → IsTrue (is_first_part kind) → IsTrue (is_code kind)
first-code node.Program is = never is
first-code (node.Function returns) is = never is
first-code other is = refl

place-code : (kind : NodeKind) → IsTrue (is_place kind) → IsTrue (is_code kind)
place-code node.Program is = never is
place-code (node.Function returns) is = never is
place-code other is = refl

construct-code : (kind : NodeKind) → IsTrue (is_construct_part kind) → IsTrue (is_code kind)
construct-code node.Program is = never is
construct-code (node.Function returns) is = never is
construct-code other is = refl

-- the forms of children, as rows of such
row-over : (children : Children) → IsOver children → AreInRow is_code children
unfolding AreInRow
row-over Over is = tt
row-over (Child tree rest) is = absurd is
row-over (Absent rest) is = absurd is

row-child : (test : NodeKind → Bool) (next : Children → Type 0) → ((kind : NodeKind) → IsTrue (test kind) → IsTrue (is_code kind))
    → ((rest : Children) → next rest → AreInRow is_code rest)
    → (children : Children) → HasChild test next children → AreInRow is_code children
unfolding AreInRow
row-child test next code each Over form = absurd form
row-child test next code each (Absent rest) form = absurd form
row-child test next code each (Child tree rest) form = (code (kind_of tree) form.0, each rest form.1)

row-last : (children : Children) → HasPart is_quiet IsOver children → AreInRow is_code children
unfolding AreInRow
row-last Over form = absurd form
row-last (Absent rest) form = form
row-last (Child tree rest) form = (quiet-code (kind_of tree) form.0, row-over rest form.1)

pub row_of : (test : NodeKind → Bool) → ((kind : NodeKind) → IsTrue (test kind) → IsTrue (is_code kind)) → (children : Children) → AreInRow test children
    → AreInRow is_code children
unfolding AreInRow
row_of test code Over row = tt
row_of test code (Absent rest) row = row
row_of test code (Child tree rest) row = (code (kind_of tree) row.0, row_of test code rest row.1)

one-row : (children : Children) → HasChild is_quiet IsOver children → AreInRow is_code children
one-row children form = row-child is_quiet IsOver quiet-code row-over children form

two-row : (children : Children) → HasChild is_quiet (HasChild is_quiet IsOver) children → AreInRow is_code children
two-row children form = row-child is_quiet (HasChild is_quiet IsOver) quiet-code one-row children form

if-row : (children : Children) → HasChild is_quiet (HasChild is_quiet (HasPart is_quiet IsOver)) children → AreInRow is_code children
if-row children form =
    row-child is_quiet (HasChild is_quiet (HasPart is_quiet IsOver)) quiet-code (λ rest form. row-child is_quiet (HasPart is_quiet IsOver) quiet-code row-last rest form) children form

-- What is shown by acts that have no return in a construct: behind them the same constructs are around, this is so, and where this is true none is.
pub record Walked (around : List Directive) (some : List Act) (So : Type 0) (returns : Bool) : Type 0 where
  pub back : around_all around some ≡ around
  pub proper : So
  pub outside : IsTrue returns → around ≡ []

either : {A : Type 0} (one other : Bool) → IsTrue (one || other) → (IsTrue one → A) → (IsTrue other → A) → A
either true other is first second = first refl
either false other is first second = second is

module _ (around : List Directive) where
  -- acts one after another
  both-back : (some more : List Act) → around_all around some ≡ around → around_all around more ≡ around → around_all around (some ++ more) ≡ around
  both-back some more first second = around_both around some more ∙ ap (λ (around : List Directive). around_all around more) first ∙ second

  outside-behind : (some more : List Act) → around_all around some ≡ around → Outside around (some ++ more) → Outside around more
  outside-behind some more back outside = subst (λ (around : List Directive). Outside around more) back (outside_both around some more outside).1

  pub then_walked : (some more : List Act) (first second : Type 0) (one other : Bool) → Outside around (some ++ more)
      → (Outside around some → Walked around some first one) → (Outside around more → Walked around more second other)
      → Walked around (some ++ more) (first × second) (one || other)
  then_walked some more first second one other outside walks then_walks =
      let before = walks (outside_both around some more outside).0 in
      let behind = then_walks (outside-behind some more before.back outside) in
      record { back = both-back some more before.back behind.back; proper = (before.proper, behind.proper); outside = λ is. either one other is before.outside behind.outside }

  -- before or behind acts that leave what is around
  pub before_walked : (some more : List Act) (So : Type 0) (returns : Bool) → around_all around some ≡ around → Outside around (some ++ more)
      → (Outside around more → Walked around more So returns) → Walked around (some ++ more) So returns
  before_walked some more So returns back outside walks =
      let behind = walks (outside-behind some more back outside) in record { back = both-back some more back behind.back; proper = behind.proper; outside = behind.outside }

  pub behind_walked : (some more : List Act) (So : Type 0) (returns : Bool) → around_all around more ≡ around → Outside around (some ++ more)
      → (Outside around some → Walked around some So returns) → Walked around (some ++ more) So returns
  behind_walked some more So returns back outside walks =
      let before = walks (outside_both around some more outside).0 in record { back = both-back some more before.back back; proper = before.proper; outside = before.outside }

  leaving : (some : List Act) → around_all around some ≡ around → Walked around some (Unit {0}) false
  leaving some back = record { back = back; proper = tt; outside = λ is. never is }

  only-back : (some : List Act) (So : Type 0) (returns : Bool) → Walked around some So returns → Walked around some (Unit {0}) false
  only-back some So returns walked = leaving some walked.back

  -- acts that leave what is around
  pub names_back : (why : Naming) (children : Children) → around_all around (names why children) ≡ around
  unfolding around_all names
  names_back why Over = refl
  names_back why (Absent rest) = refl
  names_back naming.Parameters (Child tree rest) = names_back naming.Parameters rest
  names_back naming.Locks (Child tree rest) = names_back naming.Locks rest
  names_back naming.Locked (Child tree rest) = names_back naming.Locked rest
  names_back (naming.Mentioned which) (Child tree rest) = names_back (naming.Mentioned which) rest
  names_back (naming.Listed which) (Child tree rest) = names_back (naming.Listed which) rest

  assigned-back : (manner : Role) (used : Usage) (name : ℕ) → around_all around (assigned manner used name) ≡ around
  unfolding around_all
  assigned-back role.Target usage.Plain name = refl
  assigned-back role.Target other name = refl
  assigned-back role.Plain other name = refl
  assigned-back role.Used other name = refl
  assigned-back (role.Looped loop) other name = refl

  looped-back : (manner : Role) → around_all around (looped manner) ≡ around
  unfolding around_all
  looped-back (role.Looped name) = refl
  looped-back role.Plain = refl
  looped-back role.Used = refl
  looped-back role.Target = refl

  odd-back : (shares form : Bool) → around_all around (if shares && not form then OddLoop ∷ [] else []) ≡ around
  unfolding around_all
  odd-back true true = refl
  odd-back true false = refl
  odd-back false form = refl

  clause-back : (kind : NodeKind) (children : Children) → around_all around (clause_inside kind children) ≡ around
  unfolding around_all
  clause-back (node.Data which) children = names_back (naming.Listed (data_of which)) children
  clause-back (node.Reduction operator) children = names_back (naming.Listed clause.Reduced) children
  clause-back other children = refl

  first-back : (children : Children) → around_all around (first_inside children) ≡ around
  unfolding around_all
  first-back Over = refl
  first-back (Absent rest) = refl
  first-back (Child (Node kind spot name number text children) rest) = clause-back kind children

  inside-back : (children : Children) → around_all around (inside_acts children) ≡ around
  unfolding around_all inside_acts
  inside-back Over = refl
  inside-back (Absent rest) = refl
  inside-back (Child (Node (node.Clause lead) spot name number text children) rest) =
      both-back (first_inside children) (inside_acts rest) (first-back children) (inside-back rest)
  inside-back (Child (Node other spot name number text children) rest) = inside-back rest

head-free : (tree : Tree) → is_head (kind_of tree) ≡ true → has_return tree ≡ false
unfolding has_return
head-free (Node (node.Clause lead) spot name number text children) is = refl
head-free (Node node.Name spot name number text children) is = refl
head-free (Node other spot name number text children) is = absurd (cc)

names-free : (children : Children) → AreInRow is_declared children → IsTrue (has_return_among children) → ⊥
unfolding AreInRow has_return has_return_among
names-free Over row is = never is
names-free (Absent Over) row is = never is
names-free (Absent (Child tree rest)) row is = absurd row
names-free (Absent (Absent rest)) row is = absurd row
names-free (Child (Node node.Name spot name number text children) rest) row is = names-free rest row.1 is
names-free (Child (Node other spot name number text children) rest) row is = never row.0

none-around : (which : Directive) (around : List Directive) → which ∷ around ≡ [] → ⊥
none-around which around is = cc

-- a head has no return and does nothing, and what else a construct has is walked
head-walked : (around : List Directive) (head : Bool) (tree : Tree) (some : List Act) → is_head (kind_of tree) ≡ head
    → (head ≡ false → Outside around some → Walked around some (Unit {0}) (has_return tree)) → Outside around (if head then [] else some)
    → Walked around (if head then [] else some) (Unit {0}) (has_return tree)
unfolding around_all
head-walked around true tree some is each outside =
    record { back = refl; proper = tt; outside = λ returns. never (subst (λ (returns : Bool). IsTrue returns) (head-free tree is) returns) }
head-walked around false tree some is each outside = each refl outside

-- a construct
construct-walked : (around : List Directive) (which : Directive) (spot : Spot) (children : Children)
    → (Outside around (outside_acts children) → Walked around (outside_acts children) (Unit {0}) false)
    → (Outside (which ∷ around) (statements (statement_role which children) children) → Walked (which ∷ around) (statements (statement_role which children) children) (Unit {0}) (has_return_among children))
    → Outside around (outside_acts children ++ Enter spot which (name_of_critical children) ∷ inside_acts children ++ odd_loop which children ++ statements (statement_role which children) children ++ Leave ∷ [])
    → Walked around (outside_acts children ++ Enter spot which (name_of_critical children) ∷ inside_acts children ++ odd_loop which children ++ statements (statement_role which children) children ++ Leave ∷ []) (IsTrue (has_return_among children) → ⊥) (has_return_among children)
unfolding around_all Outside
construct-walked around which spot children clauses inner outside =
    let enter = Enter spot which (name_of_critical children) in
    let inside = inside_acts children in
    let odd = odd_loop which children in
    let body = statements (statement_role which children) children in
    let inward : List Directive = which ∷ around in
    let p1 = outside_both around (outside_acts children ++ enter ∷ inside ++ odd ++ body) (Leave ∷ []) outside in
    let p2 = outside_both around (outside_acts children ++ enter ∷ inside ++ odd) body p1.0 in
    let p3 = outside_both around (outside_acts children ++ enter ∷ inside) odd p2.0 in
    let p4 = outside_both around (outside_acts children) (enter ∷ inside) p3.0 in
    let one = clauses p4.0 in
    let two : around_all around (outside_acts children ++ enter ∷ inside) ≡ inward =
    around_both around (outside_acts children) (enter ∷ inside) ∙ ap (λ (around : List Directive). around_all around (enter ∷ inside)) one.back ∙ inside-back inward children in
    let three : around_all around (outside_acts children ++ enter ∷ inside ++ odd) ≡ inward =
    around_both around (outside_acts children ++ enter ∷ inside) odd ∙ ap (λ (around : List Directive). around_all around odd) two ∙ odd-back inward (shares_loop which) (has_form (statement_of children)) in
    let walked = inner (subst (λ (around : List Directive). Outside around body) three p2.1) in
    let four : around_all around (outside_acts children ++ enter ∷ inside ++ odd ++ body) ≡ inward =
    around_both around (outside_acts children ++ enter ∷ inside ++ odd) body ∙ ap (λ (around : List Directive). around_all around body) three ∙ walked.back in
    record {
      back = around_both around (outside_acts children ++ enter ∷ inside ++ odd ++ body) (Leave ∷ []) ∙ ap (λ (around : List Directive). around_all around (Leave ∷ [])) four;
      proper = λ is. none-around which around (walked.outside is);
      outside = λ is. absurd (none-around which around (walked.outside is));
    }

mutual
  unfolding acts each target first_part second_part third_part init statements outside_acts clause_outside IsFormed AreFormed AreInRow ReturnsOutside ReturnOutsideEach has_return has_return_among Outside around_all

  pub tree_walked : (tree : Tree) → IsTrue (is_code (kind_of tree)) → IsFormed tree → (manner : Role) (around : List Directive)
      → Outside around (acts manner tree) → Walked around (acts manner tree) (ReturnsOutside tree) (has_return tree)
  tree_walked (Node node.Program spot name number text children) is formed manner around outside = never is
  tree_walked (Node (node.Function returns) spot name number text children) is formed manner around outside = never is
  tree_walked (Node node.Globals spot name number text children) is formed manner around outside =
      each_walked children (row_of is_global global-code children formed.0) formed.1 role.Plain around outside
  tree_walked (Node node.Locks spot name number text children) is formed manner around outside =
      record {
        back = names_back around naming.Locks children;
        proper = each_proper children (names-free children formed.0);
        outside = λ is. absurd (names-free children formed.0 is);
      }
  tree_walked (Node node.Block spot name number text children) is formed manner around outside =
      before_walked around (Open ∷ []) (each role.Plain children ++ Close ∷ []) (ReturnOutsideEach children) (has_return_among children) refl outside
      (λ outside. behind_walked around (each role.Plain children) (Close ∷ []) (ReturnOutsideEach children) (has_return_among children) refl outside
      (λ outside. each_walked children (row_of is_part part_code children formed.0) formed.1 role.Plain around outside))
  tree_walked (Node node.Locals spot name number text children) is formed manner around outside =
      each_walked children (row_of is_local local-code children formed.0) formed.1 role.Plain around outside
  tree_walked (Node node.LocalSet spot name number text children) is formed manner around outside =
      behind_walked around (each role.Used children) (Declare name spot thing.Int ∷ []) (Unit {0}) false refl outside (λ outside. only-back around _ _ _ (each_walked children (one-row children formed.0) formed.1 role.Used around outside))
  tree_walked (Node node.If spot name number text children) is formed manner around outside =
      each_walked children (if-row children formed.0) formed.1 role.Plain around outside
  tree_walked (Node node.While spot name number text children) is formed manner around outside =
      each_walked children (two-row children formed.0) formed.1 role.Plain around outside
  tree_walked (Node node.For spot name number text children) is formed manner around outside =
      before_walked around (Open ∷ []) (first_part (looped manner) children ++ Close ∷ []) (ReturnOutsideEach children) (has_return_among children) refl outside
      (λ outside. behind_walked around (first_part (looped manner) children) (Close ∷ []) (ReturnOutsideEach children) (has_return_among children) refl outside
      (λ outside. first-walked children formed.0 formed.1 (looped manner) around (looped-back around manner) outside))
  tree_walked (Node node.Init spot name number text (Child named rest)) is formed manner around outside =
      behind_walked around (each role.Plain rest) (Declare _ _ thing.Int ∷ []) (Unit {0}) false refl outside (λ outside. only-back around _ _ _ (each_walked rest (one-row rest formed.0.1) formed.1.1 role.Plain around outside))
  tree_walked (Node node.Init spot name number text Over) is formed manner around outside = absurd formed.0
  tree_walked (Node node.Init spot name number text (Absent rest)) is formed manner around outside = absurd formed.0
  tree_walked (Node node.Return spot name number text children) is formed manner around outside =
      let walked = then_walked around (each role.Used children) (Return spot (returned_of children) ∷ []) (ReturnOutsideEach children) (Unit {0}) (has_return_among children) true outside
      (λ outside. each_walked children (row_of is_quiet quiet-code children formed.0) formed.1 role.Used around outside) (λ outside. record { back = refl; proper = tt; outside = λ is. outside.0 }) in
      record { back = walked.back; proper = tt; outside = λ is. walked.outside (right_true (has_return_among children) true refl) }
  tree_walked (Node node.SetCall spot name number text children) is formed manner around outside =
      only-back around _ _ _ (target-walked children (row-child is_place (HasChild is_quiet IsOver) place-code one-row children formed.0) formed.1 role.Used around outside)
  tree_walked (Node node.Step spot name number text children) is formed manner around outside =
      only-back around _ _ _ (each_walked children (one-row children formed.0) formed.1 role.Plain around outside)
  tree_walked (Node node.Called spot name number text children) is formed manner around outside =
      only-back around _ _ _ (each_walked children (one-row children formed.0) formed.1 role.Plain around outside)
  tree_walked (Node node.Print spot name number text children) is formed manner around outside =
      behind_walked around (each role.Plain children) (Print spot (as_many (numbers_in text) (child_count children)) ∷ []) (Unit {0}) false refl outside
      (λ outside. only-back around _ _ _ (each_walked children (row_of is_quiet quiet-code children formed.0) formed.1 role.Plain around outside))
  tree_walked (Node (node.LockCall which) spot name number text children) is formed manner around outside =
      leaving around _ (names_back around naming.Locked children)
  tree_walked (Node (node.Assign setting) spot name number text children) is formed manner around outside =
      only-back around _ _ _ (target-walked children (row-child is_place (HasChild is_quiet IsOver) place-code one-row children formed.0) formed.1 role.Plain around outside)
  tree_walked (Node (node.Bump which side) spot name number text children) is formed manner around outside =
      only-back around _ _ _ (target-walked children (row-child is_place IsOver place-code row-over children formed.0) formed.1 role.Plain around outside)
  tree_walked (Node node.Place spot name number text children) is formed manner around outside =
      before_walked around (Use name spot (place_usage children) ∷ assigned manner (place_usage children) name) (each role.Plain children) (Unit {0}) false (assigned-back around manner (place_usage children) name) outside
      (λ outside. only-back around _ _ _ (each_walked children (row_of is_quiet quiet-code children formed.0) formed.1 role.Plain around outside))
  tree_walked (Node node.Call spot name number text children) is formed manner around outside =
      before_walked around (Use name spot (usage.Called (child_count children) (call_value manner)) ∷ []) (each role.Plain children) (Unit {0}) false refl outside
      (λ outside. only-back around _ _ _ (each_walked children (row_of is_quiet quiet-code children formed.0) formed.1 role.Plain around outside))
  tree_walked (Node node.TestLock spot name number text children) is formed manner around outside = leaving around _ (names_back around naming.Locked children)
  tree_walked (Node (node.Binary operator) spot name number text children) is formed manner around outside =
      only-back around _ _ _ (each_walked children (two-row children formed.0) formed.1 role.Plain around outside)
  tree_walked (Node (node.Unary operator) spot name number text children) is formed manner around outside =
      only-back around _ _ _ (each_walked children (one-row children formed.0) formed.1 role.Plain around outside)
  tree_walked (Node node.Paren spot name number text children) is formed manner around outside =
      only-back around _ _ _ (each_walked children (one-row children formed.0) formed.1 role.Plain around outside)
  tree_walked (Node (node.Standalone standalone.Barrier) spot name number text children) is formed manner around outside = leaving around _ refl
  tree_walked (Node (node.Standalone standalone.Taskwait) spot name number text children) is formed manner around outside = leaving around _ refl
  tree_walked (Node (node.Construct which) spot name number text children) is formed manner around outside =
      construct-walked around which spot children (λ outside. outside-walked children formed.1 around outside)
      (λ outside. statements-walked children formed.0 formed.1 (statement_role which children) (which ∷ around) outside) outside
  tree_walked (Node node.Section spot name number text children) is formed manner around outside =
      each_walked children (one-row children formed.0) formed.1 role.Plain around outside
  tree_walked (Node other spot name number text children) is formed manner around outside = leaving around _ refl

  pub each_walked : (children : Children) → AreInRow is_code children → AreFormed children → (manner : Role) (around : List Directive)
      → Outside around (each manner children) → Walked around (each manner children) (ReturnOutsideEach children) (has_return_among children)
  each_walked Over row formed manner around outside = record { back = refl; proper = tt; outside = λ is. never is }
  each_walked (Absent Over) row formed manner around outside = record { back = refl; proper = tt; outside = λ is. never is }
  each_walked (Absent (Child tree rest)) row formed manner around outside = absurd row
  each_walked (Absent (Absent rest)) row formed manner around outside = absurd row
  each_walked (Child tree rest) row formed manner around outside =
      then_walked around (acts manner tree) (each manner rest) (ReturnsOutside tree) (ReturnOutsideEach rest) (has_return tree) (has_return_among rest) outside
      (λ outside. tree_walked tree row.0 formed.0 manner around outside) (λ outside. each_walked rest row.1 formed.1 manner around outside)

  target-walked : (children : Children) → AreInRow is_code children → AreFormed children → (manner : Role) (around : List Directive)
      → Outside around (target manner children) → Walked around (target manner children) (ReturnOutsideEach children) (has_return_among children)
  target-walked Over row formed manner around outside = record { back = refl; proper = tt; outside = λ is. never is }
  target-walked (Absent Over) row formed manner around outside = record { back = refl; proper = tt; outside = λ is. never is }
  target-walked (Absent (Child tree rest)) row formed manner around outside = absurd row
  target-walked (Absent (Absent rest)) row formed manner around outside = absurd row
  target-walked (Child tree rest) row formed manner around outside =
      then_walked around (acts role.Target tree) (each manner rest) (ReturnsOutside tree) (ReturnOutsideEach rest) (has_return tree) (has_return_among rest) outside
      (λ outside. tree_walked tree row.0 formed.0 role.Target around outside) (λ outside. each_walked rest row.1 formed.1 manner around outside)

  -- the parts of a plain `for`
  first-walked : (children : Children) → HasPart is_first_part (HasPart is_quiet (HasPart is_quiet (HasChild is_quiet IsOver))) children → AreFormed children
      → (mark : List Act) (around : List Directive) → around_all around mark ≡ around
      → Outside around (first_part mark children) → Walked around (first_part mark children) (ReturnOutsideEach children) (has_return_among children)
  first-walked Over form formed mark around back outside = absurd form
  first-walked (Absent rest) form formed mark around back outside =
      let walked = second-walked rest form formed mark around back outside in record { back = walked.back; proper = walked.proper; outside = walked.outside }
  first-walked (Child tree rest) form formed mark around back outside =
      then_walked around (acts role.Plain tree) (second_part mark rest) (ReturnsOutside tree) (ReturnOutsideEach rest) (has_return tree) (has_return_among rest) outside
      (λ outside. tree_walked tree (first-code (kind_of tree) form.0) formed.0 role.Plain around outside) (λ outside. second-walked rest form.1 formed.1 mark around back outside)

  second-walked : (children : Children) → HasPart is_quiet (HasPart is_quiet (HasChild is_quiet IsOver)) children → AreFormed children
      → (mark : List Act) (around : List Directive) → around_all around mark ≡ around
      → Outside around (second_part mark children) → Walked around (second_part mark children) (ReturnOutsideEach children) (has_return_among children)
  second-walked Over form formed mark around back outside = absurd form
  second-walked (Absent rest) form formed mark around back outside =
      let walked = third-walked rest form formed mark around back outside in record { back = walked.back; proper = walked.proper; outside = walked.outside }
  second-walked (Child tree rest) form formed mark around back outside =
      then_walked around (acts role.Plain tree) (third_part mark rest) (ReturnsOutside tree) (ReturnOutsideEach rest) (has_return tree) (has_return_among rest) outside
      (λ outside. tree_walked tree (quiet-code (kind_of tree) form.0) formed.0 role.Plain around outside) (λ outside. third-walked rest form.1 formed.1 mark around back outside)

  third-walked : (children : Children) → HasPart is_quiet (HasChild is_quiet IsOver) children → AreFormed children
      → (mark : List Act) (around : List Directive) → around_all around mark ≡ around
      → Outside around (third_part mark children) → Walked around (third_part mark children) (ReturnOutsideEach children) (has_return_among children)
  third-walked Over form formed mark around back outside = absurd form
  third-walked (Absent rest) form formed mark around back outside =
      before_walked around mark (each role.Plain rest) (ReturnOutsideEach rest) (has_return_among rest) back outside (λ outside. each_walked rest (one-row rest form) formed role.Plain around outside)
  third-walked (Child tree rest) form formed mark around back outside =
      then_walked around (acts role.Plain tree) (mark ++ each role.Plain rest) (ReturnsOutside tree) (ReturnOutsideEach rest) (has_return tree) (has_return_among rest) outside
      (λ outside. tree_walked tree (quiet-code (kind_of tree) form.0) formed.0 role.Plain around outside)
      (λ outside. before_walked around mark (each role.Plain rest) (ReturnOutsideEach rest) (has_return_among rest) back outside (λ outside. each_walked rest (one-row rest form.1) formed.1 role.Plain around outside))

  -- what a construct has behind its clauses
  statements-walked : (children : Children) → AreInRow is_construct_part children → AreFormed children → (manner : Role) (around : List Directive)
      → Outside around (statements manner children) → Walked around (statements manner children) (Unit {0}) (has_return_among children)
  statements-walked Over row formed manner around outside = leaving around [] refl
  statements-walked (Absent Over) row formed manner around outside = leaving around [] refl
  statements-walked (Absent (Child tree rest)) row formed manner around outside = absurd row
  statements-walked (Absent (Absent rest)) row formed manner around outside = absurd row
  statements-walked (Child tree rest) row formed manner around outside =
      let some = if is_head (kind_of tree) then [] else acts manner tree in
      let walked = then_walked around some (statements manner rest) (Unit {0}) (Unit {0}) (has_return tree) (has_return_among rest) outside
      (λ outside. head-walked around (is_head (kind_of tree)) tree (acts manner tree) refl
      (λ apart outside. let one = tree_walked tree (construct-code (kind_of tree) row.0) formed.0 manner around outside in record { back = one.back; proper = tt; outside = one.outside }) outside)
      (λ outside. statements-walked rest row.1 formed.1 manner around outside) in
      record { back = walked.back; proper = tt; outside = walked.outside }

  -- what its clauses compute and list
  outside-walked : (children : Children) → AreFormed children → (around : List Directive) → Outside around (outside_acts children)
      → Walked around (outside_acts children) (Unit {0}) false
  outside-walked Over formed around outside = leaving around [] refl
  outside-walked (Absent rest) formed around outside = leaving around [] refl
  outside-walked (Child (Node (node.Clause lead) spot name number text children) rest) formed around outside =
      only-back around _ _ _ (then_walked around (clause_outside children) (outside_acts rest) (Unit {0}) (Unit {0}) false false outside
      (λ outside. clause-walked children formed.0.1 around outside) (λ outside. outside-walked rest formed.1 around outside))
  outside-walked (Child (Node other spot name number text children) rest) formed around outside = outside-walked rest formed.1 around outside

  clause-walked : (children : Children) → AreFormed children → (around : List Directive) → Outside around (clause_outside children)
      → Walked around (clause_outside children) (Unit {0}) false
  clause-walked Over formed around outside = leaving around [] refl
  clause-walked (Absent rest) formed around outside = leaving around [] refl
  clause-walked (Child (Node node.NumThreads spot name number text children) rest) formed around outside =
      only-back around _ _ _ (each_walked children (one-row children formed.0.0) formed.0.1 role.Plain around outside)
  clause-walked (Child (Node node.IfClause spot name number text children) rest) formed around outside =
      only-back around _ _ _ (each_walked children (one-row children formed.0.0) formed.0.1 role.Plain around outside)
  clause-walked (Child (Node (node.Data which) spot name number text children) rest) formed around outside =
      leaving around _ (names_back around (naming.Mentioned (data_of which)) children)
  clause-walked (Child (Node (node.Reduction operator) spot name number text children) rest) formed around outside =
      leaving around _ (names_back around (naming.Mentioned clause.Reduced) children)
  clause-walked (Child (Node other spot name number text children) rest) formed around outside = leaving around [] refl
