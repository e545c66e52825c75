-- In a program that breaks no rule each function has schedules with sizes from 1 on.
use Rattle.std.proofs.Common.{ℕ, ◌≡◌, ◌≤◌, ◌++◌, if◌then◌else◌, Bool, true, false, IsTrue, List, [], ◌∷◌, refl, subst}
use Rattle.c_tokens.specs.declared.token.Spot.{Spot}
use Rattle.c_syntax.specs.declared.node.Returns.{Returns}
use Rattle.c_syntax.specs.declared.node.ScheduleKind.{ScheduleKind}
use Rattle.c_syntax.specs.declared.node.ScheduleKind.TheVariants as schedule_kind
use Rattle.c_syntax.specs.declared.node.NodeKind.{NodeKind}
use Rattle.c_syntax.specs.declared.node.NodeKind.TheVariants as node
use Rattle.c_syntax.specs.language.Tree.{Tree, Children, kind_of}
use Rattle.c_syntax.specs.language.Tree.Tree.{Node}
use Rattle.c_syntax.specs.language.Tree.Children.{Over, Child, Absent}
use Rattle.c_syntax.specs.language.Numbered.{TreeView, root_tree}
use Rattle.c_check.specs.declared.acts.act.Act.{Act}
use Rattle.c_check.specs.declared.acts.act.Act.TheVariants.{Close, End, Enter, Finish, Leave}
use Rattle.c_check.specs.declared.acts.role.Naming.{Naming}
use Rattle.c_check.specs.declared.acts.role.Naming.TheVariants as naming
use Rattle.c_check.specs.declared.acts.role.Role.{Role}
use Rattle.c_check.specs.declared.acts.role.Role.TheVariants as role
use Rattle.c_check.specs.Acts.{acts, each, first_part, function, outside_acts, second_part, statements, third_part}
use Rattle.c_check.specs.Checked.{Checked}
use Rattle.c_check.specs.Clauses.{chunk_of, clause_inside, data_of, first_inside, inside_acts}
use Rattle.c_check.specs.declared.acts.act.DataClause.TheVariants as clause
use Rattle.c_check.specs.Loops.{child_at}
use Rattle.c_check.specs.NameLists.{names}
use Rattle.c_check.specs.Statements.{is_head, looped, name_of_critical, odd_loop, statement_role}
use Rattle.c_model.specs.declared.point.Schedule.{Schedule}
use Rattle.c_model.specs.Clauses.{clauses_among, schedule_among, schedule_by, schedule_or}
use Rattle.c_model.specs.Formed.{AreFormed, AreInRow, HasChild, HasPart, IsFormed, IsOver, IsProgramFormed, is_block, is_construct_part, is_file_part, is_first_part, is_global, is_local, is_params, is_part, is_quiet}
use Rattle.c_model.specs.Loops.{is_declared}
use Rattle.c_model.specs.Parts.{parts, trees_in}
use Rattle.c_model.specs.Program.{body_of, function_among, function_named, is_function, is_function_named}
use Rattle.work_laws.proofs.Items.{EachTree}
use Rattle.work_laws.proofs.SizeActs.{AreSized, checked_is_sized, newest_all, sized_both}
use Rattle.work_laws.proofs.ConstructTrees.{EachConstruct, EachConstructIn}
use Rattle.work_laws.proofs.SizedTrees.{HasSize, Sized, SizedEach}

never : {A : Type 0} → IsTrue false → A
never is = absurd (cc)

-- ---- the clauses of a construct

names-newest : (newest : Bool) (why : Naming) (children : Children) → newest_all newest (names why children) ≡ newest
unfolding newest_all names
names-newest newest why Over = refl
names-newest newest why (Absent rest) = refl
names-newest newest naming.Parameters (Child tree rest) = names-newest newest naming.Parameters rest
names-newest newest naming.Locks (Child tree rest) = names-newest newest naming.Locks rest
names-newest newest naming.Locked (Child tree rest) = names-newest newest naming.Locked rest
names-newest newest (naming.Mentioned which) (Child tree rest) = names-newest newest (naming.Mentioned which) rest
names-newest newest (naming.Listed which) (Child tree rest) = names-newest newest (naming.Listed which) rest

inside-newest : (newest : Bool) (kind : NodeKind) (children : Children) → newest_all newest (clause_inside kind children) ≡ newest
unfolding newest_all
inside-newest newest (node.Data which) children = names-newest newest (naming.Listed (data_of which)) children
inside-newest newest (node.Reduction operator) children = names-newest newest (naming.Listed clause.Reduced) children
inside-newest newest other children = refl

first-newest : (newest : Bool) (children : Children) → newest_all newest (first_inside children) ≡ newest
unfolding newest_all
first-newest newest Over = refl
first-newest newest (Absent rest) = refl
first-newest newest (Child (Node kind spot name number text children) rest) = inside-newest newest kind children

-- a schedule clause
chunk-sized : (which : ScheduleKind) (children : Children) → 1 ≤ chunk_of children → HasSize (schedule_by which (trees_in children))
unfolding trees_in
chunk-sized schedule_kind.Static children some = tt
chunk-sized schedule_kind.Dynamic Over some = some
chunk-sized schedule_kind.Dynamic (Absent rest) some = some
chunk-sized schedule_kind.Dynamic (Child (Node kind spot name number text children) rest) some = some
chunk-sized schedule_kind.Guided Over some = some
chunk-sized schedule_kind.Guided (Absent rest) some = some
chunk-sized schedule_kind.Guided (Child (Node kind spot name number text children) rest) some = some

one-sized : (kind : NodeKind) (spot : Spot) (name number : ℕ) (text : List ℕ) (children : Children) (other : Schedule) →
    AreSized true (clause_inside kind children)
    → HasSize other → HasSize (schedule_or other kind (Node kind spot name number text children))
unfolding AreSized
one-sized (node.Schedule which) spot name number text children other sized rest = chunk-sized which children (sized.0 refl)
one-sized kind spot name number text children other sized rest = rest

first-sized : (outer : NodeKind) (place : Spot) (s n : ℕ) (bytes : List ℕ) (children : Children) (other : Schedule) →
    AreSized true (first_inside children)
    → HasSize other → let tree = Node outer place s n bytes children in HasSize (schedule_or other (kind_of (child_at tree 0)) (child_at tree 0))
first-sized outer place s n bytes Over other sized rest = rest
first-sized outer place s n bytes (Absent children) other sized rest = rest
first-sized outer place s n bytes (Child (Node kind spot name number text children) others) other sized rest =
    one-sized kind spot name number text children other sized rest

inside-sized : (children : Children) → AreSized true (inside_acts children) → HasSize (schedule_among (clauses_among (trees_in children)))
unfolding inside_acts trees_in clauses_among schedule_among
inside-sized Over sized = tt
inside-sized (Absent rest) sized = tt
inside-sized (Child (Node (node.Clause lead) spot name number text children) rest) sized =
    let parts = sized_both true (first_inside children) (inside_acts rest) sized in
    first-sized (node.Clause lead) spot name number text children (schedule_among (clauses_among (trees_in rest))) parts.0
    (inside-sized rest (subst (λ (newest : Bool). AreSized newest (inside_acts rest)) (first-newest true children) parts.1))
inside-sized (Child (Node other spot name number text children) rest) sized = inside-sized rest sized

-- ---- the forms of children

-- only the last child may be absent
abbrev InRow : Children → Type 0
InRow Over = Unit {0}
InRow (Absent rest) = IsOver rest
InRow (Child tree rest) = InRow rest

in-row : (test : NodeKind → Bool) (children : Children) → AreInRow test children → InRow children
unfolding AreInRow
in-row test Over row = tt
in-row test (Absent rest) row = row
in-row test (Child tree rest) row = in-row test rest row.1

over-row : (children : Children) → IsOver children → InRow children
over-row Over is = tt
over-row (Absent rest) is = absurd is
over-row (Child tree rest) is = absurd is

child-row : (test : NodeKind → Bool) (next : Children → Type 0) → ((rest : Children) → next rest → InRow rest) → (children : Children)
    → HasChild test next children → InRow children
child-row test next each Over form = absurd form
child-row test next each (Absent rest) form = absurd form
child-row test next each (Child tree rest) form = each rest form.1

last-row : (children : Children) → HasPart is_quiet IsOver children → InRow children
last-row Over form = absurd form
last-row (Absent rest) form = form
last-row (Child tree rest) form = over-row rest form.1

one-row : (children : Children) → HasChild is_quiet IsOver children → InRow children
one-row children form = child-row is_quiet IsOver over-row children form

two-row : (children : Children) → HasChild is_quiet (HasChild is_quiet IsOver) children → InRow children
two-row children form = child-row is_quiet (HasChild is_quiet IsOver) one-row children form

if-row : (children : Children) → HasChild is_quiet (HasChild is_quiet (HasPart is_quiet IsOver)) children → InRow children
if-row children form =
    child-row is_quiet (HasChild is_quiet (HasPart is_quiet IsOver)) (λ rest form. child-row is_quiet
    (HasPart is_quiet IsOver) last-row rest form) children form

over-sized : (children : Children) → IsOver children → SizedEach children
unfolding EachConstructIn
over-sized Over is = tt
over-sized (Absent rest) is = absurd is
over-sized (Child tree rest) is = absurd is

declared-sized : (tree : Tree) → IsTrue (is_declared (kind_of tree)) → Sized tree
unfolding EachConstruct
declared-sized (Node node.Name spot name number text children) is = tt
declared-sized (Node other spot name number text children) is = never is

names-sized : (children : Children) → AreInRow is_declared children → SizedEach children
unfolding AreInRow EachConstructIn
names-sized Over row = tt
names-sized (Absent rest) row = over-sized rest row
names-sized (Child tree rest) row = (declared-sized tree row.0, names-sized rest row.1)

head-sized : (tree : Tree) → is_head (kind_of tree) ≡ true → Sized tree
unfolding EachConstruct
head-sized (Node (node.Clause lead) spot name number text children) is = tt
head-sized (Node node.Name spot name number text children) is = tt
head-sized (Node other spot name number text children) is = cc

-- a head, or what else a construct has
part-sized : (tree : Tree) (newest : Bool) (some : List Act) (head : Bool) → is_head (kind_of tree) ≡ head → (AreSized newest some → Sized tree)
    → AreSized newest (if head then [] else some) → Sized tree
part-sized tree newest some true is each sized = head-sized tree is
part-sized tree newest some false is each sized = each sized

-- ---- statements

mutual
  unfolding acts each first_part second_part third_part statements IsFormed AreFormed AreInRow EachConstruct EachConstructIn AreSized

  tree-sized : (tree : Tree) → IsFormed tree → (manner : Role) (newest : Bool) → AreSized newest (acts manner tree) → Sized tree
  tree-sized (Node node.Globals spot name number text children) formed manner newest sized =
      each-sized children (in-row is_global children formed.0) formed.1 role.Plain newest sized
  tree-sized (Node node.Locks spot name number text children) formed manner newest sized = names-sized children formed.0
  tree-sized (Node node.Block spot name number text children) formed manner newest sized =
      each-sized children (in-row is_part children formed.0) formed.1 role.Plain newest
      (sized_both newest (each role.Plain children) (Close ∷ []) sized.1).0
  tree-sized (Node node.Locals spot name number text children) formed manner newest sized =
      each-sized children (in-row is_local children formed.0) formed.1 role.Plain newest sized
  tree-sized (Node node.If spot name number text children) formed manner newest sized =
      each-sized children (if-row children formed.0) formed.1 role.Plain newest sized
  tree-sized (Node node.While spot name number text children) formed manner newest sized =
      each-sized children (two-row children formed.0) formed.1 role.Plain newest sized
  tree-sized (Node node.For spot name number text children) formed manner newest sized =
      first-part-sized children formed.0 formed.1 (looped manner) newest (sized_both newest (first_part (looped manner) children)
      (Close ∷ []) sized.1).0
  tree-sized (Node (node.Construct which) spot name number text children) formed manner newest sized =
      let enter = Enter spot which (name_of_critical children) in
      let odd = odd_loop which children in
      let body = statements (statement_role which children) children in
      let inside = inside_acts children in
      let p1 = sized_both newest (outside_acts children ++ enter ∷ inside ++ odd ++ body) (Leave ∷ []) sized in
      let p2 = sized_both newest (outside_acts children ++ enter ∷ inside ++ odd) body p1.0 in
      let p3 = sized_both newest (outside_acts children ++ enter ∷ inside) odd p2.0 in
      let p4 = sized_both newest (outside_acts children) (enter ∷ inside) p3.0 in
      (inside-sized children p4.1.1, statements-sized children formed.0 formed.1 (statement_role which children) _ p2.1)
  tree-sized (Node node.Section spot name number text children) formed manner newest sized =
      each-sized children (one-row children formed.0) formed.1 role.Plain newest sized
  tree-sized (Node other spot name number text children) formed manner newest sized = tt

  each-sized : (children : Children) → InRow children → AreFormed children → (manner : Role) (newest : Bool) → AreSized newest (each manner children)
      → SizedEach children
  each-sized Over row formed manner newest sized = tt
  each-sized (Absent rest) row formed manner newest sized = over-sized rest row
  each-sized (Child tree rest) row formed manner newest sized =
      let both = sized_both newest (acts manner tree) (each manner rest) sized in
      (tree-sized tree formed.0 manner newest both.0, each-sized rest row formed.1 manner _ both.1)

  first-part-sized : (children : Children) → HasPart is_first_part (HasPart is_quiet (HasPart is_quiet (HasChild is_quiet IsOver))) children
      → AreFormed children → (mark : List Act) (newest : Bool) → AreSized newest (first_part mark children) → SizedEach children
  first-part-sized Over form formed mark newest sized = absurd form
  first-part-sized (Absent rest) form formed mark newest sized = second-part-sized rest form formed mark newest sized
  first-part-sized (Child tree rest) form formed mark newest sized =
      let both = sized_both newest (acts role.Plain tree) (second_part mark rest) sized in
      (tree-sized tree formed.0 role.Plain newest both.0, second-part-sized rest form.1 formed.1 mark _ both.1)

  second-part-sized : (children : Children) → HasPart is_quiet (HasPart is_quiet (HasChild is_quiet IsOver)) children → AreFormed children
      → (mark : List Act) (newest : Bool) → AreSized newest (second_part mark children) → SizedEach children
  second-part-sized Over form formed mark newest sized = absurd form
  second-part-sized (Absent rest) form formed mark newest sized = third-part-sized rest form formed mark newest sized
  second-part-sized (Child tree rest) form formed mark newest sized =
      let both = sized_both newest (acts role.Plain tree) (third_part mark rest) sized in
      (tree-sized tree formed.0 role.Plain newest both.0, third-part-sized rest form.1 formed.1 mark _ both.1)

  third-part-sized : (children : Children) → HasPart is_quiet (HasChild is_quiet IsOver) children → AreFormed children →
      (mark : List Act) (newest : Bool)
      → AreSized newest (third_part mark children) → SizedEach children
  third-part-sized Over form formed mark newest sized = absurd form
  third-part-sized (Absent rest) form formed mark newest sized =
      each-sized rest (one-row rest form) formed role.Plain _ (sized_both newest mark (each role.Plain rest) sized).1
  third-part-sized (Child tree rest) form formed mark newest sized =
      let both = sized_both newest (acts role.Plain tree) (mark ++ each role.Plain rest) sized in (
        tree-sized tree formed.0 role.Plain newest both.0,
        each-sized rest (one-row rest form.1) formed.1 role.Plain _ (sized_both _ mark (each role.Plain rest) both.1).1,
      )

  statements-sized : (children : Children) → AreInRow is_construct_part children → AreFormed children → (manner : Role) (newest : Bool)
      → AreSized newest (statements manner children) → SizedEach children
  statements-sized Over row formed manner newest sized = tt
  statements-sized (Absent rest) row formed manner newest sized = over-sized rest row
  statements-sized (Child tree rest) row formed manner newest sized =
      let both = sized_both newest (if is_head (kind_of tree) then [] else acts manner tree) (statements manner rest) sized in (
        part-sized tree newest (acts manner tree) (is_head (kind_of tree)) refl
            (λ sized. tree-sized tree formed.0 manner newest sized) both.0,
        statements-sized rest row.1 formed.1 manner _ both.1,
      )

-- ---- functions

abbrev IfFunction : Tree → Type 0
IfFunction tree = IsTrue (is_function (kind_of tree)) → Sized (body_of tree)

module _ (gives : Returns) (spot : Spot) (other number : ℕ) (text : List ℕ) (newest : Bool) where
  abbrev Named : Children → Type 0
  Named children = AreSized newest (function gives children) → Sized (body_of (Node (node.Function gives) spot other number text children))

  third-child : (named : Tree) (params : NodeKind) (s1 : Spot) (n1 u1 : ℕ) (t1 : List ℕ) (parameters children : Children) →
      HasChild is_block IsOver children
      → AreFormed children → Named (Child named (Child (Node params s1 n1 u1 t1 parameters) children))
  unfolding function AreFormed IsFormed EachConstruct AreSized
  third-child named params s1 n1 u1 t1 parameters (Child (Node node.Block s2 n2 u2 t2 items) rest) form formed sized =
      let before = (sized_both _ (names naming.Parameters parameters ++ each role.Plain items) (End ∷ []) sized.1).0 in
      each-sized items (in-row is_part items formed.0.0) formed.0.1 role.Plain _
      (sized_both _ (names naming.Parameters parameters) (each role.Plain items) before).1
  third-child named params s1 n1 u1 t1 parameters (Child (Node kind s2 n2 u2 t2 items) more) form formed sized = never form.0
  third-child named params s1 n1 u1 t1 parameters Over form formed sized = absurd form
  third-child named params s1 n1 u1 t1 parameters (Absent more) form formed sized = absurd form

  second-child : (named : Tree) (children : Children) → HasChild is_params (HasChild is_block IsOver) children → AreFormed children
      → Named (Child named children)
  unfolding AreFormed
  second-child named (Child (Node params s1 n1 u1 t1 parameters) children) form formed sized =
      third-child named params s1 n1 u1 t1 parameters children form.1 formed.1 sized
  second-child named Over form formed sized = absurd form
  second-child named (Absent more) form formed sized = absurd form

  first-child : (children : Children) → HasChild is_declared (HasChild is_params (HasChild is_block IsOver)) children → AreFormed children →
      Named children
  unfolding AreFormed
  first-child (Child named children) form formed sized = second-child named children form.1 formed.1 sized
  first-child Over form formed sized = absurd form
  first-child (Absent more) form formed sized = absurd form

file-sized : (children : Children) → AreInRow is_file_part children → AreFormed children → (newest : Bool) → AreSized newest (each role.Plain children)
    → EachTree IfFunction (trees_in children)
unfolding acts each trees_in AreInRow AreFormed IsFormed
file-sized Over row formed newest sized = tt
file-sized (Absent rest) row formed newest sized = tt
file-sized (Child (Node (node.Function gives) spot name number text children) rest) row formed newest sized =
    let both = sized_both newest (function gives children) (each role.Plain rest) sized in
    (λ is. first-child gives spot name number text newest children formed.0.0 formed.0.1 both.0, file-sized rest row.1 formed.1 _ both.1)
file-sized (Child (Node kind spot name number text children) rest) row formed newest sized =
    let both = sized_both newest (acts role.Plain (Node kind spot name number text children)) (each role.Plain rest) sized in
    (λ is. never is, file-sized rest row.1 formed.1 _ both.1)

root-sized : (root : Tree) → kind_of root ≡ node.Program → IsFormed root → (newest : Bool) → AreSized newest (acts role.Plain root) →
    EachTree IfFunction (parts root)
unfolding acts IsFormed
root-sized (Node node.Program spot name number text children) kind formed newest sized = file-sized children formed.0 formed.1 newest sized
root-sized (Node other spot name number text children) kind formed newest sized = cc

-- whichever function is named
is-named : (is same : Bool) → (if is then same else false) ≡ true → is ≡ true
is-named true same found = refl
is-named false same found = cc

chosen-sized : (name : ℕ) (tree other : Tree) (found : Bool) → is_function_named name tree ≡ found → IfFunction tree → Sized (body_of other)
    → Sized (body_of (if found then tree else other))
chosen-sized name tree other false is sized also = also
chosen-sized name tree other true is sized also = sized (is-named (is_function (kind_of tree)) _ is)

named-sized : (name : ℕ) (trees : List Tree) → EachTree IfFunction trees → Sized (body_of (function_among name trees))
unfolding function_among EachConstruct
named-sized name [] are = tt
named-sized name (tree ∷ trees) are =
    chosen-sized name tree (function_among name trees) (is_function_named name tree) refl are.0 (named-sized name trees are.1)

pub functions-sized : (program : TreeView) → Checked program → IsProgramFormed program → (name : ℕ) → Sized (body_of (function_named program name))
functions-sized program checked formed name =
    let sized = sized_both false (acts role.Plain (root_tree program)) (Finish program.end ∷ []) (checked_is_sized program checked) in
    named-sized name (parts (root_tree program)) (root-sized (root_tree program) formed.kind formed.formed false sized.0)
