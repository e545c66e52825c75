-- A statement of a program that breaks no rule uses only names that are in scope.
use Rattle.std.specs.Prelude.{ℕ, ◌<◌, ◌≡◌, ◌||◌, ◌&&◌, not, ◌==◌, if◌then◌else◌, zero, suc, Bool, true, false, IsTrue, List, [], ◌∷◌, ◌++◌, length, Option, Some, None, IfSome, is_some, refl}
use Rattle.std.specs.List.{All, Contains}
use Rattle.std.proofs.Common.{arith, ap, sym, ◌∙◌, append-nil, subst}
use Rattle.std.proofs.lemmas.List.Elements.{All-cons, All-head, All-nil, Contains-append_left}
use Rattle.c_tokens.specs.declared.token.Spot.{Spot}
use Rattle.c_syntax.specs.declared.node.Directive.{Directive}
use Rattle.c_syntax.specs.declared.node.Standalone.TheVariants as standalone
use Rattle.c_syntax.specs.declared.node.NodeKind.{NodeKind}
use Rattle.c_syntax.specs.declared.node.NodeKind.TheVariants as node
use Rattle.c_syntax.specs.language.Tree.{Tree, Children, kind_of, name_of, spot_of}
use Rattle.c_syntax.specs.language.Tree.Tree.{Node}
use Rattle.c_syntax.specs.language.Tree.Children.{Over, Child, Absent}
use Rattle.c_syntax.specs.language.Numbered.{TreeView}
use Rattle.c_check.specs.declared.acts.act.Act.{Act}
use Rattle.c_check.specs.declared.acts.act.Act.TheVariants.{Open, Close, Declare, Use, Print, Return, Enter, OddLoop, Leave}
use Rattle.c_check.specs.declared.acts.act.Thing.TheVariants as thing
use Rattle.c_check.specs.declared.acts.act.Usage.{Usage}
use Rattle.c_check.specs.declared.acts.act.Usage.TheVariants as usage
use Rattle.c_check.specs.declared.acts.act.DataClause.TheVariants as clause
use Rattle.c_check.specs.declared.acts.role.Role.{Role}
use Rattle.c_check.specs.declared.acts.role.Role.TheVariants as role
use Rattle.c_check.specs.declared.acts.role.Naming.{Naming}
use Rattle.c_check.specs.declared.acts.role.Naming.TheVariants as naming
use Rattle.c_check.specs.declared.scopes.declared.Declared.{Declared}
use Rattle.c_check.specs.Acts.{acts, clause_outside, each, first_part, init, outside_acts, second_part, statements, target, third_part}
use Rattle.c_check.specs.Checked.{after_all}
use Rattle.c_check.specs.Clauses.{data_of, inside_acts}
use Rattle.c_check.specs.Declarations.{Declarations, find, scope_begun}
use Rattle.c_check.specs.Here.{Here, after, used}
use Rattle.c_check.specs.Loops.{has_form, is_place}
use Rattle.c_check.specs.NameLists.{child_count, names}
use Rattle.c_check.specs.LoopParts.{LoopParts, statement_parts}
use Rattle.c_check.specs.Printed.{as_many, numbers_in}
use Rattle.c_check.specs.Rules.{where_so}
use Rattle.c_check.specs.Statements.{is_head, looped, name_of_critical, odd_loop, shares_loop, statement_of, statement_role}
use Rattle.c_check.specs.Usages.{assigned, call_value, place_usage, returned_of}
use Rattle.c_model.specs.Parts.{trees_in}
use Rattle.c_model.specs.Clauses.{clauses_among}
use Rattle.c_model.specs.Copies.{is_loop}
use Rattle.c_model.specs.Loops.{is_declared, loop_of}
use Rattle.c_model.specs.Formed.{AreFormed, AreInRow, HasChild, HasPart, IsFormed, IsOver, is_construct_part, is_first_part, is_local, is_part, is_quiet}
use Rattle.c_model.specs.Scoped.{IsCallable, Knows, KnowsEach, KnowsInOrder, KnowsLoop, KnowsStatements, declared_among, declared_name, first_child, first_names, part_names, with_shared, Unless}
use Rattle.c_model.proofs.ScopeTrees.{IsPart, knows_at, knows_statement, statements_more}
use Rattle.c_model.proofs.ScopeMeaning.{knows_sees}
use Rattle.c_model.proofs.ScopeLoops.{IsLoopSeen, loop_seen, one_quiet, parts_there, two_quiet}
use Rattle.c_model.proofs.ScopeClauses.{AreClausesSeen, IsClauseSeen, form_of, formed_statement, inside_same, opens}
use Rattle.c_model.proofs.ScopeActs.{Does, FitsIn, IsUnbroken, Quiet, after_both, called_is_known, does_assoc, does_both, does_declare, does_in_scope, does_more, does_nothing, fits_begun, is_called, quiet_both, used_is_known}

never : {A : Type 0} → IsTrue false → A
never is = absurd (cc)

-- what a node declares for what stands behind it
abbrev brings : NodeKind → Tree → List ℕ
brings node.Locals tree = part_names tree
brings node.Locks tree = part_names tree
brings node.LocalVar tree = name_of tree ∷ []
brings node.LocalArray tree = name_of tree ∷ []
brings node.LocalSet tree = name_of tree ∷ []
brings node.Init tree = first_names tree
brings other tree = []

-- a part of a function
abbrev pub is_inner : NodeKind → Bool
is_inner node.Locals = true
is_inner node.Locks = true
is_inner node.LocalVar = true
is_inner node.LocalArray = true
is_inner node.LocalSet = true
is_inner node.Init = true
is_inner other = is_quiet other

pub quiet_inner : (kind : NodeKind) → IsTrue (is_quiet kind) → IsTrue (is_inner kind)
quiet_inner node.Locals is = refl
quiet_inner node.Locks is = refl
quiet_inner node.LocalVar is = refl
quiet_inner node.LocalArray is = refl
quiet_inner node.LocalSet is = refl
quiet_inner node.Init is = refl
quiet_inner other is = is

pub part_inner : (kind : NodeKind) → IsTrue (is_part kind) → IsTrue (is_inner kind)
part_inner node.Locals is = refl
part_inner node.Locks is = refl
part_inner other is = quiet_inner other is

pub first_inner : (kind : NodeKind) → IsTrue (is_first_part kind) → IsTrue (is_inner kind)
first_inner node.Init is = refl
first_inner other is = quiet_inner other is

pub local_inner : (kind : NodeKind) → IsTrue (is_local kind) → IsTrue (is_inner kind)
local_inner node.LocalVar is = refl
local_inner node.LocalArray is = refl
local_inner node.LocalSet is = refl
local_inner other is = never is

quiet-brings : (kind : NodeKind) (tree : Tree) → IsTrue (is_quiet kind) → brings kind tree ≡ []
quiet-brings node.Locals tree is = never is
quiet-brings node.Locks tree is = never is
quiet-brings node.LocalVar tree is = never is
quiet-brings node.LocalArray tree is = never is
quiet-brings node.LocalSet tree is = never is
quiet-brings node.Init tree is = never is
quiet-brings other tree is = refl

none-more : (some more : List ℕ) → more ≡ [] → IsPart (some ++ more) some
none-more some more is name there = subst (λ (names : List ℕ). Contains names name) (ap (λ (more : List ℕ). some ++ more) is ∙ append-nil some) there

quiet-part : (tree : Tree) (names more : List ℕ) → brings (kind_of tree) tree ≡ [] → IsPart (names ++ brings (kind_of tree) tree) (names ++ more)
quiet-part tree names more is name there = Contains-append_left names more name (none-more names _ is name there)

part-brings : (tree : Tree) (names : List ℕ) → IsTrue (is_part (kind_of tree)) → IsPart (names ++ brings (kind_of tree) tree) (names ++ part_names tree)
part-brings (Node node.Locals spot name number text children) names is = λ name there. there
part-brings (Node node.Locks spot name number text children) names is = λ name there. there
part-brings (Node kind spot name number text children) names is = quiet-part (Node kind spot name number text children) names _ (quiet-brings kind (Node kind spot name number text children) is)

first-brings : (tree : Tree) (names : List ℕ) → IsTrue (is_first_part (kind_of tree)) → IsPart (names ++ brings (kind_of tree) tree) (names ++ first_names tree)
first-brings (Node node.Init spot name number text children) names is = λ name there. there
first-brings (Node kind spot name number text children) names is = quiet-part (Node kind spot name number text children) names _ (quiet-brings kind (Node kind spot name number text children) is)

local-brings : (tree : Tree) (names : List ℕ) → IsTrue (is_local (kind_of tree)) → IsPart (names ++ brings (kind_of tree) tree) (names ++ declared_name tree)
local-brings (Node node.LocalVar spot name number text children) names is = λ name there. there
local-brings (Node node.LocalArray spot name number text children) names is = λ name there. there
local-brings (Node node.LocalSet spot name number text children) names is = λ name there. there
local-brings (Node other spot name number text children) names is = never is

-- acts that declare nothing
abbrev Silent : List Act → Type 0
Silent some = (here : Here) → (after_all here some).names ≡ here.names

used-silent : (here : Here) (spot : Spot) (found : Option Declared) → (used here spot found).names ≡ here.names
used-silent here spot None = refl
used-silent here spot (Some it) = refl

use-silent : (name : ℕ) (spot : Spot) (used : Usage) → Silent (Use name spot used ∷ [])
unfolding after_all after
use-silent name spot used here = used-silent here spot (find here.names.visible name)

part-in-shared : (shares : Bool) (known : List ℕ) (name : ℕ) → IsPart known (if shares then known ++ name ∷ [] else known)
part-in-shared true known name = λ one there. Contains-append_left known (name ∷ []) one there
part-in-shared false known name = λ one there. there

part-shared : (known : List ℕ) (construct : Tree) → IsPart known (with_shared known construct)
part-shared known construct = part-in-shared (is_loop construct) known (name_of (loop_of construct).variable)

module _ (program : TreeView) where
  does-silent : (names : List ℕ) (here : Here) (some : List Act) → Silent some → FitsIn program names here.names → Does program names here.names (after_all here some).names
  does-silent names here some silent fits = subst (λ (new : Declarations). Does program names here.names new) (sym (silent here)) (does_nothing program names here.names fits)

  does-then : (some more : List ℕ) (here : Here) (first second : List Act) → Does program some here.names (after_all here first).names → Does program more (after_all here first).names (after_all (after_all here first) second).names → Does program more here.names (after_all here (first ++ second)).names
  does-then some more here first second one two =
      subst (λ (new : Here). Does program more here.names new.names) (sym (after_both here first second)) (does_both program some more here.names _ _ one two)

  -- acts in a scope of their own
  does-scoped : (names more : List ℕ) (here : Here) (some : List Act) → FitsIn program names here.names → Does program more (scope_begun here.names) (after_all (after here Open) some).names → Does program names here.names (after_all here (Open ∷ some ++ Close ∷ [])).names
  unfolding after_all after
  does-scoped names more here some fits does =
      subst (λ (new : Here). Does program names here.names new.names) (sym (after_both (after here Open) some (Close ∷ []))) (does_in_scope program names more here.names _ fits does)

  quiet-scoped : (here : Here) (some : List Act) → Quiet here (Open ∷ some ++ Close ∷ []) → Quiet (after here Open) some
  unfolding Quiet
  quiet-scoped here some quiet = (quiet_both (after here Open) some (Close ∷ []) quiet.1).0

  -- what is shown of a tree by its acts
  record Shown (names more : List ℕ) (tree : Tree) (old new : Here) : Type 0 where
    knows : Knows program names tree
    does : Does program more old.names new.names

  -- a few children in a row
  else_quiet : (children : Children) → HasPart is_quiet IsOver children → AreInRow is_quiet children
  unfolding AreInRow
  else_quiet Over form = absurd form
  else_quiet (Absent rest) form = form
  else_quiet (Child tree Over) form = (form.0, tt)
  else_quiet (Child tree (Child other rest)) form = absurd form.1
  else_quiet (Child tree (Absent rest)) form = absurd form.1

  pub if_quiet : (children : Children) → HasChild is_quiet (HasChild is_quiet (HasPart is_quiet IsOver)) children → AreInRow is_quiet children
  unfolding AreInRow
  if_quiet (Child condition (Child statement rest)) form = (form.0, (form.1.0, else_quiet rest form.1.1))
  if_quiet (Child condition Over) form = absurd form.1
  if_quiet (Child condition (Absent rest)) form = absurd form.1
  if_quiet Over form = absurd form
  if_quiet (Absent rest) form = absurd form

  over-row : (children : Children) → IsOver children → AreInRow is_declared children
  unfolding AreInRow
  over-row Over is = tt
  over-row (Child tree rest) is = absurd is
  over-row (Absent rest) is = absurd is

  target_two : (children : Children) → HasChild is_place (HasChild is_quiet IsOver) children → HasChild is_place (AreInRow is_quiet) children
  target_two (Child tree rest) form = (form.0, one_quiet rest form.1)
  target_two Over form = absurd form
  target_two (Absent rest) form = absurd form

  target_one : (children : Children) → HasChild is_place IsOver children → HasChild is_place (AreInRow is_quiet) children
  unfolding AreInRow
  target_one (Child tree Over) form = (form.0, tt)
  target_one (Child tree (Child other rest)) form = absurd form.1
  target_one (Child tree (Absent rest)) form = absurd form.1
  target_one Over form = absurd form
  target_one (Absent rest) form = absurd form

  -- names and lists of them
  name-known : (names : List ℕ) (tree : Tree) → IsTrue (is_declared (kind_of tree)) → IsFormed tree → Knows program names tree
  unfolding IsFormed Knows KnowsEach
  name-known names (Node node.Name spot name number text Over) is formed = (tt, tt)
  name-known names (Node node.Name spot name number text (Child tree rest)) is formed = absurd formed.0
  name-known names (Node node.Name spot name number text (Absent rest)) is formed = absurd formed.0
  name-known names (Node other spot name number text children) is formed = never is

  names-known : (names : List ℕ) (children : Children) → AreInRow is_declared children → AreFormed children → KnowsEach program names children
  unfolding AreInRow AreFormed KnowsEach
  names-known names Over row formed = tt
  names-known names (Child tree rest) row formed = (name-known names tree row.0 formed.0, names-known names rest row.1 formed.1)
  names-known names (Absent Over) row formed = tt
  names-known names (Absent (Child tree rest)) row formed = absurd row
  names-known names (Absent (Absent rest)) row formed = absurd row

  -- names that are used as locks or in clauses
  abbrev is_use : Naming → Bool
  is_use naming.Locked = true
  is_use (naming.Mentioned which) = true
  is_use other = false

  uses-known : (why : Naming) (children : Children) → IsTrue (is_use why) → (here : Here) (known : List ℕ) → FitsIn program known here.names → Quiet here (names why children)
      → All (λ (tree : Tree). Contains known (name_of tree)) (trees_in children) × Does program known here.names (after_all here (names why children)).names
  unfolding names trees_in Quiet after_all
  uses-known why Over is here known fits quiet = (All-nil (λ (tree : Tree). Contains known (name_of tree)), does_nothing program known here.names fits)
  uses-known why (Absent rest) is here known fits quiet = (All-nil (λ (tree : Tree). Contains known (name_of tree)), does_nothing program known here.names fits)
  uses-known naming.Locked (Child tree rest) is here known fits quiet =
      let silent = use-silent (name_of tree) (spot_of tree) usage.Locked in
      let one = does-silent known here (Use (name_of tree) (spot_of tree) usage.Locked ∷ []) silent fits in
      let more = uses-known naming.Locked rest is (after here (Use (name_of tree) (spot_of tree) usage.Locked)) known one.fits quiet.1 in (
        All-cons (λ (tree : Tree). Contains known (name_of tree)) tree (trees_in rest) (used_is_known program known here (name_of tree) (spot_of tree) usage.Locked fits refl quiet.0) more.0,
        does_both program known known here.names _ _ one more.1,
      )
  uses-known (naming.Mentioned which) (Child tree rest) is here known fits quiet =
      let silent = use-silent (name_of tree) (spot_of tree) (usage.Listed which) in
      let one = does-silent known here (Use (name_of tree) (spot_of tree) (usage.Listed which) ∷ []) silent fits in
      let more = uses-known (naming.Mentioned which) rest is (after here (Use (name_of tree) (spot_of tree) (usage.Listed which))) known one.fits quiet.1 in (
        All-cons (λ (tree : Tree). Contains known (name_of tree)) tree (trees_in rest) (used_is_known program known here (name_of tree) (spot_of tree) (usage.Listed which) fits refl quiet.0) more.0,
        does_both program known known here.names _ _ one more.1,
      )
  uses-known naming.Parameters (Child tree rest) is here known fits quiet = never is
  uses-known naming.Locks (Child tree rest) is here known fits quiet = never is
  uses-known (naming.Listed which) (Child tree rest) is here known fits quiet = never is

  -- the locks of a block
  locks-known : (children : Children) → AreInRow is_declared children → AreFormed children → (here : Here) (known : List ℕ) → FitsIn program known here.names
      → KnowsInOrder program declared_name known children × Does program (known ++ declared_among (trees_in children)) here.names (after_all here (names naming.Locks children)).names
  unfolding names trees_in after_all after AreInRow AreFormed KnowsInOrder declared_among
  locks-known Over row formed here known fits = (tt, does_more program known _ _ _ (λ name there. Contains-append_left known [] name there) (does_nothing program known here.names fits))
  locks-known (Absent rest) row formed here known fits = (tt, does_more program known _ _ _ (λ name there. Contains-append_left known [] name there) (does_nothing program known here.names fits))
  locks-known (Child (Node node.Name spot name number text children) rest) row formed here known fits =
      let one = does_declare program known here.names name thing.Lock refl fits in
      let more = locks-known rest row.1 formed.1 (after here (Declare name spot thing.Lock)) (known ++ name ∷ []) one.fits in (
        (name-known known (Node node.Name spot name number text children) refl formed.0, more.0),
        does_assoc program known (name ∷ []) (declared_among (trees_in rest)) here.names _ (does_both program _ _ here.names _ _ one more.1),
      )
  locks-known (Child (Node other spot name number text children) rest) row formed here known fits = never row.0

  -- a child that declares nothing, and what is behind it
  quiet-does : (known : List ℕ) (tree : Tree) (old new : Declarations) → IsTrue (is_quiet (kind_of tree)) → Does program (known ++ brings (kind_of tree) tree) old new → Does program known old new
  quiet-does known tree old new is does = does_more program _ known old new (none-more known _ (quiet-brings (kind_of tree) tree is)) does

  plain : (known : List ℕ) (tree : Tree) (old new : Here) → Knows program known tree → Does program known old.names new.names → Shown known (known ++ []) tree old new
  plain known tree old new knows does = record { knows = knows; does = does_more program known (known ++ []) _ _ (λ name there. Contains-append_left known [] name there) does }

  place-known : (known : List ℕ) (tree : Tree) → IsTrue (is_place (kind_of tree)) → Knows program known tree → Contains known (name_of tree)
  unfolding Knows
  place-known known (Node node.Place spot name number text children) is knows = knows.0
  place-known known (Node other spot name number text children) is knows = never is

  place-usage : (children : Children) → is_called (place_usage children) ≡ false
  place-usage Over = refl
  place-usage (Child tree rest) = refl
  place-usage (Absent rest) = refl

  assigned-silent : (around : Role) (usage : Usage) (name : ℕ) → Silent (assigned around usage name)
  unfolding after_all after
  assigned-silent role.Target usage.Plain name here = refl
  assigned-silent role.Target other name here = refl
  assigned-silent role.Plain other name here = refl
  assigned-silent role.Used other name here = refl
  assigned-silent (role.Looped loop) other name here = refl

  looped-silent : (around : Role) → Silent (looped around)
  unfolding after_all after
  looped-silent (role.Looped name) here = refl
  looped-silent role.Plain here = refl
  looped-silent role.Used here = refl
  looped-silent role.Target here = refl

  pub count_same : (children : Children) → child_count children ≡ length (trees_in children)
  unfolding child_count trees_in
  count_same Over = refl
  count_same (Absent rest) = refl
  count_same (Child tree rest) = omega (arith, count_same rest)

  -- children one after another, what they know and what is left of the acts behind them
  abbrev Walked : List ℕ → Type 0 → Here → List Act → Type 0
  Walked after knows here some = knows × Does program after here.names (after_all here some).names

  then-walked : (known : List ℕ) (first second : Type 0) (here : Here) (some more : List Act) → Walked known first here some → Walked known second (after_all here some) more → Walked known (first × second) here (some ++ more)
  then-walked known first second here some more one two = ((one.0, two.0), does-then known known here some more one.1 two.1)

  place-quiet : (kind : NodeKind) → IsTrue (is_place kind) → IsTrue (is_quiet kind)
  place-quiet node.Place is = refl
  place-quiet other is = never is

  pub place_inner : (kind : NodeKind) → IsTrue (is_place kind) → IsTrue (is_inner kind)
  place_inner node.Place is = refl
  place_inner other is = never is

  pub code_quiet : (kind : NodeKind) → IsTrue (is_construct_part kind) → is_head kind ≡ false → IsTrue (is_quiet kind)
  code_quiet (node.Clause lead) is apart = absurd (cc)
  code_quiet other is apart = is

  elements : (number : ℕ) (more many : Bool) (spot : Spot) → where_so ((number == 0 || more) || many) spot ≡ [] → 0 < number
  elements zero more many spot is = absurd (cc)
  elements (suc number) more many spot is = omega arith

  pub has_elements : (here : Here) (name : ℕ) (spot : Spot) (number : ℕ) → IsUnbroken here (Declare name spot (thing.Array number)) → 0 < number
  has_elements here name spot number unbroken = elements number _ _ spot unbroken.wrong

  odd-silent : (shares form : Bool) → Silent (if shares && not form then OddLoop ∷ [] else [])
  unfolding after_all after
  odd-silent true true here = refl
  odd-silent true false here = refl
  odd-silent false form here = refl

  head-walked : (known : List ℕ) (head : Bool) (knows : Type 0) (here : Here) (some : List Act) → FitsIn program known here.names → (head ≡ false → Quiet here some → Walked known knows here some) → Quiet here (if head then [] else some)
      → Walked known (Unless head knows) here (if head then [] else some)
  unfolding after_all
  head-walked known true knows here some fits each quiet = (tt, does_nothing program known here.names fits)
  head-walked known false knows here some fits each quiet = each refl quiet

  -- a construct, where what its clauses compute and what it executes is known
  loop-of : (known : List ℕ) (shares : Bool) (statement : Tree) → (shares ≡ true → has_form statement ≡ true) → IsFormed statement → Knows program known statement
      → IfSome (if shares then statement_parts statement else None) (λ (parts : LoopParts). IsLoopSeen known parts.variable parts.start parts.end)
  loop-of known false statement form formed knows = tt
  loop-of known true statement form formed knows = loop_seen program known statement (form refl) formed knows

  loop-there : (shares : Bool) (statement : Tree) → (shares ≡ true → has_form statement ≡ true) → IsFormed statement → shares ≡ true → is_some (if shares then statement_parts statement else None) ≡ true
  loop-there false statement form formed is = absurd (cc)
  loop-there true statement form formed is = parts_there program [] statement (form refl) formed

  construct-shown : (which : Directive) (spot : Spot) (name number : ℕ) (text : List ℕ) (children : Children) → AreFormed children → (here : Here) (known : List ℕ) → FitsIn program known here.names
      → (Quiet here (outside_acts children) → Walked known (AreClausesSeen known (clauses_among (trees_in children))) here (outside_acts children))
      → ((now : Here) → FitsIn program known now.names → Quiet now (statements (statement_role which children) children) → Walked known (KnowsStatements program known children) now (statements (statement_role which children) children))
      → Quiet here (outside_acts children ++ Enter spot which (name_of_critical children) ∷ inside_acts children ++ odd_loop which children ++ statements (statement_role which children) children ++ Leave ∷ [])
      → Knows program known (Node (node.Construct which) spot name number text children)
      × Does program known here.names (after_all here (outside_acts children ++ Enter spot which (name_of_critical children) ∷ inside_acts children ++ odd_loop which children ++ statements (statement_role which children) children ++ Leave ∷ [])).names
  unfolding Knows after_all after Quiet
  construct-shown which spot name number text children formed here known fits outside inner quiet =
      let construct = Node (node.Construct which) spot name number text children in
      let enter = Enter spot which (name_of_critical children) in
      let inside = inside_acts children in
      let odd = odd_loop which children in
      let body = statements (statement_role which children) children in
      let p1 = quiet_both here (outside_acts children ++ enter ∷ inside ++ odd ++ body) (Leave ∷ []) quiet in
      let p2 = quiet_both here (outside_acts children ++ enter ∷ inside ++ odd) body p1.0 in
      let p3 = quiet_both here (outside_acts children ++ enter ∷ inside) odd p2.0 in
      let p4 = quiet_both here (outside_acts children) (enter ∷ inside) p3.0 in
      let one = outside p4.0 in
      let before = after_all here (outside_acts children) in
      let two = does-then known known here (outside_acts children) (enter ∷ inside) one.1 (does-silent known before (enter ∷ inside) (λ here. (inside_same children (after here enter)).names_same) one.1.fits) in
      let three = does-then known known here (outside_acts children ++ enter ∷ inside) odd two (does-silent known (after_all here (outside_acts children ++ enter ∷ inside)) odd (odd-silent (shares_loop which) (has_form (statement_of children))) two.fits) in
      let walked = inner (after_all here (outside_acts children ++ enter ∷ inside ++ odd)) three.fits p2.1 in
      let four = does-then known known here (outside_acts children ++ enter ∷ inside ++ odd) body three walked.1 in
      let form = form_of (shares_loop which) (has_form (statement_of children)) (after_all here (outside_acts children ++ enter ∷ inside))
      (subst (λ (now : Here). IsTrue (is_some now.constructs.newest)) (sym (after_both here (outside_acts children) (enter ∷ inside))) ((inside_same children (after before enter)).newest refl)) p3.1
      in
      let statement = knows_statement program known construct walked.0 in (
        (
          opens known construct one.0 (loop-of known (shares_loop which) (statement_of children) form (formed_statement children formed) statement) (loop-there (shares_loop which) (statement_of children) form (formed_statement children formed)),
          statements_more program known (with_shared known construct) (part-shared known construct) children walked.0,
        ),
        does-then known known here (outside_acts children ++ enter ∷ inside ++ odd ++ body) (Leave ∷ []) four (does_nothing program known _ four.fits),
      )

  mutual
    unfolding acts each target first_part second_part third_part init statements outside_acts clause_outside clauses_among AreClausesSeen KnowsStatements IsFormed AreFormed AreInRow Knows KnowsEach KnowsInOrder KnowsLoop Quiet after_all after trees_in declared_among

    tree-known : (tree : Tree) → IsTrue (is_inner (kind_of tree)) → IsFormed tree → (around : Role) (here : Here) (known : List ℕ) → FitsIn program known here.names → Quiet here (acts around tree) → Shown known (known ++ brings (kind_of tree) tree) tree here (after_all here (acts around tree))
    tree-known (Node node.Name spot name number text children) inner formed around here known fits quiet =
        plain known _ here here (name-known known (Node node.Name spot name number text children) refl formed) (does_nothing program known here.names fits)
    tree-known (Node node.Locks spot name number text children) inner formed around here known fits quiet =
        let locks = locks-known children formed.0 formed.1 here known fits in record { knows = locks.0; does = locks.1 }
    tree-known (Node node.Block spot name number text children) inner formed around here known fits quiet =
        let parts = parts_known children formed.0 formed.1 (after here Open) known (fits_begun program known here.names fits) (quiet-scoped here (each role.Plain children) quiet) in
        plain known (Node node.Block spot name number text children) here _ parts.0 (does-scoped known parts.1 here (each role.Plain children) fits parts.2)
    tree-known (Node node.Locals spot name number text children) inner formed around here known fits quiet =
        let locals = locals-known children formed.0 formed.1 here known fits quiet in record { knows = locals.0; does = locals.1 }
    tree-known (Node node.LocalVar spot name number text Over) inner formed around here known fits quiet =
        record { knows = (tt, tt); does = does_declare program known here.names name thing.Int refl fits }
    tree-known (Node node.LocalArray spot name number text Over) inner formed around here known fits quiet =
        record { knows = (has_elements here name spot number quiet.0, tt); does = does_declare program known here.names name (thing.Array number) refl fits }
    tree-known (Node node.LocalSet spot name number text children) inner formed around here known fits quiet =
        let parts = quiet_both here (each role.Used children) (Declare name spot thing.Int ∷ []) quiet in
        let right = each-known children (one_quiet children formed.0) formed.1 role.Used here known fits parts.0 in
        record {
          knows = (tt, right.0);
          does = does-then known (known ++ name ∷ []) here (each role.Used children) (Declare name spot thing.Int ∷ []) right.1 (does_declare program known _ name thing.Int refl right.1.fits);
        }
    tree-known (Node node.Empty spot name number text Over) inner formed around here known fits quiet = plain known _ here here (tt, tt) (does_nothing program known here.names fits)
    tree-known (Node node.If spot name number text children) inner formed around here known fits quiet =
        let walked = each-known children (if_quiet children formed.0) formed.1 role.Plain here known fits quiet in plain known _ here _ (tt, walked.0) walked.1
    tree-known (Node node.While spot name number text children) inner formed around here known fits quiet =
        let walked = each-known children (two_quiet children formed.0) formed.1 role.Plain here known fits quiet in plain known _ here _ (tt, walked.0) walked.1
    tree-known (Node node.For spot name number text children) inner formed around here known fits quiet =
        let parts = first-known children formed.0 formed.1 (looped around) (looped-silent around) (after here Open) known (fits_begun program known here.names fits) (quiet-scoped here (first_part (looped around) children) quiet) in
        plain known (Node node.For spot name number text children) here _ parts.0 (does-scoped known parts.1 here (first_part (looped around) children) fits parts.2)
    tree-known (Node node.Init spot name number text (Child (Node kind place other value bytes below) rest)) inner formed around here known fits quiet =
        let parts = quiet_both here (each role.Plain rest) (Declare other place thing.Int ∷ []) quiet in
        let right = each-known rest (one_quiet rest formed.0.1) formed.1.1 role.Plain here known fits parts.0 in
        record {
          knows = (tt, (name-known known (Node kind place other value bytes below) formed.0.0 formed.1.0, right.0));
          does = does-then known (known ++ other ∷ []) here (each role.Plain rest) (Declare other place thing.Int ∷ []) right.1 (does_declare program known _ other thing.Int refl right.1.fits);
        }
    tree-known (Node node.Return spot name number text children) inner formed around here known fits quiet =
        let parts = quiet_both here (each role.Used children) (Return spot (returned_of children) ∷ []) quiet in
        let walked = each-known children formed.0 formed.1 role.Used here known fits parts.0 in
        plain known _ here _ (tt, walked.0) (does-then known known here (each role.Used children) (Return spot (returned_of children) ∷ []) walked.1 (does_nothing program known _ walked.1.fits))
    tree-known (Node node.SetCall spot name number text children) inner formed around here known fits quiet =
        let walked = target-known children (target_two children formed.0) formed.1 role.Used here known fits quiet in plain known _ here _ walked.0 walked.1
    tree-known (Node node.Step spot name number text children) inner formed around here known fits quiet =
        let walked = each-known children (one_quiet children formed.0) formed.1 role.Plain here known fits quiet in plain known _ here _ (tt, walked.0) walked.1
    tree-known (Node node.Called spot name number text children) inner formed around here known fits quiet =
        let walked = each-known children (one_quiet children formed.0) formed.1 role.Plain here known fits quiet in plain known _ here _ (tt, walked.0) walked.1
    tree-known (Node node.Print spot name number text children) inner formed around here known fits quiet =
        let printed = Print spot (as_many (numbers_in text) (child_count children)) in
        let parts = quiet_both here (each role.Plain children) (printed ∷ []) quiet in
        let walked = each-known children formed.0 formed.1 role.Plain here known fits parts.0 in
        plain known _ here _ (tt, walked.0) (does-then known known here (each role.Plain children) (printed ∷ []) walked.1 (does_nothing program known _ walked.1.fits))
    tree-known (Node (node.LockCall which) spot name number text (Child tree rest)) inner formed around here known fits quiet =
        let uses = uses-known naming.Locked (Child tree rest) refl here known fits quiet in
        plain known _ here _ (All-head (λ (tree : Tree). Contains known (name_of tree)) tree (trees_in rest) uses.0, (name-known known tree formed.0.0 formed.1.0, names-known known rest (over-row rest formed.0.1) formed.1.1)) uses.1
    tree-known (Node node.TestLock spot name number text (Child tree rest)) inner formed around here known fits quiet =
        let uses = uses-known naming.Locked (Child tree rest) refl here known fits quiet in
        plain known _ here _ (All-head (λ (tree : Tree). Contains known (name_of tree)) tree (trees_in rest) uses.0, (name-known known tree formed.0.0 formed.1.0, names-known known rest (over-row rest formed.0.1) formed.1.1)) uses.1
    tree-known (Node (node.Assign setting) spot name number text children) inner formed around here known fits quiet =
        let walked = target-known children (target_two children formed.0) formed.1 role.Plain here known fits quiet in plain known _ here _ walked.0 walked.1
    tree-known (Node (node.Bump which side) spot name number text children) inner formed around here known fits quiet =
        let walked = target-known children (target_one children formed.0) formed.1 role.Plain here known fits quiet in plain known _ here _ walked.0 walked.1
    tree-known (Node node.Place spot name number text children) inner formed around here known fits quiet =
        let first_act = Use name spot (place_usage children) in
        let one = does-silent known here (first_act ∷ []) (use-silent name spot (place_usage children)) fits in
        let parts = quiet_both (after here first_act) (assigned around (place_usage children) name) (each role.Plain children) quiet.1 in
        let two = does-silent known (after here first_act) (assigned around (place_usage children) name) (assigned-silent around (place_usage children) name) one.fits in
        let walked = each-known children formed.0 formed.1 role.Plain (after_all (after here first_act) (assigned around (place_usage children) name)) known two.fits parts.1 in
        plain known _ here _ (used_is_known program known here name spot (place_usage children) fits (place-usage children) quiet.0, walked.0)
        (does_both program known known here.names _ _ one (does-then known known (after here first_act) (assigned around (place_usage children) name) (each role.Plain children) two walked.1))
    tree-known (Node node.Call spot name number text children) inner formed around here known fits quiet =
        let used = usage.Called (child_count children) (call_value around) in
        let one = does-silent known here (Use name spot used ∷ []) (use-silent name spot used) fits in
        let walked = each-known children formed.0 formed.1 role.Plain (after here (Use name spot used)) known one.fits quiet.1 in
        plain known _ here _ (subst (λ (count : ℕ). IsCallable program name count) (count_same children) (called_is_known program known here name spot (child_count children) (call_value around) fits quiet.0), walked.0)
        (does_both program known known here.names _ _ one walked.1)
    tree-known (Node (node.Binary operator) spot name number text children) inner formed around here known fits quiet =
        let walked = each-known children (two_quiet children formed.0) formed.1 role.Plain here known fits quiet in plain known _ here _ (tt, walked.0) walked.1
    tree-known (Node (node.Unary operator) spot name number text children) inner formed around here known fits quiet =
        let walked = each-known children (one_quiet children formed.0) formed.1 role.Plain here known fits quiet in plain known _ here _ (tt, walked.0) walked.1
    tree-known (Node node.Number spot name number text Over) inner formed around here known fits quiet = plain known _ here here (tt, tt) (does_nothing program known here.names fits)
    tree-known (Node node.Paren spot name number text children) inner formed around here known fits quiet =
        let walked = each-known children (one_quiet children formed.0) formed.1 role.Plain here known fits quiet in plain known _ here _ (tt, walked.0) walked.1
    tree-known (Node (node.Getter which) spot name number text Over) inner formed around here known fits quiet = plain known _ here here (tt, tt) (does_nothing program known here.names fits)
    tree-known (Node (node.Standalone standalone.Barrier) spot name number text Over) inner formed around here known fits quiet = plain known _ here here (tt, tt) (does_nothing program known here.names fits)
    tree-known (Node (node.Standalone standalone.Taskwait) spot name number text Over) inner formed around here known fits quiet = plain known _ here here (tt, tt) (does_nothing program known here.names fits)
    tree-known (Node (node.Construct which) spot name number text children) inner formed around here known fits quiet =
        let shown = construct-shown which spot name number text children formed.1 here known fits
        (outside-known children formed.1 here known fits)
        (λ now fits quiet. statements-known children formed.0 formed.1 (statement_role which children) now known fits quiet) quiet
        in
        plain known _ here _ shown.0 shown.1
    tree-known (Node node.Section spot name number text children) inner formed around here known fits quiet =
        let walked = each-known children (one_quiet children formed.0) formed.1 role.Plain here known fits quiet in plain known _ here _ (tt, walked.0) walked.1
    tree-known (Node node.LocalVar spot name number text (Child tree rest)) inner formed around here known fits quiet = absurd formed.0
    tree-known (Node node.LocalVar spot name number text (Absent rest)) inner formed around here known fits quiet = absurd formed.0
    tree-known (Node node.LocalArray spot name number text (Child tree rest)) inner formed around here known fits quiet = absurd formed.0
    tree-known (Node node.LocalArray spot name number text (Absent rest)) inner formed around here known fits quiet = absurd formed.0
    tree-known (Node node.Empty spot name number text (Child tree rest)) inner formed around here known fits quiet = absurd formed.0
    tree-known (Node node.Empty spot name number text (Absent rest)) inner formed around here known fits quiet = absurd formed.0
    tree-known (Node node.Number spot name number text (Child tree rest)) inner formed around here known fits quiet = absurd formed.0
    tree-known (Node node.Number spot name number text (Absent rest)) inner formed around here known fits quiet = absurd formed.0
    tree-known (Node (node.Getter which) spot name number text (Child tree rest)) inner formed around here known fits quiet = absurd formed.0
    tree-known (Node (node.Getter which) spot name number text (Absent rest)) inner formed around here known fits quiet = absurd formed.0
    tree-known (Node (node.Standalone standalone.Barrier) spot name number text (Child tree rest)) inner formed around here known fits quiet = absurd formed.0
    tree-known (Node (node.Standalone standalone.Barrier) spot name number text (Absent rest)) inner formed around here known fits quiet = absurd formed.0
    tree-known (Node (node.Standalone standalone.Taskwait) spot name number text (Child tree rest)) inner formed around here known fits quiet = absurd formed.0
    tree-known (Node (node.Standalone standalone.Taskwait) spot name number text (Absent rest)) inner formed around here known fits quiet = absurd formed.0
    tree-known (Node node.Init spot name number text Over) inner formed around here known fits quiet = absurd formed.0
    tree-known (Node node.Init spot name number text (Absent rest)) inner formed around here known fits quiet = absurd formed.0
    tree-known (Node (node.LockCall which) spot name number text Over) inner formed around here known fits quiet = absurd formed.0
    tree-known (Node (node.LockCall which) spot name number text (Absent rest)) inner formed around here known fits quiet = absurd formed.0
    tree-known (Node node.TestLock spot name number text Over) inner formed around here known fits quiet = absurd formed.0
    tree-known (Node node.TestLock spot name number text (Absent rest)) inner formed around here known fits quiet = absurd formed.0
    tree-known (Node kind spot name number text children) inner formed around here known fits quiet = never inner

    each-known : (children : Children) → AreInRow is_quiet children → AreFormed children → (around : Role) (here : Here) (known : List ℕ) → FitsIn program known here.names → Quiet here (each around children) → Walked known (KnowsEach program known children) here (each around children)
    each-known Over row formed around here known fits quiet = (tt, does_nothing program known here.names fits)
    each-known (Absent Over) row formed around here known fits quiet = (tt, does_nothing program known here.names fits)
    each-known (Absent (Child tree rest)) row formed around here known fits quiet = absurd row
    each-known (Absent (Absent rest)) row formed around here known fits quiet = absurd row
    each-known (Child tree rest) row formed around here known fits quiet =
        let parts = quiet_both here (acts around tree) (each around rest) quiet in
        let shown = tree-known tree (quiet_inner (kind_of tree) row.0) formed.0 around here known fits parts.0 in
        let does = quiet-does known tree _ _ row.0 shown.does in
        then-walked known _ _ here (acts around tree) (each around rest) (shown.knows, does) (each-known rest row.1 formed.1 around _ known does.fits parts.1)

    target-known : (children : Children) → HasChild is_place (AreInRow is_quiet) children → AreFormed children → (around : Role) (here : Here) (known : List ℕ) → FitsIn program known here.names → Quiet here (target around children)
        → Walked known (Contains known (name_of (first_child children)) × KnowsEach program known children) here (target around children)
    target-known Over row formed around here known fits quiet = absurd row
    target-known (Absent rest) row formed around here known fits quiet = absurd row
    target-known (Child tree rest) row formed around here known fits quiet =
        let parts = quiet_both here (acts role.Target tree) (each around rest) quiet in
        let shown = tree-known tree (place_inner (kind_of tree) row.0) formed.0 role.Target here known fits parts.0 in
        let does = quiet-does known tree _ _ (place-quiet (kind_of tree) row.0) shown.does in
        let walked = then-walked known _ _ here (acts role.Target tree) (each around rest) (shown.knows, does) (each-known rest row.1 formed.1 around _ known does.fits parts.1) in
        ((place-known known tree row.0 shown.knows, walked.0), walked.1)

    pub parts_known : (children : Children) → AreInRow is_part children → AreFormed children → (here : Here) (known : List ℕ) → FitsIn program known here.names → Quiet here (each role.Plain children)
        → KnowsInOrder program part_names known children × (more : List ℕ) × Does program more here.names (after_all here (each role.Plain children)).names
    parts_known Over row formed here known fits quiet = (tt, known, does_nothing program known here.names fits)
    parts_known (Absent rest) row formed here known fits quiet = (tt, known, does_nothing program known here.names fits)
    parts_known (Child tree rest) row formed here known fits quiet =
        let parts = quiet_both here (acts role.Plain tree) (each role.Plain rest) quiet in
        let shown = tree-known tree (part_inner (kind_of tree) row.0) formed.0 role.Plain here known fits parts.0 in
        let does = does_more program _ (known ++ part_names tree) _ _ (part-brings tree known row.0) shown.does in
        let walked = parts_known rest row.1 formed.1 _ (known ++ part_names tree) does.fits parts.1 in
        ((shown.knows, walked.0), walked.1, does-then _ walked.1 here (acts role.Plain tree) (each role.Plain rest) does walked.2)

    locals-known : (children : Children) → AreInRow is_local children → AreFormed children → (here : Here) (known : List ℕ) → FitsIn program known here.names → Quiet here (each role.Plain children)
        → KnowsInOrder program declared_name known children × Does program (known ++ declared_among (trees_in children)) here.names (after_all here (each role.Plain children)).names
    locals-known Over row formed here known fits quiet = (tt, does_more program known _ _ _ (λ name there. Contains-append_left known [] name there) (does_nothing program known here.names fits))
    locals-known (Absent rest) row formed here known fits quiet = (tt, does_more program known _ _ _ (λ name there. Contains-append_left known [] name there) (does_nothing program known here.names fits))
    locals-known (Child tree rest) row formed here known fits quiet =
        let parts = quiet_both here (acts role.Plain tree) (each role.Plain rest) quiet in
        let shown = tree-known tree (local_inner (kind_of tree) row.0) formed.0 role.Plain here known fits parts.0 in
        let does = does_more program _ (known ++ declared_name tree) _ _ (local-brings tree known row.0) shown.does in
        let walked = locals-known rest row.1 formed.1 _ (known ++ declared_name tree) does.fits parts.1 in (
          (shown.knows, walked.0),
          does_assoc program known (declared_name tree) (declared_among (trees_in rest)) here.names _ (does-then _ _ here (acts role.Plain tree) (each role.Plain rest) does walked.1),
        )

    -- the parts of a plain `for`
    first-known : (children : Children) → HasPart is_first_part (HasPart is_quiet (HasPart is_quiet (HasChild is_quiet IsOver))) children → AreFormed children → (mark : List Act) → Silent mark → (here : Here) (known : List ℕ) → FitsIn program known here.names → Quiet here (first_part mark children)
        → KnowsLoop program known children × (more : List ℕ) × Does program more here.names (after_all here (first_part mark children)).names
    first-known Over form formed mark silent here known fits quiet = absurd form
    first-known (Absent rest) form formed mark silent here known fits quiet =
        let walked = second-known rest form formed mark silent here known fits quiet in (walked.0, known, walked.1)
    first-known (Child tree rest) form formed mark silent here known fits quiet =
        let parts = quiet_both here (acts role.Plain tree) (second_part mark rest) quiet in
        let shown = tree-known tree (first_inner (kind_of tree) form.0) formed.0 role.Plain here known fits parts.0 in
        let does = does_more program _ (known ++ first_names tree) _ _ (first-brings tree known form.0) shown.does in
        let walked = second-known rest form.1 formed.1 mark silent _ (known ++ first_names tree) does.fits parts.1 in
        ((shown.knows, walked.0), known ++ first_names tree, does-then _ _ here (acts role.Plain tree) (second_part mark rest) does walked.1)

    second-known : (children : Children) → HasPart is_quiet (HasPart is_quiet (HasChild is_quiet IsOver)) children → AreFormed children → (mark : List Act) → Silent mark → (here : Here) (known : List ℕ) → FitsIn program known here.names → Quiet here (second_part mark children)
        → Walked known (KnowsEach program known children) here (second_part mark children)
    second-known Over form formed mark silent here known fits quiet = absurd form
    second-known (Absent rest) form formed mark silent here known fits quiet = third-known rest form formed mark silent here known fits quiet
    second-known (Child tree rest) form formed mark silent here known fits quiet =
        let parts = quiet_both here (acts role.Plain tree) (third_part mark rest) quiet in
        let shown = tree-known tree (quiet_inner (kind_of tree) form.0) formed.0 role.Plain here known fits parts.0 in
        let does = quiet-does known tree _ _ form.0 shown.does in
        then-walked known _ _ here (acts role.Plain tree) (third_part mark rest) (shown.knows, does) (third-known rest form.1 formed.1 mark silent _ known does.fits parts.1)

    third-known : (children : Children) → HasPart is_quiet (HasChild is_quiet IsOver) children → AreFormed children → (mark : List Act) → Silent mark → (here : Here) (known : List ℕ) → FitsIn program known here.names → Quiet here (third_part mark children)
        → Walked known (KnowsEach program known children) here (third_part mark children)
    third-known Over form formed mark silent here known fits quiet = absurd form
    third-known (Absent rest) form formed mark silent here known fits quiet =
        let parts = quiet_both here mark (each role.Plain rest) quiet in
        let does = does-silent known here mark silent fits in
        let walked = each-known rest (one_quiet rest form) formed role.Plain (after_all here mark) known does.fits parts.1 in
        (walked.0, does-then known known here mark (each role.Plain rest) does walked.1)
    third-known (Child tree rest) form formed mark silent here known fits quiet =
        let parts = quiet_both here (acts role.Plain tree) (mark ++ each role.Plain rest) quiet in
        let shown = tree-known tree (quiet_inner (kind_of tree) form.0) formed.0 role.Plain here known fits parts.0 in
        let does = quiet-does known tree _ _ form.0 shown.does in
        let later = quiet_both (after_all here (acts role.Plain tree)) mark (each role.Plain rest) parts.1 in
        let marked = does-silent known (after_all here (acts role.Plain tree)) mark silent does.fits in
        let walked = each-known rest (one_quiet rest form.1) formed.1 role.Plain (after_all (after_all here (acts role.Plain tree)) mark) known marked.fits later.1 in
        then-walked known _ _ here (acts role.Plain tree) (mark ++ each role.Plain rest) (shown.knows, does) (walked.0, does-then known known _ mark (each role.Plain rest) marked walked.1)

    -- what a construct has behind its clauses
    statements-known : (children : Children) → AreInRow is_construct_part children → AreFormed children → (around : Role) (here : Here) (known : List ℕ) → FitsIn program known here.names → Quiet here (statements around children)
        → Walked known (KnowsStatements program known children) here (statements around children)
    statements-known Over row formed around here known fits quiet = (tt, does_nothing program known here.names fits)
    statements-known (Absent Over) row formed around here known fits quiet = (tt, does_nothing program known here.names fits)
    statements-known (Absent (Child tree rest)) row formed around here known fits quiet = absurd row
    statements-known (Absent (Absent rest)) row formed around here known fits quiet = absurd row
    statements-known (Child tree rest) row formed around here known fits quiet =
        let some = if is_head (kind_of tree) then [] else acts around tree in
        let parts = quiet_both here some (statements around rest) quiet in
        let walked = head-walked known (is_head (kind_of tree)) (Knows program known tree) here (acts around tree) fits (λ apart quiet.
        let is = code_quiet (kind_of tree) row.0 apart in
        let shown = tree-known tree (quiet_inner (kind_of tree) is) formed.0 around here known fits quiet in
        (shown.knows, quiet-does known tree _ _ is shown.does)) parts.0
        in
        then-walked known _ _ here some (statements around rest) walked (statements-known rest row.1 formed.1 around (after_all here some) known walked.1.fits parts.1)

    -- what its clauses compute and list
    outside-known : (children : Children) → AreFormed children → (here : Here) (known : List ℕ) → FitsIn program known here.names → Quiet here (outside_acts children)
        → Walked known (AreClausesSeen known (clauses_among (trees_in children))) here (outside_acts children)
    outside-known Over formed here known fits quiet = (tt, does_nothing program known here.names fits)
    outside-known (Absent rest) formed here known fits quiet = (tt, does_nothing program known here.names fits)
    outside-known (Child (Node (node.Clause lead) spot name number text children) rest) formed here known fits quiet =
        let parts = quiet_both here (clause_outside children) (outside_acts rest) quiet in
        let clause = clause-known children formed.0.1 here known fits parts.0 in
        then-walked known _ _ here (clause_outside children) (outside_acts rest) clause (outside-known rest formed.1 (after_all here (clause_outside children)) known clause.1.fits parts.1)
    outside-known (Child (Node other spot name number text children) rest) formed here known fits quiet = outside-known rest formed.1 here known fits quiet

    clause-known : (children : Children) → AreFormed children → (here : Here) (known : List ℕ) → FitsIn program known here.names → Quiet here (clause_outside children)
        → Walked known (IsClauseSeen known (kind_of (first_child children)) (first_child children)) here (clause_outside children)
    clause-known Over formed here known fits quiet = (tt, does_nothing program known here.names fits)
    clause-known (Absent rest) formed here known fits quiet = (tt, does_nothing program known here.names fits)
    clause-known (Child (Node node.NumThreads spot name number text children) rest) formed here known fits quiet =
        let walked = each-known children (one_quiet children formed.0.0) formed.0.1 role.Plain here known fits quiet in
        (knows_sees program known _ (knows_at program known children 0 walked.0), walked.1)
    clause-known (Child (Node node.IfClause spot name number text children) rest) formed here known fits quiet =
        let walked = each-known children (one_quiet children formed.0.0) formed.0.1 role.Plain here known fits quiet in
        (knows_sees program known _ (knows_at program known children 0 walked.0), walked.1)
    clause-known (Child (Node (node.Data which) spot name number text children) rest) formed here known fits quiet = uses-known (naming.Mentioned (data_of which)) children refl here known fits quiet
    clause-known (Child (Node (node.Reduction operator) spot name number text children) rest) formed here known fits quiet = uses-known (naming.Mentioned clause.Reduced) children refl here known fits quiet
    clause-known (Child (Node other spot name number text children) rest) formed here known fits quiet = (tt, does_nothing program known here.names fits)
