-- What a part of a function does to the declarations in scope: it adds those that it makes in the scope in which it stands, and a statement adds none.
use Rattle.std.specs.Prelude.{ℕ, ◌+◌, ◌≤◌, ◌≡◌, ◌&&◌, nat_le, not, if◌then◌else◌, Bool, true, false, IsTrue, List, [], ◌∷◌, ◌++◌, Option, Some, None, refl}
use Rattle.std.specs.List.{All}
use Rattle.std.proofs.Common.{arith, ap, sym, ◌∙◌, append_assoc, subst}
use Rattle.std.proofs.lemmas.Bool.Decides.{nat_tests}
use Rattle.std.proofs.lemmas.List.Elements.{All-append, All-cons, All-head, All-nil, All-tail, All-weaker}
use Rattle.c_tokens.specs.declared.token.Spot.{Spot}
use Rattle.c_syntax.specs.declared.node.Standalone.TheVariants as standalone
use Rattle.c_syntax.specs.declared.node.NodeKind.{NodeKind}
use Rattle.c_syntax.specs.declared.node.NodeKind.TheVariants as node
use Rattle.c_syntax.specs.language.Tree.{Tree, Children, kind_of, name_of, spot_of}
use Rattle.c_syntax.specs.language.Tree.Tree.{Node}
use Rattle.c_syntax.specs.language.Tree.Children.{Over, Child, Absent}
use Rattle.c_check.specs.declared.acts.act.Act.{Act}
use Rattle.c_check.specs.declared.acts.act.Act.TheVariants.{Open, Close, Declare, OddLoop, Use}
use Rattle.c_check.specs.declared.acts.act.DataClause.{DataClause}
use Rattle.c_check.specs.declared.acts.act.Usage.{Usage}
use Rattle.c_check.specs.declared.acts.act.Usage.TheVariants as usage
use Rattle.c_check.specs.declared.acts.act.Thing.{Thing}
use Rattle.c_check.specs.declared.acts.role.Role.{Role}
use Rattle.c_check.specs.declared.acts.role.Role.TheVariants as role
use Rattle.c_check.specs.declared.acts.role.Naming.{Naming}
use Rattle.c_check.specs.declared.acts.role.Naming.TheVariants as naming
use Rattle.c_check.specs.declared.scopes.declared.Declared.{Declared}
use Rattle.c_check.specs.Acts.{acts, clause_outside, each, first_part, init, outside_acts, second_part, statements, target, third_part}
use Rattle.c_check.specs.Checked.{after_all}
use Rattle.c_check.specs.Clauses.{clause_inside, first_inside, inside_acts}
use Rattle.c_check.specs.Declarations.{Declarations, find, next_of, scope_begun, scope_ended, still_in_scope}
use Rattle.c_check.specs.Here.{Here, after, used}
use Rattle.c_check.specs.NameLists.{child_count, names}
use Rattle.c_check.specs.Statements.{is_head, looped, odd_loop}
use Rattle.c_check.specs.Loops.{is_place}
use Rattle.c_check.specs.Usages.{assigned, call_value, place_usage}
use Rattle.c_model.specs.Formed.{AreFormed, AreInRow, HasChild, HasPart, IsFormed, IsOver, is_construct_part, is_first_part, is_local, is_part, is_quiet}
use Rattle.c_model.proofs.ScopeActs.{after_both}
use Rattle.c_model.proofs.ScopeChecked.{first_inner, is_inner, local_inner, part_inner, quiet_inner}
use Rattle.c_model.proofs.ScopeLoops.{one_quiet, two_quiet}
use Rattle.c_slots.proofs.ActPlaces.{IsBelow}

-- what acts add to the declarations in scope: nothing, where they are quiet
pub record Added (quiet : Bool) (old new : Declarations) : Type 0 where
  pub added : List Declared
  pub visible : new.visible ≡ added ++ old.visible
  pub level : new.level ≡ old.level
  pub levels : All (λ (it : Declared). it.level ≡ old.level) added
  pub none : quiet ≡ true → added ≡ []

pub record Adds (quiet : Bool) (some : List Act) : Type 0 where
  pub adds : (here : Here) → IsBelow here.names → Added quiet here.names (after_all here some).names

below-added : (level : ℕ) (added visible : List Declared) → All (λ (it : Declared). it.level ≡ level) added
    → All (λ (it : Declared). it.level ≤ level) visible → All (λ (it : Declared). it.level ≤ level) (added ++ visible)
below-added level added visible levels below =
    All-append (λ (it : Declared). it.level ≤ level) added visible
    (All-weaker (λ (it : Declared). it.level ≡ level) (λ (it : Declared). it.level ≤ level) (λ it is. omega (arith, is)) added levels) below

pub added_below : (quiet : Bool) (old new : Declarations) → Added quiet old new → IsBelow old → IsBelow new
added_below quiet old new added below =
    subst (λ (visible : List Declared). All (λ (it : Declared). it.level ≤ new.level) visible) (sym added.visible)
    (subst (λ (level : ℕ). All (λ (it : Declared). it.level ≤ level) (added.added ++ old.visible)) (sym added.level)
    (below-added old.level added.added old.visible added.levels below))

same-added : (quiet : Bool) (old new : Declarations) → new ≡ old → Added quiet old new
same-added quiet old new same =
    record {
      added = [];
      visible = ap (λ (names : Declarations). names.visible) same;
      level = ap (λ (names : Declarations). names.level) same;
      levels = All-nil (λ (it : Declared). it.level ≡ old.level);
      none = λ is. refl;
    }

none-of-both : (one other : List Declared) → one ≡ [] → other ≡ [] → one ++ other ≡ []
none-of-both one other is also = ap (λ (list : List Declared). list ++ other) is ∙ also

added-both : (quiet : Bool) (one two three : Declarations) → Added quiet one two → Added quiet two three → Added quiet one three
added-both quiet one two three first second =
    record {
      added = second.added ++ first.added;
      visible = second.visible ∙ ap (λ (visible : List Declared). second.added ++ visible) first.visible ∙ sym
          (append_assoc second.added first.added one.visible);
      level = second.level ∙ first.level;
      levels = All-append (λ (it : Declared). it.level ≡ one.level) second.added first.added
          (subst (λ (level : ℕ). All (λ (it : Declared). it.level ≡ level) second.added) first.level second.levels) first.levels;
      none = λ is. none-of-both second.added first.added (second.none is) (first.none is);
    }

pub adds_nothing : (quiet : Bool) → Adds quiet []
unfolding after_all
adds_nothing quiet = record { adds = λ here below. same-added quiet here.names here.names refl }

pub adds_both : (quiet : Bool) (some more : List Act) → Adds quiet some → Adds quiet more → Adds quiet (some ++ more)
adds_both quiet some more first second =
    record {
      adds = λ here below.
          let one = first.adds here below in
          let two = second.adds (after_all here some) (added_below quiet here.names _ one below) in
          subst (λ (new : Here). Added quiet here.names new.names) (sym (after_both here some more)) (added-both quiet here.names _ _ one two);
    }

pub adds_less : (quiet other : Bool) (some : List Act) → (quiet ≡ true → other ≡ true) → Adds other some → Adds quiet some
adds_less quiet other some less first =
    record {
      adds = λ here below.
          let one = first.adds here below in
          record { added = one.added; visible = one.visible; level = one.level; levels = one.levels; none = λ is. one.none (less is) };
    }

-- acts that change nothing
unfoldable pub IsSilent : Act → Type 0
IsSilent act = (here : Here) → (after here act).names ≡ here.names

pub adds_silent : (quiet : Bool) (act : Act) → IsSilent act → Adds quiet (act ∷ [])
unfolding after_all IsSilent
adds_silent quiet act silent = record { adds = λ here below. same-added quiet here.names _ (silent here) }

silent-first : (quiet : Bool) (act : Act) (some : List Act) → IsSilent act → Adds quiet some → Adds quiet (act ∷ some)
silent-first quiet act some silent rest = adds_both quiet (act ∷ []) some (adds_silent quiet act silent) rest

used-silent : (here : Here) (spot : Spot) (found : Option Declared) → (used here spot found).names ≡ here.names
used-silent here spot None = refl
used-silent here spot (Some it) = refl

use-silent : (name : ℕ) (spot : Spot) (used : Usage) → IsSilent (Use name spot used)
unfolding after IsSilent
use-silent name spot used here = used-silent here spot (find here.names.visible name)

-- a declaration
pub adds_declaration : (name : ℕ) (spot : Spot) (what : Thing) → Adds false (Declare name spot what ∷ [])
unfolding after_all after
adds_declaration name spot what =
    record {
      adds = λ here below.
          record {
            added = next_of here.names name what ∷ [];
            visible = refl;
            level = refl;
            levels = All-cons (λ (it : Declared). it.level ≡ here.names.level) (next_of here.names name what) [] refl
                (All-nil (λ (it : Declared). it.level ≡ here.names.level));
            none = λ is. absurd (let wrong : false ≡ true = is in cc);
          };
    }

-- what stands in a scope of its own
dropped : (level : ℕ) (added visible : List Declared) → All (λ (it : Declared). it.level ≡ level + 1) added
    → All (λ (it : Declared). it.level ≤ level) visible → still_in_scope (level + 1) (added ++ visible) ≡ visible
unfolding still_in_scope
dropped level [] [] levels below = refl
dropped level [] (first ∷ visible) levels below =
    let over : nat_le (level + 1) first.level ≡ false = stays level first.level
    (All-head (λ (it : Declared). it.level ≤ level) first visible below) in rw over refl
  where
    stays : (level other : ℕ) → other ≤ level → nat_le (level + 1) other ≡ false
    stays level other is = grind (arith, nat_tests)
dropped level (first ∷ added) visible levels below =
    let over : nat_le (level + 1) first.level ≡ true = ends level first.level (All-head (λ (it : Declared). it.level ≡ level + 1) first added levels) in
    rw over (dropped level added visible (All-tail (λ (it : Declared). it.level ≡ level + 1) first added levels) below)
  where
    ends : (level other : ℕ) → other ≡ level + 1 → nat_le (level + 1) other ≡ true
    ends level other is = grind (arith, nat_tests)

pub scope_is_dropped : (quiet : Bool) (old new : Declarations) → IsBelow old → Added quiet (scope_begun old) new → (scope_ended new).visible ≡ old.visible
scope_is_dropped quiet old new below added =
    ap (λ (level : ℕ). still_in_scope level new.visible) added.level ∙ ap
    (λ (visible : List Declared). still_in_scope (old.level + 1) visible) added.visible ∙ dropped old.level added.added old.visible added.levels below

pub begun_is_below : (old : Declarations) → IsBelow old → IsBelow (scope_begun old)
begun_is_below old below =
    All-weaker (λ (it : Declared). it.level ≤ old.level) (λ (it : Declared). it.level ≤ old.level + 1) (λ it is. omega (arith, is)) old.visible below

pub adds_in_scope : (quiet other : Bool) (some : List Act) → Adds other some → Adds quiet (Open ∷ some ++ Close ∷ [])
unfolding after_all after
adds_in_scope quiet other some inner =
    record {
      adds = λ here below.
          let one = inner.adds (after here Open) (begun_is_below here.names below) in
          let new = after_all (after here Open) some in
          subst (λ (new : Here). Added quiet here.names new.names) (sym (after_both (after here Open) some (Close ∷ [])))
          (record {
            added = [];
            visible = scope_is_dropped other here.names new.names below one;
            level = omega (arith, one.level);
            levels = All-nil (λ (it : Declared). it.level ≡ here.names.level);
            none = λ is. refl;
          });
    }

-- lists of names, and what clauses say of a construct

pub names_add : (why : Naming) (children : Children) → Adds false (names why children)
unfolding names after IsSilent
names_add why Over = adds_nothing false
names_add why (Absent rest) = adds_nothing false
names_add naming.Parameters (Child tree rest) =
    adds_both false (_ ∷ []) (names naming.Parameters rest) (adds_declaration _ _ _) (names_add naming.Parameters rest)
names_add naming.Locks (Child tree rest) = adds_both false (_ ∷ []) (names naming.Locks rest) (adds_declaration _ _ _) (names_add naming.Locks rest)
names_add naming.Locked (Child tree rest) =
    silent-first false _ (names naming.Locked rest) (use-silent (name_of tree) (spot_of tree) usage.Locked) (names_add naming.Locked rest)
names_add (naming.Mentioned which) (Child tree rest) =
    silent-first false _ (names (naming.Mentioned which) rest) (use-silent (name_of tree) (spot_of tree) (usage.Listed which))
    (names_add (naming.Mentioned which) rest)
names_add (naming.Listed which) (Child tree rest) =
    silent-first false _ (names (naming.Listed which) rest) (λ here. refl) (names_add (naming.Listed which) rest)

locked-quiet : (quiet : Bool) (children : Children) → Adds quiet (names naming.Locked children)
unfolding names
locked-quiet quiet Over = adds_nothing quiet
locked-quiet quiet (Absent rest) = adds_nothing quiet
locked-quiet quiet (Child tree rest) =
    silent-first quiet _ (names naming.Locked rest) (use-silent (name_of tree) (spot_of tree) usage.Locked) (locked-quiet quiet rest)

mentioned-quiet : (quiet : Bool) (which : DataClause) (children : Children) → Adds quiet (names (naming.Mentioned which) children)
unfolding names
mentioned-quiet quiet which Over = adds_nothing quiet
mentioned-quiet quiet which (Absent rest) = adds_nothing quiet
mentioned-quiet quiet which (Child tree rest) =
    silent-first quiet _ (names (naming.Mentioned which) rest) (use-silent (name_of tree) (spot_of tree) (usage.Listed which))
    (mentioned-quiet quiet which rest)

listed-quiet : (quiet : Bool) (which : DataClause) (children : Children) → Adds quiet (names (naming.Listed which) children)
unfolding names after IsSilent
listed-quiet quiet which Over = adds_nothing quiet
listed-quiet quiet which (Absent rest) = adds_nothing quiet
listed-quiet quiet which (Child tree rest) = silent-first quiet _ (names (naming.Listed which) rest) (λ here. refl) (listed-quiet quiet which rest)

clause-quiet : (quiet : Bool) (kind : NodeKind) (children : Children) → Adds quiet (clause_inside kind children)
unfolding after IsSilent
clause-quiet quiet node.NumThreads children = adds_silent quiet _ (λ here. refl)
clause-quiet quiet (node.Default word) children = adds_silent quiet _ (λ here. refl)
clause-quiet quiet (node.Data which) children = listed-quiet quiet _ children
clause-quiet quiet (node.Reduction operator) children = listed-quiet quiet _ children
clause-quiet quiet (node.Schedule kind) children = adds_silent quiet _ (λ here. refl)
clause-quiet quiet node.Nowait children = adds_silent quiet _ (λ here. refl)
clause-quiet quiet node.IfClause children = adds_silent quiet _ (λ here. refl)
clause-quiet quiet other children = adds_nothing quiet

first-quiet : (quiet : Bool) (children : Children) → Adds quiet (first_inside children)
first-quiet quiet Over = adds_nothing quiet
first-quiet quiet (Absent rest) = adds_nothing quiet
first-quiet quiet (Child (Node kind spot name number text children) rest) = clause-quiet quiet kind children

pub inside_quiet : (quiet : Bool) (children : Children) → Adds quiet (inside_acts children)
unfolding inside_acts
inside_quiet quiet Over = adds_nothing quiet
inside_quiet quiet (Absent rest) = adds_nothing quiet
inside_quiet quiet (Child (Node (node.Clause lead) spot name number text children) rest) =
    adds_both quiet (first_inside children) (inside_acts rest) (first-quiet quiet children) (inside_quiet quiet rest)
inside_quiet quiet (Child (Node other spot name number text children) rest) = inside_quiet quiet rest

pub looped_quiet : (quiet : Bool) (around : Role) → Adds quiet (looped around)
unfolding after IsSilent
looped_quiet quiet (role.Looped name) = adds_silent quiet _ (λ here. refl)
looped_quiet quiet role.Plain = adds_nothing quiet
looped_quiet quiet role.Used = adds_nothing quiet
looped_quiet quiet role.Target = adds_nothing quiet

assigned-quiet : (quiet : Bool) (around : Role) (used : Usage) (name : ℕ) → Adds quiet (assigned around used name)
unfolding after IsSilent
assigned-quiet quiet role.Target usage.Plain name = adds_silent quiet _ (λ here. refl)
assigned-quiet quiet role.Target other name = adds_nothing quiet
assigned-quiet quiet role.Plain other name = adds_nothing quiet
assigned-quiet quiet role.Used other name = adds_nothing quiet
assigned-quiet quiet (role.Looped loop) other name = adds_nothing quiet

pub odd_quiet : (quiet shares form : Bool) → Adds quiet (if shares && not form then OddLoop ∷ [] else [])
unfolding after IsSilent
odd_quiet quiet true true = adds_nothing quiet
odd_quiet quiet true false = adds_silent quiet _ (λ here. refl)
odd_quiet quiet false form = adds_nothing quiet

head-quiet : (quiet head : Bool) (some : List Act) → (head ≡ false → Adds quiet some) → Adds quiet (if head then [] else some)
head-quiet quiet true some rest = adds_nothing quiet
head-quiet quiet false some rest = rest refl

-- what stands below a node is a part of a function, and quiet where that is asked
unfoldable AreInner : Bool → Children → Type 0
AreInner quiet Over = Unit {0}
AreInner quiet (Absent rest) = AreInner quiet rest
AreInner quiet (Child tree rest) = IsTrue (is_inner (kind_of tree)) × (quiet ≡ true → is_quiet (kind_of tree) ≡ true) × AreInner quiet rest

over-inner : (quiet : Bool) (children : Children) → IsOver children → AreInner quiet children
unfolding AreInner
over-inner quiet Over is = tt
over-inner quiet (Child tree rest) is = absurd is
over-inner quiet (Absent rest) is = absurd is

quiet-row : (quiet : Bool) (children : Children) → AreInRow is_quiet children → AreInner quiet children
unfolding AreInner AreInRow
quiet-row quiet Over row = tt
quiet-row quiet (Absent rest) row = over-inner quiet rest row
quiet-row quiet (Child tree rest) row = (quiet_inner (kind_of tree) row.0, (λ is. row.0), quiet-row quiet rest row.1)

inner-row : (test : NodeKind → Bool) → ((kind : NodeKind) → IsTrue (test kind) → IsTrue (is_inner kind)) → (children : Children) → AreInRow test children
    → AreInner false children
unfolding AreInner AreInRow
inner-row test each Over row = tt
inner-row test each (Absent rest) row = over-inner false rest row
inner-row test each (Child tree rest) row = (each (kind_of tree) row.0, (λ is. absurd (let wrong : false ≡ true = is in cc)), inner-row test each rest row.1)

one-row : (quiet : Bool) (children : Children) → HasChild is_quiet IsOver children → AreInner quiet children
one-row quiet children form = quiet-row quiet children (one_quiet children form)

two-row : (quiet : Bool) (children : Children) → HasChild is_quiet (HasChild is_quiet IsOver) children → AreInner quiet children
two-row quiet children form = quiet-row quiet children (two_quiet children form)

place-inner : (kind : NodeKind) → IsTrue (is_place kind) → IsTrue (is_inner kind)
place-inner node.Place is = refl
place-inner other is = absurd (cc)

place-quiet : (kind : NodeKind) → IsTrue (is_place kind) → is_quiet kind ≡ true
place-quiet node.Place is = refl
place-quiet other is = absurd (cc)

place-row : (quiet : Bool) (next : Children → Type 0) → ((children : Children) → next children → AreInner quiet children) → (children : Children)
    → HasChild is_place next children → AreInner quiet children
unfolding AreInner
place-row quiet next each (Child tree rest) form = (place-inner (kind_of tree) form.0, (λ is. place-quiet (kind_of tree) form.0), each rest form.1)
place-row quiet next each Over form = absurd form
place-row quiet next each (Absent rest) form = absurd form

part-row : (quiet : Bool) (next : Children → Type 0) → ((children : Children) → next children → AreInner quiet children) → (children : Children)
    → HasPart is_quiet next children → AreInner quiet children
unfolding AreInner
part-row quiet next each (Child tree rest) form = (quiet_inner (kind_of tree) form.0, (λ is. form.0), each rest form.1)
part-row quiet next each (Absent rest) form = each rest form
part-row quiet next each Over form = absurd form

first-row : (next : Children → Type 0) → ((children : Children) → next children → AreInner false children) → (children : Children)
    → HasPart is_first_part next children → AreInner false children
unfolding AreInner
first-row next each (Child tree rest) form = (first_inner (kind_of tree) form.0, (λ is. absurd (let wrong : false ≡ true = is in cc)), each rest form.1)
first-row next each (Absent rest) form = each rest form
first-row next each Over form = absurd form

child-row : (quiet : Bool) (next : Children → Type 0) → ((children : Children) → next children → AreInner quiet children) → (children : Children)
    → HasChild is_quiet next children → AreInner quiet children
unfolding AreInner
child-row quiet next each (Child tree rest) form = (quiet_inner (kind_of tree) form.0, (λ is. form.0), each rest form.1)
child-row quiet next each Over form = absurd form
child-row quiet next each (Absent rest) form = absurd form

code-quiet : (kind : NodeKind) → IsTrue (is_construct_part kind) → is_head kind ≡ false → is_quiet kind ≡ true
code-quiet (node.Clause lead) is apart = absurd (cc)
code-quiet other is apart = is

mutual
  unfolding acts each target first_part second_part third_part init statements outside_acts clause_outside AreInner AreInRow IsFormed AreFormed after IsSilent

  pub acts_add : (tree : Tree) → IsTrue (is_inner (kind_of tree)) → IsFormed tree → (around : Role) → Adds (is_quiet (kind_of tree)) (acts around tree)
  acts_add (Node node.Locks spot name number text children) inner formed around = names_add naming.Locks children
  acts_add (Node node.Block spot name number text children) inner formed around =
      adds_in_scope true false (each role.Plain children) (each_add false children (inner-row is_part part_inner children formed.0) formed.1 role.Plain)
  acts_add (Node node.Locals spot name number text children) inner formed around =
      each_add false children (inner-row is_local local_inner children formed.0) formed.1 role.Plain
  acts_add (Node node.LocalVar spot name number text children) inner formed around = adds_declaration name spot _
  acts_add (Node node.LocalArray spot name number text children) inner formed around = adds_declaration name spot _
  acts_add (Node node.LocalSet spot name number text children) inner formed around =
      adds_both false (each role.Used children) _ (each_add false children (one-row false children formed.0) formed.1 role.Used)
      (adds_declaration name spot _)
  acts_add (Node node.If spot name number text children) inner formed around =
      each_add true children (child-row true _ (child-row true _ (part-row true IsOver (over-inner true))) children formed.0) formed.1 role.Plain
  acts_add (Node node.While spot name number text children) inner formed around = each_add true children (two-row true children formed.0) formed.1 role.Plain
  acts_add (Node node.For spot name number text children) inner formed around =
      adds_in_scope true false (first_part (looped around) children)
      (first_part_add children (first-row _ (part-row false _ (part-row false _ (one-row false))) children formed.0) formed.1 (looped around)
      (looped_quiet false around))
  acts_add (Node node.Init spot name number text (Child tree rest)) inner formed around =
      adds_both false (each role.Plain rest) _ (each_add false rest (one-row false rest formed.0.1) formed.1.1 role.Plain) (adds_declaration _ _ _)
  acts_add (Node node.Init spot name number text Over) inner formed around = adds_nothing false
  acts_add (Node node.Init spot name number text (Absent rest)) inner formed around = adds_nothing false
  acts_add (Node node.Return spot name number text children) inner formed around =
      adds_both true (each role.Used children) _ (each_add true children (quiet-row true children formed.0) formed.1 role.Used)
      (adds_silent true _ (λ here. refl))
  acts_add (Node node.SetCall spot name number text children) inner formed around =
      target_add true children (place-row true _ (one-row true) children formed.0) formed.1 role.Used
  acts_add (Node node.Step spot name number text children) inner formed around = each_add true children (one-row true children formed.0) formed.1 role.Plain
  acts_add (Node node.Called spot name number text children) inner formed around = each_add true children (one-row true children formed.0) formed.1 role.Plain
  acts_add (Node node.Print spot name number text children) inner formed around =
      adds_both true (each role.Plain children) _ (each_add true children (quiet-row true children formed.0) formed.1 role.Plain)
      (adds_silent true _ (λ here. refl))
  acts_add (Node (node.LockCall which) spot name number text children) inner formed around = locked-quiet true children
  acts_add (Node (node.Assign setting) spot name number text children) inner formed around =
      target_add true children (place-row true _ (one-row true) children formed.0) formed.1 role.Plain
  acts_add (Node (node.Bump which side) spot name number text children) inner formed around =
      target_add true children (place-row true IsOver (over-inner true) children formed.0) formed.1 role.Plain
  acts_add (Node node.Place spot name number text children) inner formed around =
      adds_both true (Use name spot (place_usage children) ∷ assigned around (place_usage children) name) (each role.Plain children)
      (silent-first true (Use name spot (place_usage children)) (assigned around (place_usage children) name) (use-silent name spot (place_usage children))
      (assigned-quiet true around (place_usage children) name)) (each_add true children (quiet-row true children formed.0) formed.1 role.Plain)
  acts_add (Node node.Call spot name number text children) inner formed around =
      silent-first true _ (each role.Plain children) (use-silent name spot (usage.Called (child_count children) (call_value around)))
      (each_add true children (quiet-row true children formed.0) formed.1 role.Plain)
  acts_add (Node node.TestLock spot name number text children) inner formed around = locked-quiet true children
  acts_add (Node (node.Binary operator) spot name number text children) inner formed around =
      each_add true children (two-row true children formed.0) formed.1 role.Plain
  acts_add (Node (node.Unary operator) spot name number text children) inner formed around =
      each_add true children (one-row true children formed.0) formed.1 role.Plain
  acts_add (Node node.Paren spot name number text children) inner formed around = each_add true children (one-row true children formed.0) formed.1 role.Plain
  acts_add (Node (node.Standalone standalone.Barrier) spot name number text children) inner formed around = adds_silent true _ (λ here. refl)
  acts_add (Node (node.Construct which) spot name number text children) inner formed around =
      adds_both true (((outside_acts children ++ _ ∷ inside_acts children) ++ odd_loop which children) ++ statements _ children) _
      (adds_both true ((outside_acts children ++ _ ∷ inside_acts children) ++ odd_loop which children) (statements _ children)
      (adds_both true (outside_acts children ++ _ ∷ inside_acts children) (odd_loop which children)
      (adds_both true (outside_acts children) _ (outside_add children formed.1)
      (silent-first true _ (inside_acts children) (λ here. refl) (inside_quiet true children))) (odd_quiet true _ _))
      (statements_add children formed.0 formed.1 _))
      (adds_silent true _ (λ here. refl))
  acts_add (Node node.Section spot name number text children) inner formed around =
      each_add true children (one-row true children formed.0) formed.1 role.Plain
  acts_add (Node node.Name spot name number text children) inner formed around = adds_nothing true
  acts_add (Node node.Empty spot name number text children) inner formed around = adds_nothing true
  acts_add (Node node.Number spot name number text children) inner formed around = adds_nothing true
  acts_add (Node (node.Getter which) spot name number text children) inner formed around = adds_nothing true
  acts_add (Node (node.Standalone standalone.Taskwait) spot name number text children) inner formed around = adds_nothing true
  acts_add (Node other spot name number text children) inner formed around = absurd (let wrong : false ≡ true = inner in cc)

  each_add : (quiet : Bool) (children : Children) → AreInner quiet children → AreFormed children → (around : Role) → Adds quiet (each around children)
  each_add quiet Over inner formed around = adds_nothing quiet
  each_add quiet (Absent rest) inner formed around = adds_nothing quiet
  each_add quiet (Child tree rest) inner formed around =
      adds_both quiet (acts around tree) (each around rest)
      (adds_less quiet (is_quiet (kind_of tree)) (acts around tree) inner.1 (acts_add tree inner.0 formed.0 around))
      (each_add quiet rest inner.2 formed.1 around)

  target_add : (quiet : Bool) (children : Children) → AreInner quiet children → AreFormed children → (around : Role) → Adds quiet (target around children)
  target_add quiet Over inner formed around = adds_nothing quiet
  target_add quiet (Absent rest) inner formed around = adds_nothing quiet
  target_add quiet (Child tree rest) inner formed around =
      adds_both quiet (acts role.Target tree) (each around rest)
      (adds_less quiet (is_quiet (kind_of tree)) (acts role.Target tree) inner.1 (acts_add tree inner.0 formed.0 role.Target))
      (each_add quiet rest inner.2 formed.1 around)

  first_part_add : (children : Children) → AreInner false children → AreFormed children → (mark : List Act) → Adds false mark
      → Adds false (first_part mark children)
  first_part_add Over inner formed mark adds = adds
  first_part_add (Absent rest) inner formed mark adds = second_part_add rest inner formed mark adds
  first_part_add (Child tree rest) inner formed mark adds =
      adds_both false (acts role.Plain tree) (second_part mark rest)
      (adds_less false (is_quiet (kind_of tree)) (acts role.Plain tree) inner.1 (acts_add tree inner.0 formed.0 role.Plain))
      (second_part_add rest inner.2 formed.1 mark adds)

  second_part_add : (children : Children) → AreInner false children → AreFormed children → (mark : List Act) → Adds false mark
      → Adds false (second_part mark children)
  second_part_add Over inner formed mark adds = adds
  second_part_add (Absent rest) inner formed mark adds = third_part_add rest inner formed mark adds
  second_part_add (Child tree rest) inner formed mark adds =
      adds_both false (acts role.Plain tree) (third_part mark rest)
      (adds_less false (is_quiet (kind_of tree)) (acts role.Plain tree) inner.1 (acts_add tree inner.0 formed.0 role.Plain))
      (third_part_add rest inner.2 formed.1 mark adds)

  third_part_add : (children : Children) → AreInner false children → AreFormed children → (mark : List Act) → Adds false mark
      → Adds false (third_part mark children)
  third_part_add Over inner formed mark adds = adds
  third_part_add (Absent rest) inner formed mark adds = adds_both false mark (each role.Plain rest) adds (each_add false rest inner formed role.Plain)
  third_part_add (Child tree rest) inner formed mark adds =
      adds_both false (acts role.Plain tree) (mark ++ each role.Plain rest)
      (adds_less false (is_quiet (kind_of tree)) (acts role.Plain tree) inner.1 (acts_add tree inner.0 formed.0 role.Plain))
      (adds_both false mark (each role.Plain rest) adds (each_add false rest inner.2 formed.1 role.Plain))

  statements_add : (children : Children) → AreInRow is_construct_part children → AreFormed children → (around : Role) → Adds true (statements around children)
  statements_add Over row formed around = adds_nothing true
  statements_add (Absent rest) row formed around = adds_nothing true
  statements_add (Child tree rest) row formed around =
      adds_both true (if is_head (kind_of tree) then [] else acts around tree) (statements around rest)
      (head-quiet true (is_head (kind_of tree)) (acts around tree)
      (λ apart. let is = code-quiet (kind_of tree) row.0 apart in adds_less true (is_quiet (kind_of tree)) (acts around tree) (λ same. is)
      (acts_add tree (quiet_inner (kind_of tree) is) formed.0 around)))
      (statements_add rest row.1 formed.1 around)

  pub outside_add : (children : Children) → AreFormed children → Adds true (outside_acts children)
  outside_add Over formed = adds_nothing true
  outside_add (Absent rest) formed = adds_nothing true
  outside_add (Child (Node (node.Clause lead) spot name number text children) rest) formed =
      adds_both true (clause_outside children) (outside_acts rest) (clause_outside_add children formed.0.1) (outside_add rest formed.1)
  outside_add (Child (Node other spot name number text children) rest) formed = outside_add rest formed.1

  clause_outside_add : (children : Children) → AreFormed children → Adds true (clause_outside children)
  clause_outside_add Over formed = adds_nothing true
  clause_outside_add (Absent rest) formed = adds_nothing true
  clause_outside_add (Child (Node node.NumThreads spot name number text children) rest) formed =
      each_add true children (one-row true children formed.0.0) formed.0.1 role.Plain
  clause_outside_add (Child (Node node.IfClause spot name number text children) rest) formed =
      each_add true children (one-row true children formed.0.0) formed.0.1 role.Plain
  clause_outside_add (Child (Node (node.Data which) spot name number text children) rest) formed = mentioned-quiet true _ children
  clause_outside_add (Child (Node (node.Reduction operator) spot name number text children) rest) formed = mentioned-quiet true _ children
  clause_outside_add (Child (Node other spot name number text children) rest) formed = adds_nothing true

-- a function's block
pub items_add : (children : Children) → AreInRow is_part children → AreFormed children → Adds false (each role.Plain children)
items_add children row formed = each_add false children (inner-row is_part part_inner children row) formed role.Plain

-- a statement or expression adds nothing
pub quiet_adds : (tree : Tree) → IsTrue (is_quiet (kind_of tree)) → IsFormed tree → (around : Role) → Adds true (acts around tree)
quiet_adds tree is formed around =
    adds_less true (is_quiet (kind_of tree)) (acts around tree) (λ same. is) (acts_add tree (quiet_inner (kind_of tree) is) formed around)
