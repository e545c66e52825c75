-- A task copies by rule only variables that are in scope where it begins.
use Rattle.std.specs.Prelude.{ℕ, ◌≤◌, ◌≡◌, ◌&&◌, ◌||◌, ◌⊎◌, nat_eq, nat_le, not, if◌then◌else◌, Bool, true, false, IsTrue, List, [], ◌∷◌, ◌++◌, length}
use Rattle.std.specs.Prelude.{Option, Some, None, is_none, option_map, sum_by, refl}
use Rattle.std.specs.List.{All, Contains}
use Rattle.std.proofs.Common.{arith, ap, sym, ◌∙◌, subst, inl, inr, length-append}
use Rattle.std.proofs.lemmas.Bool.Decides.{nat_tests}
use Rattle.std.proofs.lemmas.List.Elements.{All-append, All-cons, All-head, All-nil, All-push, All-tail, All-weaker}
use Rattle.c_tokens.specs.declared.token.Spot.{Spot}
use Rattle.c_syntax.specs.declared.node.Directive.{Directive}
use Rattle.c_syntax.specs.language.Numbered.{TreeView}
use Rattle.c_check.specs.declared.acts.act.Act.{Act}
use Rattle.c_check.specs.declared.acts.act.Act.TheVariants.{Open, Close, Begin, End, Declare, Use, Enter, Clause, List as Listing, Loop, Leave}
use Rattle.c_check.specs.declared.acts.act.DataClause.{DataClause}
use Rattle.c_check.specs.declared.acts.act.Thing.{Thing}
use Rattle.c_check.specs.declared.constructs.parts.Head.{Head}
use Rattle.c_check.specs.declared.scopes.declared.Declared.{Declared}
use Rattle.c_check.specs.Checked.{acts_of, after_all, end_of, here_after}
use Rattle.c_check.specs.Constructs.{Construct, Constructs, begun_construct, open_constructs, with_newest, with_use, without_innermost}
use Rattle.c_check.specs.Declarations.{Declarations, find, next_of, still_in_scope, with_next}
use Rattle.c_check.specs.Faults.{is_same_spot}
use Rattle.c_check.specs.Here.{Here, after, before_all, copies_at, is_of_file, is_variable, listed, looped, used}
use Rattle.c_check.specs.Once.{is_among, with_each, with_one}
use Rattle.c_check.specs.Seen.{copies_of_task, slots_copied}
use Rattle.c_check.specs.Shares.{TaskCopy, copies_around, copies_by_rule, copy_by_rule, is_task, own_sharing, shared_by_rule}
use Rattle.c_model.proofs.ScopeActs.{after_both}
use Rattle.c_slots.specs.OwnPlaces.{HasOwnPlaces, placed_at}
use Rattle.c_slots.specs.Slotted.{Cover}
use Rattle.c_slots.proofs.ActPlaces.{apart, at_itself, is_alone, none_behind, none_first}

-- what is so of the heads of the constructs that are open
abbrev AreOpen : (Head → Type 0) → Constructs → Type 0
AreOpen Q constructs = All (λ (it : Construct). Q it.head) (open_constructs constructs)

map-open : (Q : Head → Type 0) (f : Construct → Construct) → ((it : Construct) → (f it).head ≡ it.head)
    → (newest : Option Construct) (around : List Construct) → All (λ (it : Construct). Q it.head) (with_newest newest around)
    → All (λ (it : Construct). Q it.head) (with_newest (option_map f newest) around)
map-open Q f same None around are = are
map-open Q f same (Some it) around are =
    All-cons (λ (it : Construct). Q it.head) (f it) around (subst Q (sym (same it)) (All-head (λ (it : Construct). Q it.head) it around are))
    (All-tail (λ (it : Construct). Q it.head) it around are)

used-open : (constructs : Constructs) (spot : Spot) (it : Declared) (variable : Bool)
    → open_constructs (if variable then with_use constructs spot it.slot else constructs) ≡ open_constructs constructs
used-open constructs spot it true = refl
used-open constructs spot it false = refl

listed-open : (Q : Head → Type 0) (constructs : Constructs) (found : Option Declared) (which : DataClause) → AreOpen Q constructs
    → AreOpen Q (listed constructs found which)
listed-open Q constructs None which are = are
listed-open Q constructs (Some it) which are = map-open Q _ (λ one. refl) constructs.newest constructs.around are

looped-open : (Q : Head → Type 0) (constructs : Constructs) (found : Option Declared) → AreOpen Q constructs → AreOpen Q (looped constructs found)
looped-open Q constructs None are = are
looped-open Q constructs (Some it) are = map-open Q _ (λ one. refl) constructs.newest constructs.around are

ended-open : (Q : Head → Type 0) (ones : List Construct) (constructs : Constructs) → All (λ (it : Construct). Q it.head) ones
    → AreOpen Q (without_innermost ones constructs)
ended-open Q [] constructs are = All-nil (λ (it : Construct). Q it.head)
ended-open Q (first ∷ outer) constructs are = All-tail (λ (it : Construct). Q it.head) first outer are

found-holds : (S : Declared → Type 0) (visible : List Declared) (name : ℕ) (it : Declared) → All S visible → find visible name ≡ Some it → S it
unfolding find
found-holds S [] name it are found = absurd (cc)
found-holds S (first ∷ visible) name it are found =
    chosen (nat_eq first.name name) found (λ found. found-holds S visible name it (All-tail S first visible are) found)
  where
    chosen : (same : Bool) → (if same then Some first else find visible name) ≡ Some it → (find visible name ≡ Some it → S it) → S it
    chosen true found each = subst S (let same : first ≡ it = cc in same) (All-head S first visible are)
    chosen false found each = each found

still-holds : (S : Declared → Type 0) (level : ℕ) (visible : List Declared) → All S visible → All S (still_in_scope level visible)
unfolding still_in_scope
still-holds S level [] are = are
still-holds S level (first ∷ visible) are = chosen (nat_le level first.level) (still-holds S level visible (All-tail S first visible are))
  where
    chosen : (ends : Bool) → All S (still_in_scope level visible) → All S (if ends then still_in_scope level visible else first ∷ visible)
    chosen true rest = rest
    chosen false rest = are

only-outside : (task none inside shared rule : Bool) → (task && none && not (inside || shared || rule)) ≡ true → inside ≡ false
only-outside true true false shared rule is = refl
only-outside true true true shared rule is = absurd (let wrong : false ≡ true = is in cc)
only-outside true false inside shared rule is = absurd (let wrong : false ≡ true = is in cc)
only-outside false none inside shared rule is = absurd (let wrong : false ≡ true = is in cc)

-- While no other construct begins at a place: what is so of the heads of open constructs, of copies and of what is in scope stays so.
module _ (place : Spot) (first : ℕ) (Q : Head → Type 0) (P : TaskCopy → Type 0) (S : Declared → Type 0)
    (enters : (head : Head) → is_same_spot head.spot place ≡ false → Q head)
    (declares : (it : Declared) → first ≤ it.slot → S it)
    (copied : (it : Declared) (head : Head) → S it → Q head → nat_le head.first it.slot ≡ false → IsTrue (is_variable it.thing) → P
    (record { task = head.spot; slot = it.slot })) where
  record Holds (here : Here) : Type 0 where
    enough : first ≤ length here.names.all
    seen : All S here.names.visible
    open_ones : AreOpen Q here.constructs
    copies : All P here.copies

  copies-one : (construct : Construct) (by_rule : Bool) (it : Declared) (chosen : Bool) → copies_by_rule construct by_rule it.slot ≡ chosen → S it
      → Q construct.head → IsTrue (is_variable it.thing)
      → All P (if chosen then record { task = construct.head.spot; slot = it.slot } ∷ [] else [])
  copies-one construct by_rule it true is seen head variable =
      All-cons P _ [] (copied it construct.head seen head
      (only-outside (is_task construct.head.directive) (is_none (own_sharing construct it.slot))
      (nat_le construct.head.first it.slot) construct.clauses.default_shared by_rule is) variable) (All-nil P)
  copies-one construct by_rule it false is seen head variable = All-nil P

  copies-all : (constructs : List Construct) (of_file : Bool) (it : Declared) → S it → All (λ (it : Construct). Q it.head) constructs
      → IsTrue (is_variable it.thing) → All P (copies_around constructs of_file it.slot)
  unfolding copies_around
  copies-all [] of_file it seen are variable = All-nil P
  copies-all (construct ∷ around) of_file it seen are variable =
      All-append P (copies_around around of_file it.slot) (copy_by_rule construct (shared_by_rule around of_file it.slot) it.slot)
      (copies-all around of_file it seen (All-tail (λ (it : Construct). Q it.head) construct around are) variable)
      (copies-one construct (shared_by_rule around of_file it.slot) it (copies_by_rule construct (shared_by_rule around of_file it.slot) it.slot) refl seen
      (All-head (λ (it : Construct). Q it.head) construct around are) variable)

  copies-if : (variable : Bool) (here : Here) (it : Declared) → is_variable it.thing ≡ variable → S it → AreOpen Q here.constructs
      → All P (if variable then copies_around (open_constructs here.constructs) (is_of_file it) it.slot else [])
  copies-if true here it is seen are = copies-all (open_constructs here.constructs) (is_of_file it) it seen are is
  copies-if false here it is seen are = All-nil P

  used-holds : (here : Here) (spot : Spot) (found : Option Declared) → ((it : Declared) → found ≡ Some it → S it) → Holds here → Holds (used here spot found)
  used-holds here spot None each holds = holds
  used-holds here spot (Some it) each holds =
      record {
        enough = holds.enough;
        seen = holds.seen;
        open_ones = subst (λ (ones : List Construct). All (λ (it : Construct). Q it.head) ones)
            (sym (used-open here.constructs spot it (is_variable it.thing))) holds.open_ones;
        copies = All-append P here.copies (copies_at here.constructs it) holds.copies
            (copies-if (is_variable it.thing) here it refl (each it refl) holds.open_ones);
      }

  declared-enough : (names : Declarations) (name : ℕ) (what : Thing) → first ≤ length names.all → first ≤ length (with_next names name what).all
  declared-enough names name what enough = omega (arith, enough, length-append names.all (next_of names name what ∷ []))

  declared-seen : (names : Declarations) (name : ℕ) (what : Thing) → first ≤ length names.all → All S names.visible
      → All S (with_next names name what).visible
  declared-seen names name what enough seen = All-cons S (next_of names name what) names.visible (declares (next_of names name what) enough) seen

  one-holds : (here : Here) (act : Act) → placed_at place act ≡ 0 → Holds here → Holds (after here act)
  unfolding after
  one-holds here Open none holds = record { enough = holds.enough; seen = holds.seen; open_ones = holds.open_ones; copies = holds.copies }
  one-holds here Close none holds =
      record { enough = holds.enough; seen = still-holds S here.names.level here.names.visible holds.seen; open_ones = holds.open_ones; copies = holds.copies }
  one-holds here (Begin name spot gives parameters) none holds =
      record {
        enough = declared-enough here.names name _ holds.enough;
        seen = declared-seen here.names name _ holds.enough holds.seen;
        open_ones = All-nil (λ (it : Construct). Q it.head);
        copies = holds.copies;
      }
  one-holds here End none holds =
      record { enough = holds.enough; seen = still-holds S here.names.level here.names.visible holds.seen; open_ones = holds.open_ones; copies = holds.copies }
  one-holds here (Declare name spot what) none holds =
      record {
        enough = declared-enough here.names name what holds.enough;
        seen = declared-seen here.names name what holds.enough holds.seen;
        open_ones = holds.open_ones;
        copies = holds.copies;
      }
  one-holds here (Use name spot usage) none holds =
      used-holds here spot (find here.names.visible name) (λ it found. found-holds S here.names.visible name it holds.seen found) holds
  one-holds here (Enter spot which critical) none holds =
      record {
        enough = holds.enough;
        seen = holds.seen;
        open_ones = All-cons (λ (it : Construct). Q it.head) (begun_construct spot which critical (length here.names.all)) (open_constructs here.constructs)
            (enters (begun_construct spot which critical (length here.names.all)).head (apart place spot none)) holds.open_ones;
        copies = holds.copies;
      }
  one-holds here (Clause one) none holds =
      record {
        enough = holds.enough;
        seen = holds.seen;
        open_ones = map-open Q _
            (λ one. refl) here.constructs.newest here.constructs.around holds.open_ones;
        copies = holds.copies;
      }
  one-holds here (Listing name spot which) none holds =
      record {
        enough = holds.enough;
        seen = holds.seen;
        open_ones = listed-open Q here.constructs
            (find here.names.visible name) which holds.open_ones;
        copies = holds.copies;
      }
  one-holds here (Loop name) none holds =
      record {
        enough = holds.enough;
        seen = holds.seen;
        open_ones = looped-open Q here.constructs
            (find here.names.visible name) holds.open_ones;
        copies = holds.copies;
      }
  one-holds here Leave none holds =
      record {
        enough = holds.enough;
        seen = holds.seen;
        open_ones = ended-open Q
            (open_constructs here.constructs) here.constructs holds.open_ones;
        copies = holds.copies;
      }
  one-holds here act none holds = holds

  all-holds : (here : Here) (acts : List Act) → sum_by (placed_at place) acts ≡ 0 → Holds here → Holds (after_all here acts)
  unfolding after_all
  all-holds here [] none holds = holds
  all-holds here (act ∷ acts) none holds =
      all-holds (after here act) acts (none_behind place act acts none) (one-holds here act (none_first place act acts none) holds)

-- before a construct begins at its place, no construct there is open, and no task there has a copy
abbrev NotThere : Spot → Spot → Type 0
NotThere place spot = is_same_spot spot place ≡ true → ⊥

abbrev NoHead : Spot → Head → Type 0
NoHead place head = NotThere place head.spot

abbrev NoCopy : Spot → TaskCopy → Type 0
NoCopy place copy = NotThere place copy.task

-- behind that it is the construct there, and what is in scope is from before it or declared inside
abbrev IsHeadThere : Spot → ℕ → Head → Type 0
IsHeadThere place first head = is_same_spot head.spot place ≡ true → head.first ≡ first

abbrev pub IsCopyOf : Spot → List ℕ → TaskCopy → Type 0
IsCopyOf place slots copy = is_same_spot copy.task place ≡ true → Contains slots copy.slot

abbrev IsSeen : ℕ → List ℕ → Declared → Type 0
IsSeen first slots it = (IsTrue (is_variable it.thing) → Contains slots it.slot) ⊎ (first ≤ it.slot)

elsewhere : (same : Bool) → same ≡ false → same ≡ true → ⊥
elsewhere same is other = cc

copied-before : (first : ℕ) (slots : List ℕ) (place : Spot) (it : Declared) (head : Head) → IsSeen first slots it → IsHeadThere place first head
    → nat_le head.first it.slot ≡ false → IsTrue (is_variable it.thing) → is_same_spot head.spot place ≡ true → Contains slots it.slot
copied-before first slots place it head (inl has) there less variable same = has variable
copied-before first slots place it head (inr over) there less variable same = absurd (inside head.first it.slot first (there same) over less)
  where
    inside : (one slot first : ℕ) → one ≡ first → first ≤ slot → nat_le one slot ≡ false → ⊥
    inside one slot first is over less = grind (arith, nat_tests)

pub copies_are_covered : (program : TreeView) → HasOwnPlaces program
    → (slots : List ℕ) (before behind : List Act) (spot : Spot) (which : Directive) (critical : ℕ)
    → acts_of program ≡ before ++ Enter spot which critical ∷ behind
    → Cover slots (here_after program before).names.visible → All (IsCopyOf spot slots) (end_of program).copies
unfolding after_all after
copies_are_covered program own slots before behind spot which critical are covered =
    let alone = is_alone program own spot before behind (Enter spot which critical) (at_itself spot) are in
    let here = here_after program before in
    let first = length here.names.all in
    let earlier = all-holds spot 0 (NoHead spot) (NoCopy spot) (λ (it : Declared). Unit {0}) (λ head other. elsewhere _ other) (λ it over. tt)
    (λ it head seen none less variable. none) (before_all program.main) before alone.none_before (record {
      enough = omega arith;
      seen = All-nil (λ (it : Declared). Unit {0});
      open_ones = All-nil (λ (it : Construct). NoHead spot it.head);
      copies = All-nil (NoCopy spot);
    })
    in
    let later = all-holds spot first (IsHeadThere spot first) (IsCopyOf spot slots) (IsSeen first slots) (λ head other same. absurd (elsewhere _ other same))
    (λ it over. inr over)
    (λ it head seen there less variable same. copied-before first slots spot it head seen there less variable same)
    (after here (Enter spot which critical)) behind alone.none_behind (record {
      enough = omega arith;
      seen = All-weaker (λ (it : Declared). IsTrue (is_variable it.thing) → Contains slots it.slot) (IsSeen first slots)
          (λ it has. inl has) here.names.visible covered;
      open_ones =
          All-cons (λ (it : Construct). IsHeadThere spot first it.head) (begun_construct spot which critical first) (open_constructs here.constructs)
          (λ same. refl)
          (All-weaker (λ (it : Construct). NoHead spot it.head) (λ (it : Construct). IsHeadThere spot first it.head) (λ it none same. absurd (none same))
          (open_constructs here.constructs) earlier.open_ones);
      copies = All-weaker (NoCopy spot) (IsCopyOf spot slots) (λ copy none same. absurd (none same)) here.copies earlier.copies;
    })
    in
    subst (λ (end : Here). All (IsCopyOf spot slots) end.copies)
    (sym (ap (λ (acts : List Act). after_all (before_all program.main) acts) are ∙ after_both (before_all program.main) before
    (Enter spot which critical ∷ behind))) later.copies

-- the slots of a task's copies, each once
one-more : (P : ℕ → Type 0) (known : List ℕ) (one : ℕ) → All P known → P one → All P (with_one known one)
one-more P known one are is = chosen (is_among known one)
  where
    chosen : (there : Bool) → All P (if there then known else known ++ one ∷ [])
    chosen true = are
    chosen false = All-push P known one are is

each-more : (P : ℕ → Type 0) (known rest : List ℕ) → All P known → All P rest → All P (with_each known rest)
unfolding with_each
each-more P known [] are also = are
each-more P known (first ∷ rest) are also =
    each-more P (with_one known first) rest (one-more P known first are (All-head P first rest also)) (All-tail P first rest also)

slots-covered : (slots : List ℕ) (copies : List TaskCopy) (spot : Spot) → All (IsCopyOf spot slots) copies
    → All (λ (slot : ℕ). Contains slots slot) (slots_copied copies spot)
unfolding slots_copied
slots-covered slots [] spot are = All-nil (λ (slot : ℕ). Contains slots slot)
slots-covered slots (first ∷ copies) spot are =
    chosen (is_same_spot first.task spot) refl (slots-covered slots copies spot (All-tail (IsCopyOf spot slots) first copies are))
  where
    chosen : (here : Bool) → is_same_spot first.task spot ≡ here → All (λ (slot : ℕ). Contains slots slot) (slots_copied copies spot)
        → All (λ (slot : ℕ). Contains slots slot) (if here then first.slot ∷ slots_copied copies spot else slots_copied copies spot)
    chosen true is rest =
        All-cons (λ (slot : ℕ). Contains slots slot) first.slot (slots_copied copies spot) (All-head (IsCopyOf spot slots) first copies are is) rest
    chosen false is rest = rest

pub copied_slots_covered : (slots : List ℕ) (copies : List TaskCopy) (spot : Spot) → All (IsCopyOf spot slots) copies
    → All (λ (slot : ℕ). Contains slots slot) (copies_of_task copies spot)
copied_slots_covered slots copies spot are =
    each-more (λ (slot : ℕ). Contains slots slot) [] (slots_copied copies spot) (All-nil (λ (slot : ℕ). Contains slots slot))
    (slots-covered slots copies spot are)
