-- A construct, by the rule on names that are listed.
use Rattle.std.specs.Prelude.{ℕ, ◌≡◌, ◌⊎◌, ◌<◌, ◌&&◌, not, Bool, true, false, is_none, List, [], ◌∷◌, ◌++◌, length, Option, Some, None, refl}
use Rattle.std.proofs.Common.{sym, ap, subst, ◌∙◌, inl, inr, arith, true≢false}
use Rattle.std.proofs.lemmas.Bool.{and_parts, leb-false, lt-leb}
use Rattle.std.proofs.lemmas.List.Sums.{sum_by-cons}
use Rattle.c_tokens.specs.declared.token.Spot.{Spot}
use Rattle.c_syntax.specs.declared.node.Directive.{Directive}
use Rattle.c_syntax.specs.declared.node.NodeKind.TheVariants as node
use Rattle.c_syntax.specs.language.Tree.{Tree, children_of, kind_of, spot_of}
use Rattle.c_check.specs.declared.acts.act.Act.{Act}
use Rattle.c_check.specs.declared.acts.act.Act.TheVariants.{Enter, Leave}
use Rattle.c_check.specs.declared.acts.act.Thing.{Thing}
use Rattle.c_check.specs.declared.acts.act.Thing.TheVariants as thing
use Rattle.c_check.specs.declared.constructs.parts.Head.{Head}
use Rattle.c_check.specs.declared.scopes.declared.Declared.{Declared}
use Rattle.c_check.specs.Clauses.{inside_acts}
use Rattle.c_check.specs.Constructs.{Construct, begun_construct, is_inside, leaves_out, mention}
use Rattle.c_check.specs.Declarations.{Declarations, find}
use Rattle.c_check.specs.Here.{Here, after, is_variable}
use Rattle.c_check.specs.Loops.{child_at, loop_name}
use Rattle.c_check.specs.Statements.{statement_of}
use Rattle.check_laws.specs.Scopes.{Position, Sort, declared, meaning}
use Rattle.check_laws.specs.LoopForm.{is_loop_construct}
use Rattle.check_laws.specs.ListedNames.{HasDefaultNone, Lists, clauses_of, is_construct, is_listable, positions_inside, used, with_inside}
use Rattle.c_slots.specs.OwnPlaces.{placed_at}
use Rattle.c_slots.proofs.ActPlaces.{at_itself}
use Rattle.check_laws.proofs.Broken.{BreaksIn}
use Rattle.check_laws.proofs.Constructing.{IsBegun, open-begun}
use Rattle.check_laws.proofs.Entries.{Entry, HavePlaces, OwnEntry, TakesAt, entries, entries-calm, origin, takes}
use Rattle.check_laws.proofs.Has.{Has, has-one, has-or-not, has-weaker, one-has}
use Rattle.check_laws.proofs.ListRule.{BrokenAt, HasBroken, Listing, Outcome, loop_entry, own-enclosed, places-enclosed, use_entry, used_as}
use Rattle.check_laws.proofs.NameRule.{InnerNaming, begun-here, construct-uses-none, enters, first_here, informed-here, inside_here, names-here}
use Rattle.check_laws.proofs.Naming.{IsNamed, IsUsedAt, Mentioned, Mentions, Purpose, mentions, mentions-calm}
use Rattle.check_laws.proofs.Parts.{position}
use Rattle.check_laws.proofs.Saying.{IsMentioned, IsNoneClause, IsUsedWith, ListsIn, ListsSlot, SaysNone, all-head, all-listed, all-none, all-said, list-says, list-tells, listed-all, none-all, none-says, none-tells, said_all}
use Rattle.check_laws.proofs.Sharing.{no-meaning, same-option}
use Rattle.check_laws.proofs.Standing.{IsReady, around_here}
use Rattle.check_laws.proofs.Inside.{inside-informing}
use Rattle.check_laws.proofs.Unnamed.{AreUnnamed, all-unnamed, enclosed, put-enclosed}
use Rattle.check_laws.proofs.Visible.{HasSlot, found-below, meaning-found, one-name, scope_of, sort_found, sort_of}

-- a construct that stands there has begun last
pub record Begun (me : Tree) (here : Here) : Type 0 where
  pub construct : Construct
  pub begun : IsBegun (spot_of me) here construct

-- whether a position shares out a loop with an outer variable of this name
loop-or-not : (so : Bool) → (so ≡ true) ⊎ (so ≡ true → ⊥)
loop-or-not true = inl refl
loop-or-not false = inr (λ is. absurd (let wrong : false ≡ true = is in cc))

shares-or-not : (name : ℕ) (at : Position) → IsNamed Purpose.looping name at ⊎ (IsNamed Purpose.looping name at → ⊥)
shares-or-not name at =
    elim (loop-or-not (is_loop_construct (kind_of at.node))) [
      | inr not_shares ↦ inr (λ it. not_shares it.named.shares)
      | inl shares ↦ elim (same-option (loop_name (statement_of (children_of at.node))) name) [
        | inr differs ↦ inr (λ it. differs it.named.variable)
        | inl variable ↦ elim (no-meaning (meaning (declared (child_at (statement_of (children_of at.node)) 0)) name)) [
          | inr declares ↦ inr (λ it. declares it.named.undeclared)
          | inl undeclared ↦ elim (no-meaning (meaning at.scope name)) [
            | inr hidden ↦ inr (λ it. hidden it.hidden)
            | inl outside ↦ inl (record { named = record { shares = shares; variable = variable; undeclared = undeclared }; hidden = outside })
          ]
        ]
      ]
    ]

-- what is a variable, in the tree's words
thing-listable : (what : Thing) → is_variable what ≡ true → is_listable (Some (sort_of what)) ≡ true
thing-listable thing.Int is = refl
thing-listable (thing.Array size) is = refl
thing-listable thing.Lock is = refl
thing-listable (thing.Function returns parameters) is = absurd (let wrong : false ≡ true = is in cc)

listable-thing : (what : Thing) → is_listable (Some (sort_of what)) ≡ true → is_variable what ≡ true
listable-thing thing.Int is = refl
listable-thing (thing.Array size) is = refl
listable-thing thing.Lock is = refl
listable-thing (thing.Function returns parameters) is = absurd (let wrong : false ≡ true = is in cc)

record IsFound (found : Option Declared) : Type 0 where
  what : Declared
  is : found ≡ Some what
  variable : is_variable what.thing ≡ true

listable-found : (found : Option Declared) → is_listable (sort_found found) ≡ true → IsFound found
listable-found None is = absurd (let wrong : false ≡ true = is in cc)
listable-found (Some what) is = record { what = what; is = refl; variable = listable-thing what.thing is }

-- the parts of what a construct leaves out
all-three : (a b c : Bool) → (a && b && c) ≡ true → (a ≡ true) × (b ≡ true) × (c ≡ true)
all-three true true true is = (refl, refl, refl)
all-three true true false is = absurd (let wrong : false ≡ true = is in cc)
all-three true false c is = absurd (let wrong : false ≡ true = is in cc)
all-three false b c is = absurd (let wrong : false ≡ true = is in cc)

three-all : (a b c : Bool) → a ≡ true → b ≡ true → c ≡ true → (a && b && c) ≡ true
three-all a b c ia ib ic = rw (ia, ib, ic) refl

not-true : (so : Bool) → not so ≡ true → so ≡ false
not-true true is = absurd (let wrong : false ≡ true = is in cc)
not-true false is = refl

false-so : (so : Bool) → so ≡ false → not so ≡ true
false-so so is = rw is refl

so-or-false : (so : Bool) → (so ≡ false → ⊥) → so ≡ true
so-or-false true differs = refl
so-or-false false differs = absurd (differs refl)

unmentioned : (slot : ℕ) → IsMentioned [] slot → ⊥
unfolding mention
unmentioned slot is = true≢false is

module _ (me : Tree) (which : Directive) (critical : ℕ) (kind : kind_of me ≡ node.Construct which) (some : List Act) (nodes : List Position) (inside : positions_inside (children_of me) ≡ nodes)
    (names : InnerNaming me some (position me ∷ nodes)) (lists : Listing (Begun me) some nodes) where
  abbrev whole : List Act
  whole = Enter (spot_of me) which critical ∷ inside_acts (children_of me) ++ (some ++ Leave ∷ [])

  informing : AreUnnamed (inside_here me which critical)
  informing = all-unnamed (inside_here me which critical) (inside-informing (children_of me))

  module _ (here : Here) (ready : IsReady false here) where
    abbrev first : Here
    first = first_here me which critical here

    abbrev now : Construct
    now = (informed-here me which critical here).now

    abbrev visible : List Declared
    visible = here.names.visible

    begun-first : IsBegun (spot_of me) first now
    begun-first = begun-here me which critical here ready

    begun : Begun me first
    begun = record { construct = now; begun = begun-first }

    open-first : around_here first ≡ now ∷ around_here here
    unfolding after
    open-first = open-begun first.constructs now (informed-here me which critical here).newest ∙ ap (λ (around : List Construct). now ∷ around) (informed-here me which critical here).around

    abbrev said_now : Construct
    said_now = said_all visible (begun_construct (spot_of me) which critical (length here.names.all)) (inside_here me which critical)

    now-said : now ≡ said_now
    unfolding after
    now-said =
        let said : first.constructs.newest ≡ Some said_now =
        all-said (after here (enters me which critical)) (begun_construct (spot_of me) which critical (length here.names.all)) (inside_here me which critical) (inside-informing (children_of me)) refl in
        let both : Some now ≡ Some said_now = sym (informed-here me which critical here).newest ∙ said in
        cc

    now-first : now.head.first ≡ length here.names.all
    now-first =
        let head : now.head ≡ (begun_construct (spot_of me) which critical (length here.names.all)).head =
        ap (λ (one : Construct). one.head) now-said ∙ all-head visible (begun_construct (spot_of me) which critical (length here.names.all)) (inside_here me which critical) in
        ap (λ (head : Head). head.first) head

    none-on : now.clauses.default_none ≡ true → HasDefaultNone me
    none-on is =
        let has : Has SaysNone (inside_here me which critical) =
        (elim (all-none visible (begun_construct (spot_of me) which critical (length here.names.all)) (inside_here me which critical) (subst (λ (one : Construct). one.clauses.default_none ≡ true) now-said is)) [
          | inl first ↦ absurd (let wrong : false ≡ true = first in cc)
          | inr has ↦ has
        ]) in
        let one = has-one IsNoneClause (clauses_of (children_of me)) (none-tells (children_of me) has) in
        record { is = ap is_construct kind; clause = one.one; there = one.contains; none = one.is }

    none-off : HasDefaultNone me → now.clauses.default_none ≡ true
    none-off it =
        subst (λ (one : Construct). one.clauses.default_none ≡ true) (sym now-said)
        (none-all visible (begun_construct (spot_of me) which critical (length here.names.all)) (inside_here me which critical)
        (inr (none-says (children_of me) (one-has IsNoneClause (clauses_of (children_of me)) it.clause it.there it.none))))

    -- it lists the name of what has this slot
    listed-on : (name : ℕ) (what : Declared) → find visible name ≡ Some what → IsMentioned now.mentions what.slot → Lists name me
    listed-on name what found is =
        let has : Has (ListsSlot visible what.slot) (inside_here me which critical) =
        (elim (all-listed visible (begun_construct (spot_of me) which critical (length here.names.all)) (inside_here me which critical) what.slot (subst (λ (one : Construct). IsMentioned one.mentions what.slot) now-said is)) [
          | inl first ↦ absurd (unmentioned what.slot first)
          | inr has ↦ has
        ]) in
        let one = has-one (ListsIn visible what.slot) (clauses_of (children_of me)) (list-tells visible what.slot (children_of me) has) in
        let it = has-one (IsUsedWith visible what.slot) (used one.one) one.is.lists in
        record {
          clause = one.one;
          there = one.contains;
          is = one.is.is;
          one = it.one;
          listed = it.contains;
          named = one-name (length here.names.all) visible it.one.name name what.slot ready.names.falls it.is (subst (λ (found : Option Declared). HasSlot found what.slot) (sym found) refl);
        }

    listed-off : (name : ℕ) (what : Declared) → find visible name ≡ Some what → Lists name me → IsMentioned now.mentions what.slot
    listed-off name what found it =
        subst (λ (one : Construct). IsMentioned one.mentions what.slot) (sym now-said)
        (listed-all visible (begun_construct (spot_of me) which critical (length here.names.all)) (inside_here me which critical) what.slot
        (inr (list-says visible what.slot (children_of me)
        (one-has (ListsIn visible what.slot) (clauses_of (children_of me)) it.clause it.there
        (record {
          is = it.is;
          lists = one-has (IsUsedWith visible what.slot) (used it.clause) it.one it.listed
              (subst (λ (name : ℕ). HasSlot (find visible name) what.slot) (sym it.named) (subst (λ (found : Option Declared). HasSlot found what.slot) (sym found) refl));
        })))))

    -- names inside
    inner-tells : (one : Mentioned) → one.what.slot < length here.names.all → BreaksIn mentions first some one → Has (Mentions visible one) (position me ∷ nodes)
    inner-tells one less breaks =
        subst (λ (names : Declarations). Has (Mentions names.visible one) (position me ∷ nodes)) (names-here me which critical here)
        (names.tells first now begun-first one (subst (λ (names : Declarations). one.what.slot < length names.all) (sym (names-here me which critical here)) less) breaks)

    inner-breaks : (one : Mentioned) → Has (Mentions visible one) (position me ∷ nodes) → BreaksIn mentions first some one
    inner-breaks one has =
        names.breaks first now begun-first one (subst (λ (names : Declarations). Has (Mentions names.visible one) (position me ∷ nodes)) (sym (names-here me which critical here)) has)

    named-mentions : (purpose : Purpose) (name : ℕ) (what : Declared) (positions : List Position) → find visible name ≡ Some what → Has (IsNamed purpose name) positions
        → Has (Mentions visible (record { purpose = purpose; what = what })) positions
    named-mentions purpose name what positions found has =
        has-weaker (IsNamed purpose name) (Mentions visible (record { purpose = purpose; what = what })) (λ at is. record { name = name; is = is; found = found }) positions has

    uses-inside : (spot : Spot) (what : Declared) → Has (Mentions visible (used_as spot what)) (position me ∷ nodes) → Has (Mentions visible (used_as spot what)) nodes
    uses-inside spot what (inl this) = absurd (let none : Has (IsUsedAt this.name spot) [] = subst (Has (IsUsedAt this.name spot)) (construct-uses-none me which kind) this.is.named in none)
    uses-inside spot what (inr there) = there

    with-inside : with_inside me ≡ position me ∷ nodes
    with-inside = ap (λ (nodes : List Position). position me ∷ nodes) inside

    -- the construct leaves out a use
    own-tells : (spot : Spot) (what : Declared) (at : Spot) → TakesAt (Purpose.using spot) what at now → BreaksIn mentions first some (used_as spot what)
        → BreaksIn entries here whole (loop_entry what.slot at) ⊎ BrokenAt (scope_of visible) spot (position me)
    own-tells spot what at takes used_there =
        let variable = and_parts (is_variable what.thing) (leaves_out now what.slot) takes.taken in
        let parts = all-three now.clauses.default_none (not (is_inside now what.slot)) (is_none (mention now.mentions what.slot)) variable.1 in
        let outside : what.slot < now.head.first = leb-false now.head.first what.slot (not-true (is_inside now what.slot) parts.1) in
        let less : what.slot < length here.names.all = subst (λ (first : ℕ). what.slot < first) now-first outside in
        let uses = uses-inside spot what (inner-tells (used_as spot what) less used_there) in
        let one = has-one (Mentions visible (used_as spot what)) nodes uses in
        let found : find visible one.is.name ≡ Some what = one.is.found in
        elim (has-or-not (IsNamed Purpose.looping one.is.name) (shares-or-not one.is.name) (position me ∷ nodes)) [
          | inl loops ↦ inl
              (put-enclosed entries entries-calm (loop_entry what.slot at) here (enters me which critical) Leave (inside_here me which critical) some
              (lists.around first begun (record { purpose = Purpose.looping; what = what }) at
              (inner-breaks (record { purpose = Purpose.looping; what = what }) (named-mentions Purpose.looping one.is.name what (position me ∷ nodes) found loops))
              (subst (λ (around : List Construct). Has (TakesAt Purpose.looping what at) around) (sym open-first) (inl (record { taken = refl; there = takes.there })))))
          | inr never ↦ inr (record {
            default_none = none-on parts.0;
            name = one.is.name;
            uses = subst (Has (IsNamed (Purpose.using spot) one.is.name)) (sym inside) (one-has (IsNamed (Purpose.using spot) one.is.name) nodes one.one one.contains one.is.is);
            variable = subst (λ (sort : Option Sort). is_listable sort ≡ true) (sym (meaning-found visible one.is.name ∙ ap sort_found found)) (thing-listable what.thing variable.0);
            not_listed = λ listed. true≢false (sym parts.2 ∙ listed-off one.is.name what found listed);
            no_loop = λ loops. never (subst (Has (IsNamed Purpose.looping one.is.name)) with-inside loops);
          })
        ]

    outer-entry : (spot : Spot) (slot : ℕ) (at : Spot) → Outcome first some nodes spot slot at → Outcome here whole (position me ∷ nodes) spot slot at
    outer-entry spot slot at (inl it) =
        elim (let taken : Has (TakesAt (Purpose.using spot) it.what at) (now ∷ around_here here) = subst (λ (around : List Construct). Has (TakesAt (Purpose.using spot) it.what at) around) open-first it.taken in taken) [
          | inl this ↦ elim (own-tells spot it.what at this it.mentioned_there) [
            | inl loop ↦ inr (inl (subst (λ (slot : ℕ). BreaksIn entries here whole (loop_entry slot at)) it.slot_is loop))
            | inr broken ↦ inr (inr (inl broken))
          ]
          | inr others ↦ inl (record {
            what = it.what;
            slot_is = it.slot_is;
            mentioned_there = put-enclosed mentions mentions-calm (used_as spot it.what) here (enters me which critical) Leave (inside_here me which critical) some it.mentioned_there;
            taken = others;
          })
        ]
    outer-entry spot slot at (inr (inl loop)) = inr (inl (put-enclosed entries entries-calm (loop_entry slot at) here (enters me which critical) Leave (inside_here me which critical) some loop))
    outer-entry spot slot at (inr (inr broken)) = inr (inr (inr (subst (λ (names : Declarations). HasBroken names.visible spot nodes) (names-here me which critical here) broken)))

    -- and where it is broken it leaves out a use
    own-breaks : (spot : Spot) → BrokenAt (scope_of visible) spot (position me) → OwnEntry here whole spot
    own-breaks spot it =
        let found = listable-found (find visible it.name) (subst (λ (sort : Option Sort). is_listable sort ≡ true) (meaning-found visible it.name) it.variable) in
        let slot : HasSlot (find visible it.name) found.what.slot = subst (λ (some : Option Declared). HasSlot some found.what.slot) (sym found.is) refl in
        let below : found.what.slot < length here.names.all = found-below (length here.names.all) visible it.name found.what.slot ready.names.falls slot in
        let outside : is_inside now found.what.slot ≡ false = lt-leb now.head.first found.what.slot (subst (λ (first : ℕ). found.what.slot < first) (sym now-first) below) in
        let left_out : leaves_out now found.what.slot ≡ true =
        three-all now.clauses.default_none (not (is_inside now found.what.slot)) (is_none (mention now.mentions found.what.slot)) (none-off it.default_none) (false-so (is_inside now found.what.slot) outside)
        (so-or-false (is_none (mention now.mentions found.what.slot)) (λ listed. it.not_listed (listed-on it.name found.what found.is listed))) in
        let taken : takes (Purpose.using spot) now found.what ≡ true = rw (found.variable, left_out) refl in
        let uses = named-mentions (Purpose.using spot) it.name found.what nodes found.is (subst (Has (IsNamed (Purpose.using spot) it.name)) inside it.uses) in
        let entry = lists.around first begun (used_as spot found.what) now.head.spot (inner-breaks (used_as spot found.what) (inr uses))
        (subst (λ (around : List Construct). Has (TakesAt (Purpose.using spot) found.what now.head.spot) around) (sym open-first) (inl (record { taken = taken; there = refl }))) in
        let placed : placed_at now.head.spot (enters me which critical) ≡ 1 = subst (λ (place : Spot). placed_at place (enters me which critical) ≡ 1) (sym begun-first.at) (at_itself (spot_of me)) in
        record {
          slot = found.what.slot;
          at = now.head.spot;
          entry = put-enclosed entries entries-calm (use_entry spot found.what.slot now.head.spot) here (enters me which critical) Leave (inside_here me which critical) some entry;
          placed = omega (arith, placed, sum_by-cons (placed_at now.head.spot) (enters me which critical) (inside_here me which critical ++ (some ++ Leave ∷ [])));
          none = λ breaks.
              let from = origin first some (loop_entry found.what.slot now.head.spot)
              (enclosed entries entries-calm (loop_entry found.what.slot now.head.spot) here (enters me which critical) Leave (inside_here me which critical) some refl informing refl breaks) in
              never it found from.what from.slot below from.mentioned_there;
        }
      where
        never : (it : BrokenAt (scope_of visible) spot (position me)) → (found : IsFound (find visible it.name)) → (what : Declared) → what.slot ≡ found.what.slot → found.what.slot < length here.names.all
            → BreaksIn mentions first some (record { purpose = Purpose.looping; what = what }) → ⊥
        never it found what same below breaks =
            let has = inner-tells (record { purpose = Purpose.looping; what = what }) (omega (arith, same, below)) breaks in
            it.no_loop (subst (Has (IsNamed Purpose.looping it.name)) (sym with-inside)
            (has-weaker (Mentions visible (record { purpose = Purpose.looping; what = what })) (IsNamed Purpose.looping it.name)
            (λ at one.
            let slot : HasSlot (find visible it.name) found.what.slot = subst (λ (some : Option Declared). HasSlot some found.what.slot) (sym found.is) refl in
            let other : HasSlot (find visible one.name) found.what.slot = subst (λ (some : Option Declared). HasSlot some found.what.slot) (sym one.found) same in
            subst (λ (name : ℕ). IsNamed Purpose.looping name at) (one-name (length here.names.all) visible one.name it.name found.what.slot ready.names.falls other slot) one.is)
            (position me ∷ nodes) has))

    abbrev one_entry : Mentioned → Spot → Entry
    one_entry one at = record { purpose = one.purpose; slot = one.what.slot; construct = at }

    whole-around : (one : Mentioned) (at : Spot) → BreaksIn mentions here whole one → Has (TakesAt one.purpose one.what at) (around_here here) → BreaksIn entries here whole (one_entry one at)
    whole-around one at breaks taken =
        put-enclosed entries entries-calm (one_entry one at) here (enters me which critical) Leave (inside_here me which critical) some
        (lists.around first begun one at (enclosed mentions mentions-calm one here (enters me which critical) Leave (inside_here me which critical) some refl informing refl breaks)
        (subst (λ (around : List Construct). Has (TakesAt one.purpose one.what at) around) (sym open-first) (inr taken)))

    whole-tells : (spot : Spot) (slot : ℕ) (at : Spot) → BreaksIn entries here whole (use_entry spot slot at) → Outcome here whole (position me ∷ nodes) spot slot at
    whole-tells spot slot at breaks =
        outer-entry spot slot at
        (lists.tells first begun spot slot at (enclosed entries entries-calm (use_entry spot slot at) here (enters me which critical) Leave (inside_here me which critical) some refl informing refl breaks))

    whole-breaks : HavePlaces here whole → (spot : Spot) → HasBroken visible spot (position me ∷ nodes) → OwnEntry here whole spot
    whole-breaks own spot (inl this) = own-breaks spot this
    whole-breaks own spot (inr there) =
        own-enclosed here (enters me which critical) Leave (inside_here me which critical) some spot refl informing refl
        (lists.breaks first begun (places-enclosed here (enters me which critical) Leave (inside_here me which critical) some own) spot
        (subst (λ (names : Declarations). HasBroken names.visible spot nodes) (sym (names-here me which critical here)) there))

  pub listing-construct : Listing (IsReady false) (Enter (spot_of me) which critical ∷ inside_acts (children_of me) ++ (some ++ Leave ∷ [])) (position me ∷ nodes)
  listing-construct = record { around = whole-around; tells = whole-tells; breaks = whole-breaks }
