-- What a part of a tree does by the rule on names that are listed.
use Rattle.std.specs.Prelude.{ℕ, ◌≡◌, ◌⊎◌, ◌≤◌, Bool, true, false, List, [], ◌∷◌, ◌++◌, Option, Some, refl}
use Rattle.std.proofs.Common.{sym, ap, subst, ◌∙◌, inl, inr, arith, true≢false, append_assoc}
use Rattle.std.specs.List.{IsAmong}
use Rattle.std.proofs.lemmas.List.Sums.{sum_by-append, sum_by-cons}
use Rattle.c_tokens.specs.declared.token.Spot.{Spot}
use Rattle.c_syntax.specs.language.Tree.{Tree, children_of, kind_of}
use Rattle.c_check.specs.declared.acts.act.Act.{Act}
use Rattle.c_check.specs.declared.acts.act.Act.TheVariants.{Close, Loop, Open, Use}
use Rattle.c_check.specs.declared.scopes.declared.Declared.{Declared}
use Rattle.c_check.specs.Checked.{after_all}
use Rattle.c_check.specs.Constructs.{Construct}
use Rattle.c_check.specs.Declarations.{Declarations, find}
use Rattle.c_check.specs.Here.{Here, after}
use Rattle.check_laws.specs.Scopes.{Declaration, Position, behind, meaning, under}
use Rattle.check_laws.specs.ListedNames.{HasDefaultNone, Lists, Used, is_construct, is_listable, positions_inside, with_inside}
use Rattle.c_slots.specs.OwnPlaces.{placed_at}
use Rattle.check_laws.proofs.Broken.{BreaksIn, breaks-either, breaks-left, breaks-right}
use Rattle.check_laws.proofs.Does.{AreUses}
use Rattle.check_laws.proofs.Entries.{Entry, HavePlaces, IsEntry, OwnEntry, TakesAt, count_at, entries, entries-calm, entry-found, found-entry, own-left, own-right, places-left, places-right}
use Rattle.check_laws.proofs.Has.{Has, front-has, has-either, has-front, has-left, has-map, has-mapped, has-right, has-weaker}
use Rattle.check_laws.proofs.LoopRule.{use-is-silent}
use Rattle.check_laws.proofs.Means.{Means, means-silent, not-among, opened}
use Rattle.check_laws.proofs.Naming.{IsNamed, Mentioned, Purpose, case-mentioned, mentioned-case, mentions, mentions-calm}
use Rattle.check_laws.proofs.Standing.{IsReady, Met, Names, around_here, ready-after, scope-after}
use Rattle.check_laws.proofs.Unnamed.{AreUnnamed, between, enclosed, is_naming, put-between, put-enclosed}
use Rattle.check_laws.proofs.Visible.{scope_of}

-- a position whose construct has `default(none)` and doesn't list a name that is used there
pub record BrokenAt (scope : List Declaration) (spot : Spot) (position : Position) : Type 0 where
  pub default_none : HasDefaultNone position.node
  pub name : ℕ
  pub uses : Has (IsNamed (Purpose.using spot) name) (positions_inside (children_of position.node))
  pub variable : is_listable (meaning (position.scope ++ scope) name) ≡ true
  pub not_listed : Lists name position.node → ⊥
  pub no_loop : Has (IsNamed Purpose.looping name) (with_inside position.node) → ⊥

abbrev pub HasBroken : List Declared → Spot → List Position → Type 0
HasBroken visible spot nodes = Has (BrokenAt (scope_of visible) spot) nodes

module _ (old new : Declarations) (made : List Declaration) (names : Names old new made) (spot : Spot) where
  seen : (scope : List Declaration) → (scope ++ made) ++ scope_of old.visible ≡ scope ++ scope_of new.visible
  seen scope = append_assoc scope made (scope_of old.visible) ∙ ap (λ (one : List Declaration). scope ++ one) (sym (scope-after old new made names))

  pub broken-back : (nodes : List Position) → HasBroken new.visible spot nodes → HasBroken old.visible spot (behind made nodes)
  broken-back nodes has =
      has-map (under made) (BrokenAt (scope_of old.visible) spot) nodes
      (has-weaker (BrokenAt (scope_of new.visible) spot) (λ position. BrokenAt (scope_of old.visible) spot (under made position))
      (λ position it. record {
        default_none = it.default_none;
        name = it.name;
        uses = it.uses;
        variable = subst (λ (scope : List Declaration). is_listable (meaning scope it.name) ≡ true) (sym (seen position.scope)) it.variable;
        not_listed = it.not_listed;
        no_loop = it.no_loop;
      }) nodes has)

  pub broken-on : (nodes : List Position) → HasBroken old.visible spot (behind made nodes) → HasBroken new.visible spot nodes
  broken-on nodes has =
      has-weaker (λ position. BrokenAt (scope_of old.visible) spot (under made position)) (BrokenAt (scope_of new.visible) spot)
      (λ position it. record {
        default_none = it.default_none;
        name = it.name;
        uses = it.uses;
        variable = subst (λ (scope : List Declaration). is_listable (meaning scope it.name) ≡ true) (seen position.scope) it.variable;
        not_listed = it.not_listed;
        no_loop = it.no_loop;
      }) nodes (has-mapped (under made) (BrokenAt (scope_of old.visible) spot) nodes has)

abbrev pub use_entry : Spot → ℕ → Spot → Entry
use_entry spot slot at = record { purpose = Purpose.using spot; slot = slot; construct = at }

abbrev pub loop_entry : ℕ → Spot → Entry
loop_entry slot at = record { purpose = Purpose.looping; slot = slot; construct = at }

abbrev pub used_as : Spot → Declared → Mentioned
used_as spot what = record { purpose = Purpose.using spot; what = what }

-- a use that a construct around leaves out
pub record AroundEntry (here : Here) (acts : List Act) (spot : Spot) (slot : ℕ) (at : Spot) : Type 0 where
  pub what : Declared
  pub slot_is : what.slot ≡ slot
  pub mentioned_there : BreaksIn mentions here acts (used_as spot what)
  pub taken : Has (TakesAt (Purpose.using spot) what at) (around_here here)

-- a use that is left out: by a construct around, or the construct shares out such a loop, or a construct of these positions is broken
abbrev pub Outcome : Here → List Act → List Position → Spot → ℕ → Spot → Type 0
Outcome here acts nodes spot slot at = AroundEntry here acts spot slot at ⊎ (BreaksIn entries here acts (loop_entry slot at) ⊎ HasBroken here.names.visible spot nodes)

pub record Listing (R : Here → Type 0) (acts : List Act) (nodes : List Position) : Type 0 where
  pub around : (here : Here) → R here → (one : Mentioned) (at : Spot) → BreaksIn mentions here acts one → Has (TakesAt one.purpose one.what at) (around_here here)
      → BreaksIn entries here acts (record { purpose = one.purpose; slot = one.what.slot; construct = at })
  pub tells : (here : Here) → R here → (spot : Spot) (slot : ℕ) (at : Spot) → BreaksIn entries here acts (use_entry spot slot at) → Outcome here acts nodes spot slot at
  pub breaks : (here : Here) → R here → HavePlaces here acts → (spot : Spot) → HasBroken here.names.visible spot nodes → OwnEntry here acts spot

pub listing-nothing : (R : Here → Type 0) → Listing R [] []
listing-nothing R = record {
  around = λ here ready one at breaks taken. absurd breaks;
  tells = λ here ready spot slot at breaks. absurd breaks;
  breaks = λ here ready own spot has. absurd has;
}

-- one act
pub act-around : (here : Here) (act : Act) (one : Mentioned) (at : Spot) → IsAmong (mentions here act) one → Has (TakesAt one.purpose one.what at) (around_here here)
    → IsAmong (entries here act) (record { purpose = one.purpose; slot = one.what.slot; construct = at })
act-around here (Use name spot usage) one at among taken =
    let both = mentioned-case (Purpose.using spot) (find here.names.visible name) one among in
    subst (λ (purpose : Purpose). IsAmong (entries here (Use name spot usage)) (record { purpose = purpose; slot = one.what.slot; construct = at })) (sym both.0)
    (entry-found (Purpose.using spot) (find here.names.visible name) one.what at (around_here here) both.1
    (subst (λ (purpose : Purpose). Has (TakesAt purpose one.what at) (around_here here)) both.0 taken))
act-around here (Loop name) one at among taken =
    let both = mentioned-case Purpose.looping (find here.names.visible name) one among in
    subst (λ (purpose : Purpose). IsAmong (entries here (Loop name)) (record { purpose = purpose; slot = one.what.slot; construct = at })) (sym both.0)
    (entry-found Purpose.looping (find here.names.visible name) one.what at (around_here here) both.1
    (subst (λ (purpose : Purpose). Has (TakesAt purpose one.what at) (around_here here)) both.0 taken))
act-around here other one at among taken = absurd (not-among one among)

entry-around : (here : Here) (act : Act) (purpose : Purpose) (found : Option Declared) (spot : Spot) (slot : ℕ) (at : Spot) → ((what : Declared) → found ≡ Some what → IsAmong (mentions here act) (record { purpose = purpose; what = what }))
    → IsEntry purpose found (around_here here) (use_entry spot slot at) → AroundEntry here (act ∷ []) spot slot at
entry-around here act purpose found spot slot at there it = record {
  what = it.what;
  slot_is = it.slot;
  mentioned_there = inl (subst (λ (purpose : Purpose). IsAmong (mentions here act) (record { purpose = purpose; what = it.what })) (sym it.purpose_is) (there it.what it.found_is));
  taken = subst (λ (purpose : Purpose). Has (TakesAt purpose it.what at) (around_here here)) (sym it.purpose_is) it.taken;
}

pub act-tells : (here : Here) (act : Act) (spot : Spot) (slot : ℕ) (at : Spot) → IsAmong (entries here act) (use_entry spot slot at) → AroundEntry here (act ∷ []) spot slot at
act-tells here (Use name place usage) spot slot at among =
    entry-around here (Use name place usage) (Purpose.using place) (find here.names.visible name) spot slot at (λ what is. case-mentioned (Purpose.using place) (find here.names.visible name) what is)
    (found-entry (Purpose.using place) (find here.names.visible name) (around_here here) (use_entry spot slot at) among)
act-tells here (Loop name) spot slot at among =
    entry-around here (Loop name) Purpose.looping (find here.names.visible name) spot slot at (λ what is. case-mentioned Purpose.looping (find here.names.visible name) what is)
    (found-entry Purpose.looping (find here.names.visible name) (around_here here) (use_entry spot slot at) among)
act-tells here other spot slot at among = absurd (not-among (use_entry spot slot at) among)

pub listing-act : (R : Here → Type 0) (act : Act) → Listing R (act ∷ []) []
listing-act R act = record {
  around = λ here ready one at breaks taken. elim breaks [ inl now ↦ inl (act-around here act one at now taken) | inr later ↦ absurd later ];
  tells = λ here ready spot slot at breaks. elim breaks [ inl now ↦ inl (act-tells here act spot slot at now) | inr later ↦ absurd later ];
  breaks = λ here ready own spot has. absurd has;
}

-- one thing behind another: from where the first begins
pub outcome-left : (here : Here) (some more : List Act) (nodes others : List Position) (spot : Spot) (slot : ℕ) (at : Spot) → Outcome here some nodes spot slot at → Outcome here (some ++ more) (nodes ++ others) spot slot at
outcome-left here some more nodes others spot slot at (inl it) =
    inl (record { what = it.what; slot_is = it.slot_is; mentioned_there = breaks-left mentions (used_as spot it.what) here some more it.mentioned_there; taken = it.taken })
outcome-left here some more nodes others spot slot at (inr (inl loop)) = inr (inl (breaks-left entries (loop_entry slot at) here some more loop))
outcome-left here some more nodes others spot slot at (inr (inr broken)) = inr (inr (has-left (BrokenAt (scope_of here.names.visible) spot) nodes others broken))

pub outcome-right : (here : Here) (some more : List Act) (first : List Declaration) (nodes others : List Position) (spot : Spot) (slot : ℕ) (at : Spot) → Names here.names (after_all here some).names first
    → ((what : Declared) → Has (TakesAt (Purpose.using spot) what at) (around_here (after_all here some)) → Has (TakesAt (Purpose.using spot) what at) (around_here here))
    → Outcome (after_all here some) more others spot slot at → Outcome here (some ++ more) (nodes ++ behind first others) spot slot at
outcome-right here some more first nodes others spot slot at names taken (inl it) =
    inl (record { what = it.what; slot_is = it.slot_is; mentioned_there = breaks-right mentions (used_as spot it.what) here some more it.mentioned_there; taken = taken it.what it.taken })
outcome-right here some more first nodes others spot slot at names taken (inr (inl loop)) = inr (inl (breaks-right entries (loop_entry slot at) here some more loop))
outcome-right here some more first nodes others spot slot at names taken (inr (inr broken)) =
    inr (inr (has-right (BrokenAt (scope_of here.names.visible) spot) nodes (behind first others) (broken-back here.names (after_all here some).names first names spot others broken)))

pub met-counts : (here new : Here) (made : List Declaration) → Met here new made → (place : Spot) → count_at place (around_here new) ≤ count_at place (around_here here)
met-counts here new made met place = let same : count_at place (around_here new) ≡ count_at place (around_here here) = ap (count_at place) met.around in omega (arith, same)

pub listing-both : (file : Bool) (some more : List Act) (first second : List Declaration) (nodes others : List Position) → Means file some first nodes → Listing (IsReady file) some nodes → Listing (IsReady file) more others
    → Listing (IsReady file) (some ++ more) (nodes ++ behind first others)
listing-both file some more first second nodes others means one two = record {
  around = λ here ready it at breaks taken.
      let met = means.meets here ready in
      elim (breaks-either mentions it here some more breaks) [
        | inl left ↦ breaks-left entries (record { purpose = it.purpose; slot = it.what.slot; construct = at }) here some more (one.around here ready it at left taken)
        | inr right ↦ breaks-right entries (record { purpose = it.purpose; slot = it.what.slot; construct = at }) here some more
            (two.around (after_all here some) (ready-after file here (after_all here some) first ready met) it at right
            (subst (λ (around : List Construct). Has (TakesAt it.purpose it.what at) around) (sym met.around) taken))
      ];
  tells = λ here ready spot slot at breaks.
      let met = means.meets here ready in
      elim (breaks-either entries (use_entry spot slot at) here some more breaks) [
        | inl left ↦ outcome-left here some more nodes (behind first others) spot slot at (one.tells here ready spot slot at left)
        | inr right ↦ outcome-right here some more first nodes others spot slot at met.names
            (λ what taken. subst (λ (around : List Construct). Has (TakesAt (Purpose.using spot) what at) around) met.around taken)
            (two.tells (after_all here some) (ready-after file here (after_all here some) first ready met) spot slot at right)
      ];
  breaks = λ here ready own spot has.
      let met = means.meets here ready in
      elim (has-either (BrokenAt (scope_of here.names.visible) spot) nodes (behind first others) has) [
        | inl left ↦ own-left here some more spot own (met-counts here (after_all here some) first met) (one.breaks here ready (places-left here some more own) spot left)
        | inr right ↦ own-right here some more spot own
            (two.breaks (after_all here some) (ready-after file here (after_all here some) first ready met) (places-right here some more own) spot
            (broken-on here.names (after_all here some).names first met.names spot others right))
      ];
}

pub listing-front : (R : Here → Type 0) (acts : List Act) (one : Position) (nodes others : List Position) → Listing R acts (nodes ++ one ∷ others) → Listing R acts (one ∷ (nodes ++ others))
listing-front R acts one nodes others it = record {
  around = it.around;
  tells = λ here ready spot slot at breaks. elim (it.tells here ready spot slot at breaks) [
    | inl around ↦ inl around
    | inr (inl loop) ↦ inr (inl loop)
    | inr (inr broken) ↦ inr (inr (front-has one nodes others (BrokenAt (scope_of here.names.visible) spot) broken))
  ];
  breaks = λ here ready own spot has. it.breaks here ready own spot (has-front one nodes others (BrokenAt (scope_of here.names.visible) spot) has);
}

-- one more node, which is no construct
pub listing-more : (R : Here → Type 0) (acts : List Act) (nodes : List Position) (tree : Tree) (scope : List Declaration) → is_construct (kind_of tree) ≡ false → Listing R acts nodes
    → Listing R acts (record { node = tree; scope = scope } ∷ nodes)
listing-more R acts nodes tree scope is it = record {
  around = it.around;
  tells = λ here ready spot slot at breaks. elim (it.tells here ready spot slot at breaks) [
    | inl around ↦ inl around
    | inr (inl loop) ↦ inr (inl loop)
    | inr (inr broken) ↦ inr (inr (inr broken))
  ];
  breaks = λ here ready own spot has. it.breaks here ready own spot (elim has [ inl this ↦ absurd (true≢false (sym this.default_none.is ∙ is)) | inr others ↦ others ]);
}

pub listing-uses : (file : Bool) (acts : List Act) (some : List Used) → AreUses acts some → Listing (IsReady file) acts []
listing-uses file [] [] are = listing-nothing (IsReady file)
listing-uses file [] (one ∷ some) are = absurd are
listing-uses file (act ∷ acts) [] are = absurd are
listing-uses file (act ∷ acts) (one ∷ some) are =
    listing-both file (act ∷ []) acts [] [] [] [] (means-silent file act (use-is-silent act one are.0)) (listing-act (IsReady file) act) (listing-uses file acts some are.1)

-- between an act that begins something and one that ends it
pub places-between : (here : Here) (first last : Act) (acts : List Act) → HavePlaces here (first ∷ acts ++ last ∷ []) → HavePlaces (after here first) acts
unfolding after_all
places-between here first last acts own = places-left (after here first) acts (last ∷ []) (places-right here (first ∷ []) (acts ++ last ∷ []) own)

pub own-between : (here : Here) (first last : Act) (acts : List Act) (spot : Spot) → is_naming first ≡ false → is_naming last ≡ false → OwnEntry (after here first) acts spot → OwnEntry here (first ∷ acts ++ last ∷ []) spot
own-between here first last acts spot begins ends it = record {
  slot = it.slot;
  at = it.at;
  entry = put-between entries entries-calm (use_entry spot it.slot it.at) here first last acts it.entry;
  placed = omega (arith, it.placed, sum_by-cons (placed_at it.at) first (acts ++ last ∷ []), sum_by-append (placed_at it.at) acts (last ∷ []));
  none = λ breaks. it.none (between entries entries-calm (loop_entry it.slot it.at) here first last acts begins ends breaks);
}

pub places-enclosed : (here : Here) (first last : Act) (more acts : List Act) → HavePlaces here (first ∷ more ++ (acts ++ last ∷ [])) → HavePlaces (after_all (after here first) more) acts
unfolding after_all
places-enclosed here first last more acts own = places-left (after_all (after here first) more) acts (last ∷ []) (places-right here (first ∷ more) (acts ++ last ∷ []) own)

pub own-enclosed : (here : Here) (first last : Act) (more acts : List Act) (spot : Spot) → is_naming first ≡ false → AreUnnamed more → is_naming last ≡ false → OwnEntry (after_all (after here first) more) acts spot
    → OwnEntry here (first ∷ more ++ (acts ++ last ∷ [])) spot
own-enclosed here first last more acts spot begins says ends it = record {
  slot = it.slot;
  at = it.at;
  entry = put-enclosed entries entries-calm (use_entry spot it.slot it.at) here first last more acts it.entry;
  placed = omega (arith, it.placed, sum_by-cons (placed_at it.at) first (more ++ (acts ++ last ∷ [])), sum_by-append (placed_at it.at) more (acts ++ last ∷ []), sum_by-append (placed_at it.at) acts (last ∷ []));
  none = λ breaks. it.none (enclosed entries entries-calm (loop_entry it.slot it.at) here first last more acts begins says ends breaks);
}

pub listing-scoped : (file : Bool) (acts : List Act) (nodes : List Position) → Listing (IsReady file) acts nodes → Listing (IsReady file) (Open ∷ acts ++ Close ∷ []) nodes
unfolding after
listing-scoped file acts nodes it = record {
  around = λ here ready one at breaks taken.
      put-between entries entries-calm (record { purpose = one.purpose; slot = one.what.slot; construct = at }) here Open Close acts
      (it.around (after here Open) (opened file here ready) one at (between mentions mentions-calm one here Open Close acts refl refl breaks) taken);
  tells = λ here ready spot slot at breaks.
      elim (it.tells (after here Open) (opened file here ready) spot slot at (between entries entries-calm (use_entry spot slot at) here Open Close acts refl refl breaks)) [
        | inl around ↦ inl (record {
          what = around.what;
          slot_is = around.slot_is;
          mentioned_there = put-between mentions mentions-calm (used_as spot around.what) here Open Close acts around.mentioned_there;
          taken = around.taken;
        })
        | inr (inl loop) ↦ inr (inl (put-between entries entries-calm (loop_entry slot at) here Open Close acts loop))
        | inr (inr broken) ↦ inr (inr broken)
      ];
  breaks = λ here ready own spot has.
      own-between here Open Close acts spot refl refl (it.breaks (after here Open) (opened file here ready) (places-between here Open Close acts own) spot has);
}
