-- Loops that a construct shares out, and functions, by the rule on names that are listed.
use Rattle.std.specs.Prelude.{ℕ, ◌≡◌, Bool, true, false, List, [], ◌∷◌, ◌++◌, Option, Some, None, refl}
use Rattle.std.proofs.Common.{sym, ap, subst, ◌∙◌, inl, inr}
use Rattle.c_tokens.specs.declared.token.Spot.{Spot}
use Rattle.c_syntax.specs.declared.node.Directive.{Directive}
use Rattle.c_syntax.specs.declared.node.NodeKind.TheVariants as node
use Rattle.c_syntax.specs.declared.node.Returns.{Returns}
use Rattle.c_syntax.specs.language.Tree.{Tree, children_of, kind_of}
use Rattle.c_check.specs.declared.acts.act.Act.{Act}
use Rattle.c_check.specs.declared.acts.act.Act.TheVariants.{Assign, Begin, Close, Declare, End, Loop, Open}
use Rattle.c_check.specs.declared.acts.role.Role.TheVariants as role
use Rattle.c_check.specs.declared.scopes.declared.Declared.{Declared}
use Rattle.c_check.specs.Acts.{acts}
use Rattle.c_check.specs.Checked.{after_all}
use Rattle.c_check.specs.Constructs.{Construct}
use Rattle.c_check.specs.Declarations.{find}
use Rattle.c_check.specs.Here.{Here, after}
use Rattle.c_check.specs.Loops.{has_form, loop_name}
use Rattle.c_check.specs.Statements.{shares_loop, statement_of}
use Rattle.check_laws.specs.Scopes.{Declaration, Position, Sort, behind, declared_as, positions}
use Rattle.check_laws.specs.ListedNames.{is_construct, used}
use Rattle.check_laws.proofs.Broken.{BreaksIn, breaks-either, breaks-left, breaks-right}
use Rattle.check_laws.proofs.Constructing.{open-begun}
use Rattle.check_laws.proofs.Does.{Does}
use Rattle.check_laws.proofs.Entries.{Entry, HavePlaces, OwnEntry, TakesAt, entries, entries-calm, own-left, own-right, places-left, places-right, takes}
use Rattle.check_laws.proofs.Has.{Has, has-either}
use Rattle.check_laws.proofs.ListConstructs.{Begun, listing-construct}
use Rattle.check_laws.proofs.ListRule.{BrokenAt, HasBroken, Listing, Outcome, act-around, act-tells, broken-back, broken-on, listing-act, listing-both, listing-front, listing-more, listing-nothing, listing-scoped, listing-uses, loop_entry, met-counts, outcome-left, outcome-right, own-between, places-between, use_entry, used_as}
use Rattle.check_laws.proofs.LoopRule.{construct-none, does-mean}
use Rattle.check_laws.proofs.Means.{begins as function-ready, begun, named, named-met}
use Rattle.check_laws.proofs.Naming.{Mentioned, Purpose, mentions, mentions-calm}
use Rattle.check_laws.proofs.NameRule.{constructs-naming, does-name, here-ready, inner-loop-naming, loop, me-shares, met-head, misses-naming, ready-body, ready-open, shared}
use Rattle.check_laws.proofs.Parts.{LoopParts, odd_acts, part_declared, position}
use Rattle.check_laws.proofs.SharedLoops.{body-open}
use Rattle.check_laws.proofs.Sharing.{looping, odd-after}
use Rattle.check_laws.proofs.Standing.{IsReady, Met, around_here}
use Rattle.check_laws.proofs.Unnamed.{behind-odd, between, put-behind-odd, put-between}
use Rattle.check_laws.proofs.Visible.{scope_of}

-- where a construct has begun
pub begun-listing : (me : Tree) (some : List Act) (nodes : List Position) → Listing (IsReady false) some nodes → Listing (Begun me) some nodes
begun-listing me some nodes it = record {
  around = λ here is. it.around here (here-ready me here is.construct is.begun);
  tells = λ here is. it.tells here (here-ready me here is.construct is.begun);
  breaks = λ here is. it.breaks here (here-ready me here is.construct is.begun);
}

pub odd-listing : (R : Here → Type 0) (form : Bool) (some : List Act) (nodes : List Position) → Listing R some nodes → Listing R (odd_acts form ++ some) nodes
odd-listing R form some nodes it = record {
  around = λ here is one at breaks taken.
      put-behind-odd entries entries-calm (record { purpose = one.purpose; slot = one.what.slot; construct = at }) here form some
      (it.around here is one at (behind-odd mentions mentions-calm one here form some breaks) taken);
  tells = λ here is spot slot at breaks.
      elim (it.tells here is spot slot at (behind-odd entries entries-calm (use_entry spot slot at) here form some breaks)) [
        | inl around ↦ inl (record {
          what = around.what;
          slot_is = around.slot_is;
          mentioned_there = put-behind-odd mentions mentions-calm (used_as spot around.what) here form some around.mentioned_there;
          taken = around.taken;
        })
        | inr (inl loop) ↦ inr (inl (put-behind-odd entries entries-calm (loop_entry slot at) here form some loop))
        | inr (inr broken) ↦ inr (inr broken)
      ];
  breaks = λ here is own spot has.
      own-right here (odd_acts form) some spot own
      (subst (λ (here : Here). OwnEntry here some spot) (sym (odd-after here form))
      (it.breaks here is (subst (λ (here : Here). HavePlaces here some) (odd-after here form) (places-right here (odd_acts form) some own)) spot has));
}

-- a construct takes the same behind the beginning of its loop
takes-looping : (purpose : Purpose) (what : Declared) (construct : Construct) (found : Option Declared) → takes purpose (looping construct found) what ≡ takes purpose construct what
takes-looping (Purpose.using spot) what construct None = refl
takes-looping (Purpose.using spot) what construct (Some it) = refl
takes-looping Purpose.looping what construct found = refl

looping-there : (construct : Construct) (found : Option Declared) → (looping construct found).head.spot ≡ construct.head.spot
looping-there construct None = refl
looping-there construct (Some it) = refl

module _ (me : Tree) (which : Directive) (kind : kind_of me ≡ node.Construct which) (shares : shares_loop which ≡ true) (name : ℕ) (is_named : loop_name (statement_of (children_of me)) ≡ Some name)
    (it : LoopParts (statement_of (children_of me))) (head : Does false it.head_acts (part_declared it.begins) it.head_nodes) (inner : Does false (acts role.Plain it.body) [] (positions it.body))
    (head_list : Listing (IsReady false) it.head_acts it.head_nodes) (body_list : Listing (IsReady false) (acts role.Plain it.body) (positions it.body)) where
  abbrev body : List Act
  body = acts role.Plain it.body

  abbrev tail : List Act
  tail = Loop name ∷ body

  abbrev within : List Act
  within = it.head_acts ++ tail

  abbrev inner_nodes : List Position
  inner_nodes = it.head_nodes ++ behind (part_declared it.begins) (positions it.body)

  module _ (here : Here) (is : Begun me here) where
    abbrev opened_here : Here
    opened_here = after here Open

    abbrev headed : Here
    headed = after_all opened_here it.head_acts

    abbrev looped : Here
    looped = after headed (Loop name)

    ready-first : IsReady false opened_here
    ready-first = ready-open me which kind shares name is_named it head inner here is.construct is.begun

    ready-looped : IsReady false looped
    ready-looped = ready-body me which kind shares name is_named it head inner here is.construct is.begun

    met : Met opened_here headed (part_declared it.begins)
    met = met-head me which kind shares name is_named it head inner here is.construct is.begun

    open-here : around_here here ≡ is.construct ∷ here.constructs.around
    open-here = open-begun here.constructs is.construct is.begun.newest

    open-looped : around_here looped ≡ looping is.construct (find headed.names.visible name) ∷ here.constructs.around
    open-looped = body-open me (me-shares me which kind shares name is_named it head inner) (construct-none me which kind) (shared me which kind shares name is_named it head inner) name is_named here is.construct is.begun

    open-headed : around_here headed ≡ around_here here
    unfolding after
    open-headed = met.around

    into-looped : (purpose : Purpose) (what : Declared) (at : Spot) → Has (TakesAt purpose what at) (around_here here) → Has (TakesAt purpose what at) (around_here looped)
    into-looped purpose what at has =
        subst (λ (around : List Construct). Has (TakesAt purpose what at) around) (sym open-looped)
        (elim (let taken : Has (TakesAt purpose what at) (is.construct ∷ here.constructs.around) = subst (λ (around : List Construct). Has (TakesAt purpose what at) around) open-here has in taken) [
          | inl this ↦ inl (record {
            taken = takes-looping purpose what is.construct (find headed.names.visible name) ∙ this.taken;
            there = looping-there is.construct (find headed.names.visible name) ∙ this.there;
          })
          | inr others ↦ inr others
        ])

    out-looped : (purpose : Purpose) (what : Declared) (at : Spot) → Has (TakesAt purpose what at) (around_here looped) → Has (TakesAt purpose what at) (around_here here)
    out-looped purpose what at has =
        subst (λ (around : List Construct). Has (TakesAt purpose what at) around) (sym open-here)
        (elim (let taken : Has (TakesAt purpose what at) (looping is.construct (find headed.names.visible name) ∷ here.constructs.around) =
        subst (λ (around : List Construct). Has (TakesAt purpose what at) around) open-looped has in taken) [
          | inl this ↦ inl (record {
            taken = sym (takes-looping purpose what is.construct (find headed.names.visible name)) ∙ this.taken;
            there = sym (looping-there is.construct (find headed.names.visible name)) ∙ this.there;
          })
          | inr others ↦ inr others
        ])

    abbrev one_entry : Mentioned → Spot → Entry
    one_entry one at = record { purpose = one.purpose; slot = one.what.slot; construct = at }

    tail-around : (one : Mentioned) (at : Spot) → BreaksIn mentions headed tail one → Has (TakesAt one.purpose one.what at) (around_here here) → BreaksIn entries headed tail (one_entry one at)
    tail-around one at (inl now) taken = inl (act-around headed (Loop name) one at now (subst (λ (around : List Construct). Has (TakesAt one.purpose one.what at) around) (sym open-headed) taken))
    tail-around one at (inr later) taken = inr (body_list.around looped ready-looped one at later (into-looped one.purpose one.what at taken))

    within-around : (one : Mentioned) (at : Spot) → BreaksIn mentions opened_here within one → Has (TakesAt one.purpose one.what at) (around_here here) → BreaksIn entries opened_here within (one_entry one at)
    unfolding after
    within-around one at breaks taken =
        elim (breaks-either mentions one opened_here it.head_acts tail breaks) [
          | inl left ↦ breaks-left entries (one_entry one at) opened_here it.head_acts tail (head_list.around opened_here ready-first one at left taken)
          | inr right ↦ breaks-right entries (one_entry one at) opened_here it.head_acts tail (tail-around one at right taken)
        ]

    later-tells : (spot : Spot) (slot : ℕ) (at : Spot) → Outcome looped body (positions it.body) spot slot at → Outcome headed tail (positions it.body) spot slot at
    unfolding after
    later-tells spot slot at (inl around) = inl (record {
      what = around.what;
      slot_is = around.slot_is;
      mentioned_there = inr around.mentioned_there;
      taken = subst (λ (some : List Construct). Has (TakesAt (Purpose.using spot) around.what at) some) (sym open-headed) (out-looped (Purpose.using spot) around.what at around.taken);
    })
    later-tells spot slot at (inr (inl loop)) = inr (inl (inr loop))
    later-tells spot slot at (inr (inr broken)) = inr (inr broken)

    tail-tells : (spot : Spot) (slot : ℕ) (at : Spot) → BreaksIn entries headed tail (use_entry spot slot at) → Outcome headed tail (positions it.body) spot slot at
    tail-tells spot slot at (inl now) = outcome-left headed (Loop name ∷ []) body [] (positions it.body) spot slot at (inl (act-tells headed (Loop name) spot slot at now))
    tail-tells spot slot at (inr later) = later-tells spot slot at (body_list.tells looped ready-looped spot slot at later)

    within-tells : (spot : Spot) (slot : ℕ) (at : Spot) → BreaksIn entries opened_here within (use_entry spot slot at) → Outcome opened_here within inner_nodes spot slot at
    unfolding after
    within-tells spot slot at breaks =
        elim (breaks-either entries (use_entry spot slot at) opened_here it.head_acts tail breaks) [
          | inl left ↦ outcome-left opened_here it.head_acts tail it.head_nodes (behind (part_declared it.begins) (positions it.body)) spot slot at (head_list.tells opened_here ready-first spot slot at left)
          | inr right ↦ outcome-right opened_here it.head_acts tail (part_declared it.begins) it.head_nodes (positions it.body) spot slot at met.names
              (λ what taken. subst (λ (around : List Construct). Has (TakesAt (Purpose.using spot) what at) around) open-headed taken) (tail-tells spot slot at right)
        ]

    tail-breaks : HavePlaces headed tail → (spot : Spot) → HasBroken headed.names.visible spot (positions it.body) → OwnEntry headed tail spot
    unfolding after_all after
    tail-breaks own spot broken = own-right headed (Loop name ∷ []) body spot own (body_list.breaks looped ready-looped (places-right headed (Loop name ∷ []) body own) spot broken)

    within-breaks : HavePlaces opened_here within → (spot : Spot) → HasBroken here.names.visible spot inner_nodes → OwnEntry opened_here within spot
    unfolding after
    within-breaks own spot has =
        elim (has-either (BrokenAt (scope_of here.names.visible) spot) it.head_nodes (behind (part_declared it.begins) (positions it.body)) has) [
          | inl left ↦ own-left opened_here it.head_acts tail spot own (met-counts opened_here headed (part_declared it.begins) met) (head_list.breaks opened_here ready-first (places-left opened_here it.head_acts tail own) spot left)
          | inr right ↦ own-right opened_here it.head_acts tail spot own
              (tail-breaks (places-right opened_here it.head_acts tail own) spot (broken-on opened_here.names headed.names (part_declared it.begins) met.names spot (positions it.body) right))
        ]

  scoped-listing : Listing (Begun me) (Open ∷ within ++ Close ∷ []) inner_nodes
  unfolding after
  scoped-listing = record {
    around = λ here is one at breaks taken.
        put-between entries entries-calm (record { purpose = one.purpose; slot = one.what.slot; construct = at }) here Open Close within
        (within-around here is one at (between mentions mentions-calm one here Open Close within refl refl breaks) taken);
    tells = λ here is spot slot at breaks.
        elim (within-tells here is spot slot at (between entries entries-calm (use_entry spot slot at) here Open Close within refl refl breaks)) [
          | inl around ↦ inl (record {
            what = around.what;
            slot_is = around.slot_is;
            mentioned_there = put-between mentions mentions-calm (used_as spot around.what) here Open Close within around.mentioned_there;
            taken = around.taken;
          })
          | inr (inl loop) ↦ inr (inl (put-between entries entries-calm (loop_entry slot at) here Open Close within loop))
          | inr (inr broken) ↦ inr (inr broken)
        ];
    breaks = λ here is own spot has. own-between here Open Close within spot refl refl (within-breaks here is (places-between here Open Close within own) spot has);
  }

  pub loop-listing : Listing (Begun me) (odd_acts (has_form (statement_of (children_of me))) ++ (Open ∷ within ++ Close ∷ [])) (position (statement_of (children_of me)) ∷ inner_nodes)
  loop-listing =
      odd-listing (Begun me) (has_form (statement_of (children_of me))) (Open ∷ within ++ Close ∷ []) (position (statement_of (children_of me)) ∷ inner_nodes)
      (listing-more (Begun me) (Open ∷ within ++ Close ∷ []) inner_nodes (statement_of (children_of me)) [] (ap is_construct it.kind) scoped-listing)

-- a function, which stands in no construct
module _ (name : ℕ) (spot : Spot) (returns : Returns) (parameters : ℕ) where
  abbrev begins_here : Act
  begins_here = Begin name spot returns parameters

  abbrev made_here : List Declaration
  made_here = declared_as Sort.function name

  listing-function : (some : List Act) (nodes : List Position) → Listing (IsReady false) some nodes → Listing (IsReady true) (begins_here ∷ some ++ End ∷ []) (behind made_here nodes)
  unfolding after
  listing-function some nodes it = record {
    around = λ here ready one at breaks taken. absurd (subst (λ (around : List Construct). Has (TakesAt one.purpose one.what at) around) (ready.outside refl) taken);
    tells = λ here ready place slot at breaks.
        elim (it.tells (begun name spot returns parameters here) (function-ready name spot returns parameters here ready) place slot at (between entries entries-calm (use_entry place slot at) here begins_here End some refl refl breaks)) [
          | inl around ↦ absurd around.taken
          | inr (inl loop) ↦ inr (inl (put-between entries entries-calm (loop_entry slot at) here begins_here End some loop))
          | inr (inr broken) ↦ inr (inr (broken-back here.names (named name spot returns parameters here).names made_here (named-met name spot returns parameters here ready).names place nodes broken))
        ];
    breaks = λ here ready own place has.
        own-between here begins_here End some place refl refl
        (it.breaks (begun name spot returns parameters here) (function-ready name spot returns parameters here ready) (places-between here begins_here End some own) place
        (broken-on here.names (named name spot returns parameters here).names made_here (named-met name spot returns parameters here ready).names place nodes has));
  }

pub does-list : {file : Bool} {some : List Act} {made : List Declaration} {nodes : List Position} → Does file some made nodes → Listing (IsReady file) some nodes
does-list (Does.nothing file) = listing-nothing (IsReady file)
does-list (Does.both file some more first second nodes others one two) = listing-both file some more first second nodes others (does-mean one) (does-list one) (does-list two)
does-list (Does.front file some made one nodes others it) = listing-front (IsReady file) some one nodes others (does-list it)
does-list (Does.plainly file some made nodes tree scope plain it) = listing-more (IsReady file) some nodes tree scope plain.still.no_construct (does-list it)
does-list (Does.silent file act is) = listing-act (IsReady file) act
does-list (Does.uses file some tree still are) = listing-more (IsReady file) some [] tree [] still.no_construct (listing-uses file some (used tree) are)
does-list (Does.assigns file name tree no_construct assigns none) = listing-more (IsReady file) (Assign name ∷ []) [] tree [] no_construct (listing-act (IsReady file) (Assign name))
does-list (Does.declares file name spot what) = listing-act (IsReady file) (Declare name spot what)
does-list (Does.scoped file some made nodes it) = listing-scoped file some nodes (does-list it)
does-list (Does.function name spot returns parameters some made nodes it) = listing-function name spot returns parameters some nodes (does-list it)
does-list (Does.constructs me which critical some nodes kind shares inside it) =
    listing-construct me which critical kind some nodes inside (constructs-naming me which some nodes kind shares (does-name it)) (begun-listing me some nodes (does-list it))
does-list (Does.misses me which critical some nodes kind shares unnamed inside it) =
    listing-construct me which critical kind _ nodes inside (misses-naming me which some nodes kind unnamed (does-name it))
    (odd-listing (Begun me) (has_form (statement_of (children_of me))) some nodes (begun-listing me some nodes (does-list it)))
does-list (Does.shares me which critical name it kind shares is_named inside head inner) =
    listing-construct me which critical kind _ _ inside (inner-loop-naming me which kind shares name is_named it head inner (does-name head) (does-name inner))
    (loop-listing me which kind shares name is_named it head inner (does-list head) (does-list inner))
