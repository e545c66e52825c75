-- The statement of a `for` construct: a loop that it shares out, or something else.
use Rattle.std.specs.Prelude.{ℕ, nat_eq, ◌≡◌, ◌⊎◌, Bool, true, false, List, [], ◌∷◌, ◌++◌, Option, Some, None, option_map, refl}
use Rattle.std.proofs.Common.{sym, ap, subst, ◌∙◌, inl, inr, true≢false}
use Rattle.std.specs.List.{IsAmong}
use Rattle.std.proofs.lemmas.Bool.{cases_Bool, eqb-false, eqb-true}
use Rattle.c_tokens.specs.declared.token.Spot.{Spot}
use Rattle.c_syntax.specs.language.Tree.{Tree, children_of, kind_of, spot_of}
use Rattle.c_check.specs.declared.acts.act.Act.{Act}
use Rattle.c_check.specs.declared.acts.act.Thing.{Thing}
use Rattle.c_check.specs.declared.acts.act.Thing.TheVariants as thing
use Rattle.c_check.specs.declared.scopes.declared.Declared.{Declared}
use Rattle.c_check.specs.Checked.{after_all}
use Rattle.c_check.specs.Constructs.{Construct, Constructs}
use Rattle.c_check.specs.Here.{Here, after, looped}
use Rattle.c_check.specs.Loops.{has_form, has_form_with, loop_name}
use Rattle.c_check.specs.Rules.{bad_loops, is_int, is_int_thing, newest_spot}
use Rattle.c_check.specs.Statements.{statement_of}
use Rattle.check_laws.specs.Scopes.{Declaration, Position, Sort, declared, meaning}
use Rattle.check_laws.specs.LoopForm.{AssignsOutside, IsLoopOfForm, assigned_variable, is_loop_construct}
use Rattle.check_laws.proofs.Broken.{BreaksIn, after-both, breaks-either, breaks-left, breaks-right}
use Rattle.check_laws.proofs.Constructing.{Inner, InnerMet, InnerResult, IsBegun, begun-met, begun-ready, with-newest, without-newest}
use Rattle.check_laws.proofs.Forms.{HasHead, head-form, part_or}
use Rattle.check_laws.proofs.Has.{Has, among-case, among-first, has-weaker}
use Rattle.check_laws.proofs.Means.{Means, not-among}
use Rattle.check_laws.proofs.Standing.{Assigns, IsOddAt, Spoiled, Spoils}
use Rattle.check_laws.proofs.Parts.{odd_acts, part_declared, position}
use Rattle.check_laws.proofs.Visible.{scope_of, sort_found, sort_of}

pub odd-after : (here : Here) (form : Bool) → after_all here (odd_acts form) ≡ here
unfolding after_all after
odd-after here true = refl
odd-after here false = refl

pub newest-spot : (newest : Option Construct) (construct : Construct) (spot at : Spot) → newest ≡ Some construct → construct.head.spot ≡ spot → IsAmong (newest_spot newest) at → at ≡ spot
newest-spot newest construct spot at is same among =
    elim (among-case construct.head.spot [] at (subst (λ (newest : Option Construct). IsAmong (newest_spot newest) at) is among)) [
      | inl here ↦ here ∙ same
      | inr none ↦ absurd (not-among at none)
    ]

pub spot-newest : (newest : Option Construct) (construct : Construct) (spot at : Spot) → newest ≡ Some construct → construct.head.spot ≡ spot → spot ≡ at → IsAmong (newest_spot newest) at
spot-newest newest construct spot at is same there =
    subst (λ (newest : Option Construct). IsAmong (newest_spot newest) at) (sym is)
    (subst (λ (one : Spot). IsAmong (construct.head.spot ∷ []) one) (same ∙ there) (among-first construct.head.spot []))

-- an int, in the words of the rule
thing-int : (what : Thing) → Some (sort_of what) ≡ Some Sort.variable → is_int_thing what ≡ true
thing-int thing.Int is = refl
thing-int (thing.Array size) is = absurd (cc)
thing-int thing.Lock is = absurd (cc)
thing-int (thing.Function returns parameters) is = absurd (cc)

int-thing : (what : Thing) → is_int_thing what ≡ true → Some (sort_of what) ≡ Some Sort.variable
int-thing thing.Int is = refl
int-thing other is = absurd (let no : false ≡ true = is in cc)

pub int-found : (found : Option Declared) → sort_found found ≡ Some Sort.variable → is_int found ≡ true
int-found None is = absurd (cc)
int-found (Some it) is = thing-int it.thing is

pub found-int : (found : Option Declared) → is_int found ≡ true → sort_found found ≡ Some Sort.variable
found-int None is = absurd (let no : false ≡ true = is in cc)
found-int (Some it) is = int-thing it.thing is

-- a construct `me` whose statement is this, where it stands
module _ (me : Tree) (shares : is_loop_construct (kind_of me) ≡ true) (assigns_none : assigned_variable me ≡ None) where
  abbrev loop : Tree
  loop = statement_of (children_of me)

  pub odd-here : (here : Here) (at : Spot) → spot_of me ≡ at → (IsLoopOfForm (scope_of here.names.visible) loop → ⊥) → IsOddAt (scope_of here.names.visible) at (position me)
  odd-here here at is odd = record { shares = shares; at = is; odd = odd }

  abbrev pub form-head : (scope : List Declaration) → IsLoopOfForm scope loop → HasHead loop
  form-head scope form = record {
    variable = form.variable;
    way = form.way;
    first = form.first;
    second = form.second;
    third = form.third;
    body = form.body;
    parts_are = form.parts_are;
    begins = form.begins;
    compares = form.compares;
    steps = form.steps;
  }

  not-form : (scope : List Declaration) → has_form loop ≡ false → IsLoopOfForm scope loop → ⊥
  not-form scope none form = true≢false (sym (head-form loop (form-head scope form)) ∙ none)

  -- the odd act, and only for a loop that isn't of the form
  pub odd-tells : (here : Here) (construct : Construct) → IsBegun (spot_of me) here construct → (at : Spot) (form : Bool) → has_form loop ≡ form → BreaksIn bad_loops here (odd_acts form) at → IsOddAt (scope_of here.names.visible) at (position me)
  odd-tells here construct begun at true is breaks = absurd breaks
  odd-tells here construct begun at false is breaks =
      elim breaks [
        | inl broken ↦ odd-here here at (sym (newest-spot here.constructs.newest construct (spot_of me) at begun.newest begun.at broken)) (not-form (scope_of here.names.visible) is)
        | inr later ↦ absurd later
      ]

  pub odd-breaks : (here : Here) (construct : Construct) → IsBegun (spot_of me) here construct → (at : Spot) (form : Bool) → form ≡ false → spot_of me ≡ at → BreaksIn bad_loops here (odd_acts form) at
  odd-breaks here construct begun at true is same = absurd (true≢false is)
  odd-breaks here construct begun at false is same = inl (spot-newest here.constructs.newest construct (spot_of me) at begun.newest begun.at same)

  -- the construct itself assigns nothing
  pub spoiled-behind : (visible : List Declared) (nodes : List Position) (at : Spot) (around : List Construct) → Spoiled visible (position me ∷ nodes) at around → Spoiled visible nodes at around
  spoiled-behind visible nodes at around spoiled =
      has-weaker (Spoils visible (position me ∷ nodes) at) (Spoils visible nodes at)
      (λ construct it. record {
        at = it.at;
        slot = it.slot;
        loop = it.loop;
        assigns = elim it.assigns [
          | inl this ↦ absurd (let no : Some this.name ≡ None = sym this.assigns ∙ assigns_none in cc)
          | inr others ↦ others
        ];
      }) around spoiled

  pub spoiled-more : (visible : List Declared) (nodes others : List Position) (at : Spot) (around : List Construct) → ((P : Position → Type 0) → Has P nodes → Has P others) → Spoiled visible nodes at around → Spoiled visible others at around
  spoiled-more visible nodes others at around each spoiled =
      has-weaker (Spoils visible nodes at) (Spoils visible others at)
      (λ construct it. record { at = it.at; slot = it.slot; loop = it.loop; assigns = each (Assigns visible it.slot) it.assigns }) around spoiled

  -- a statement that is no loop with a variable
  module _ (acts : List Act) (nodes : List Position) (it : Means false acts [] nodes) (unnamed : loop_name loop ≡ None) where
    no-form : has_form loop ≡ false
    no-form = ap (λ (name : Option ℕ). has_form_with name loop) unnamed

    pub inner-other : Inner (spot_of me) (odd_acts (has_form loop) ++ acts) (position me ∷ nodes)
    inner-other = record {
      meets = λ here construct begun.
          subst (λ (new : Here). InnerMet here new) (sym (after-both here (odd_acts (has_form loop)) acts ∙ ap (λ (here : Here). after_all here acts) (odd-after here (has_form loop))))
          (begun-met (spot_of me) acts nodes it here construct begun);
      tells = λ here construct begun at breaks. elim (breaks-either bad_loops at here (odd_acts (has_form loop)) acts breaks) [
        | inl odd ↦ inl (inl (odd-tells here construct begun at (has_form loop) refl odd))
        | inr later ↦ elim (without-newest (spot_of me) acts nodes it here construct begun nodes at
            (it.tells here (begun-ready (spot_of me) acts nodes it here construct begun) at (subst (λ (here : Here). BreaksIn bad_loops here acts at) (odd-after here (has_form loop)) later))) [
              | inl own ↦ inl (inr own)
              | inr spoiled ↦ inr (spoiled-more here.names.visible nodes (position me ∷ nodes) at here.constructs.around (λ P has. inr has) spoiled)
            ]
      ];
      breaks = λ here construct begun at result. elim result [
        | inl odd ↦ elim odd [
          | inl this ↦ breaks-left bad_loops at here (odd_acts (has_form loop)) acts (odd-breaks here construct begun at (has_form loop) no-form this.at)
          | inr own ↦ later here construct begun at (inl own)
        ]
        | inr spoiled ↦ later here construct begun at (inr (spoiled-behind here.names.visible nodes at here.constructs.around spoiled))
      ];
    }
      where
        later : (here : Here) (construct : Construct) → IsBegun (spot_of me) here construct → (at : Spot) → InnerResult here nodes at → BreaksIn bad_loops here (odd_acts (has_form loop) ++ acts) at
        later here construct begun at result =
            breaks-right bad_loops at here (odd_acts (has_form loop)) acts
            (subst (λ (here : Here). BreaksIn bad_loops here acts at) (sym (odd-after here (has_form loop)))
            (it.breaks here (begun-ready (spot_of me) acts nodes it here construct begun) at (with-newest (spot_of me) acts nodes it here construct begun nodes at result)))

-- the construct behind the beginning of its loop
abbrev pub looping : Construct → Option Declared → Construct
looping construct None = construct
looping construct (Some it) = record construct { loop = Some it.slot }

pub looped-newest : (constructs : Constructs) (construct : Construct) (found : Option Declared) → constructs.newest ≡ Some construct → (looped constructs found).newest ≡ Some (looping construct found)
looped-newest constructs construct None newest = newest
looped-newest constructs construct (Some it) newest = ap (λ (newest : Option Construct). option_map (λ (one : Construct). record one { loop = Some it.slot }) newest) newest

pub looped-around : (constructs : Constructs) (found : Option Declared) → (looped constructs found).around ≡ constructs.around
looped-around constructs None = refl
looped-around constructs (Some it) = refl

pub declared-part : (part : Option Tree) → declared (part_or part) ≡ part_declared part
unfolding declared
declared-part None = refl
declared-part (Some tree) = refl

-- whether a position assigns a variable that is declared outside
pub same-option : (one : Option ℕ) (i : ℕ) → (one ≡ Some i) ⊎ (one ≡ Some i → ⊥)
same-option None i = inr (λ is. absurd (let no : None ≡ Some i = is in cc))
same-option (Some one) i = elim (cases_Bool (nat_eq one i)) [
  | inl same ↦ inl (ap (λ (one : ℕ). Some one) (eqb-true one i same))
  | inr differs ↦ inr (λ is. eqb-false one i differs (let both : Some one ≡ Some i = is in cc))
]

pub no-meaning : (sort : Option Sort) → (sort ≡ None) ⊎ (sort ≡ None → ⊥)
no-meaning None = inl refl
no-meaning (Some sort) = inr (λ is. absurd (let no : Some sort ≡ None = is in cc))

pub assigns-or-not : (i : ℕ) (at : Position) → AssignsOutside i at ⊎ (AssignsOutside i at → ⊥)
assigns-or-not i at =
    elim (same-option (assigned_variable at.node) i) [
      | inr differs ↦ inr (λ it. differs it.assigns)
      | inl assigns ↦ elim (no-meaning (meaning at.scope i)) [
        | inr hidden ↦ inr (λ it. hidden it.outside)
        | inl outside ↦ inl (record { assigns = assigns; outside = outside })
      ]
    ]
