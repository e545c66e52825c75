-- A loop with a variable that a `for` construct shares out.
use Rattle.std.specs.Prelude.{ℕ, ◌≡◌, Bool, true, false, if◌then◌else◌, List, [], ◌∷◌, ◌++◌, length, Option, Some, None, unwrap_or, refl}
use Rattle.std.proofs.Common.{sym, ap, subst, ◌∙◌, inl, inr, true≢false}
use Rattle.std.specs.List.{Contains, IsAmong}
use Rattle.std.proofs.lemmas.Bool.{cases_Bool}
use Rattle.c_tokens.specs.declared.token.Spot.{Spot}
use Rattle.c_syntax.specs.language.Tree.{Tree, Children, at_place, children_of, kind_of, nothing, spot_of}
use Rattle.c_syntax.specs.language.Productions.{kids}
use Rattle.c_check.specs.declared.acts.act.Act.{Act}
use Rattle.c_check.specs.declared.acts.act.Act.TheVariants.{Close, Loop, Open}
use Rattle.c_check.specs.declared.acts.role.Role.TheVariants as role
use Rattle.c_check.specs.declared.scopes.declared.Declared.{Declared}
use Rattle.c_check.specs.Acts.{acts}
use Rattle.c_check.specs.Checked.{after_all}
use Rattle.c_check.specs.Constructs.{Construct}
use Rattle.c_check.specs.Declarations.{find}
use Rattle.c_check.specs.Here.{Here, after}
use Rattle.c_check.specs.Loops.{has_form, loop_name}
use Rattle.c_check.specs.Rules.{bad_loops, is_int, newest_spot}
use Rattle.c_check.specs.Statements.{statement_of}
use Rattle.check_laws.specs.Scopes.{Declaration, Position, Sort, behind, declared, meaning, positions}
use Rattle.check_laws.specs.LoopForm.{AssignsOutside, IsLoopOfForm, assigned_variable, is_loop_construct}
use Rattle.check_laws.proofs.Broken.{BreaksIn, after-both, breaks-either, breaks-left, breaks-right}
use Rattle.check_laws.proofs.Calm.{calm-keeps}
use Rattle.check_laws.proofs.Constructing.{Inner, InnerMet, InnerResult, IsBegun, begun-ready, open-begun}
use Rattle.check_laws.proofs.Forms.{HasHead, body-part, first-part, head-name, loop_parts, part_or}
use Rattle.check_laws.proofs.Has.{Has, has-either, has-left, has-one, has-or-not, has-right, has-weaker, one-has}
use Rattle.check_laws.proofs.Means.{Means, ended-names, means-nothing, names-both, not-among, opened, spoils-either}
use Rattle.check_laws.proofs.Sharing.{assigns-or-not, declared-part, form-head, found-int, int-found, looped-around, looped-newest, looping, newest-spot, odd-after, odd-breaks, odd-here, odd-tells, spoiled-behind, spoiled-more, spot-newest}
use Rattle.check_laws.proofs.Standing.{Assigns, IsBelow, IsOddAt, IsReady, LoopsBelow, Met, Result, Spoiled, Spoils, around_here, loops-more, odd-back, odd-on, scope-after, spoiled-back, spoiled-on}
use Rattle.check_laws.proofs.Parts.{LoopParts, odd_acts, part_declared, position}
use Rattle.check_laws.proofs.Visible.{Falls, HasSlot, found-below, meaning-found, one-name, scope_of}

-- a `for` with its parts, by what their acts mean
pub record SharedLoop (tree : Tree) : Type 0 where
  pub parts : LoopParts tree
  pub head : Means false parts.head_acts (part_declared parts.begins) parts.head_nodes
  pub inner : Means false (acts role.Plain parts.body) [] (positions parts.body)

-- whether the loop's variable is an int is told where the body begins
broken-loop : (int : Bool) (spots : List Spot) (at : Spot) → IsAmong (if int then [] else spots) at → (int ≡ false) × IsAmong spots at
broken-loop true spots at among = absurd (not-among at among)
broken-loop false spots at among = (refl, among)

loop-broken : (int : Bool) (spots : List Spot) (at : Spot) → int ≡ false → IsAmong spots at → IsAmong (if int then [] else spots) at
loop-broken int spots at is among = rw is among

looping-spot : (construct : Construct) (found : Option Declared) → (looping construct found).head.spot ≡ construct.head.spot
looping-spot construct None = refl
looping-spot construct (Some it) = refl

looping-below : (bound : ℕ) (construct : Construct) (visible : List Declared) (name : ℕ) (found : Option Declared) → construct.loop ≡ None → Falls bound visible → find visible name ≡ found → IsBelow bound (looping construct found).loop
looping-below bound construct visible name None none falls is = subst (IsBelow bound) (sym none) tt
looping-below bound construct visible name (Some it) none falls is =
    found-below bound visible name it.slot falls (subst (λ (found : Option Declared). HasSlot found it.slot) (sym is) refl)

-- the slot of the loop is that of what was found
looping-slot : (construct : Construct) (found : Option Declared) (slot : ℕ) → construct.loop ≡ None → (looping construct found).loop ≡ Some slot → HasSlot found slot
looping-slot construct None slot none is = absurd (let no : None ≡ Some slot = sym none ∙ is in cc)
looping-slot construct (Some it) slot none is = let both : Some it.slot ≡ Some slot = is in cc

record HasLoopSlot (construct : Construct) (found : Option Declared) : Type 0 where
  slot : ℕ
  loop : (looping construct found).loop ≡ Some slot
  is : HasSlot found slot

found-slot : (construct : Construct) (found : Option Declared) → is_int found ≡ true → HasLoopSlot construct found
found-slot construct None int = absurd (let no : false ≡ true = int in cc)
found-slot construct (Some it) int = record { slot = it.slot; loop = refl; is = refl }

module _ (me : Tree) (shares : is_loop_construct (kind_of me) ≡ true) (assigns_none : assigned_variable me ≡ None) (it : SharedLoop (statement_of (children_of me))) (name : ℕ)
    (named : loop_name (statement_of (children_of me)) ≡ Some name) where
  abbrev pub loop : Tree
  loop = statement_of (children_of me)

  abbrev pub made : List Declaration
  made = part_declared it.parts.begins

  abbrev pub loop_nodes : List Position
  loop_nodes = it.parts.head_nodes ++ behind made (positions it.parts.body)

  abbrev pub body_acts : List Act
  body_acts = acts role.Plain it.parts.body

  abbrev pub loop_acts : List Act
  loop_acts = Open ∷ (it.parts.head_acts ++ Loop name ∷ body_acts) ++ Close ∷ []

  -- the parts of a head are those of the loop
  module _ (head : HasHead loop) where
    parts-same : kids (head.first ∷ head.second ∷ head.third ∷ head.body ∷ []) ≡ loop_parts it.parts.begins it.parts.tests it.parts.steps it.parts.body
    parts-same = sym head.parts_are.1 ∙ it.parts.children

    name-same : head.variable ≡ name
    name-same = let both : Some head.variable ≡ Some name = sym (head-name loop head) ∙ named in cc

    first-same : declared head.first ≡ made
    first-same =
        let same : head.first ≡ part_or it.parts.begins = ap (λ (children : Children). unwrap_or (at_place children 0) nothing) parts-same ∙ first-part it.parts.begins it.parts.tests it.parts.steps it.parts.body in
        ap declared same ∙ declared-part it.parts.begins

    body-same : head.body ≡ it.parts.body
    body-same = ap (λ (children : Children). unwrap_or (at_place children 3) nothing) parts-same ∙ body-part it.parts.begins it.parts.tests it.parts.steps it.parts.body

  module _ (here : Here) (construct : Construct) (begun : IsBegun (spot_of me) here construct) where
    abbrev pub open_here : Here
    open_here = after here Open

    abbrev pub headed : Here
    headed = after_all open_here it.parts.head_acts

    abbrev pub found : Option Declared
    found = find headed.names.visible name

    abbrev pub looped_here : Here
    looped_here = after headed (Loop name)

    abbrev pub bodied : Here
    bodied = after_all looped_here body_acts

    abbrev pub scope : List Declaration
    scope = scope_of here.names.visible

    pub here-ready : IsReady false here
    here-ready = begun-ready (spot_of me) [] [] (means-nothing false) here construct begun

    pub open-ready : IsReady false open_here
    open-ready = opened false here here-ready

    pub head-met : Met open_here headed made
    head-met = it.head.meets open_here open-ready

    pub headed-newest : headed.constructs.newest ≡ Some construct
    unfolding after
    headed-newest = (calm-keeps it.parts.head_acts open_here it.parts.calm).newest ∙ begun.newest

    pub headed-around : headed.constructs.around ≡ here.constructs.around
    unfolding after
    headed-around = (calm-keeps it.parts.head_acts open_here it.parts.calm).around

    pub body-open : around_here looped_here ≡ looping construct found ∷ here.constructs.around
    unfolding after
    body-open =
        open-begun looped_here.constructs (looping construct found) (looped-newest headed.constructs construct found headed-newest)
        ∙ ap (λ (around : List Construct). looping construct found ∷ around) (looped-around headed.constructs found ∙ headed-around)

    loops-grown : LoopsBelow (length headed.names.all) here.constructs.around
    unfolding after
    loops-grown = loops-more (length here.names.all) (length headed.names.all) here.constructs.around head-met.names.grows begun.loops

    pub body-ready : IsReady false looped_here
    unfolding after
    body-ready = record {
      names = head-met.names.sound;
      loops = subst (λ (around : List Construct). LoopsBelow (length headed.names.all) around) (sym body-open)
          (looping-below (length headed.names.all) construct headed.names.visible name found begun.loop head-met.names.sound.falls refl, loops-grown);
      outside = λ is. absurd (true≢false (sym is));
    }

    pub body-met : Met looped_here bodied []
    body-met = it.inner.meets looped_here body-ready

    closed-met : InnerMet here (after bodied Close)
    unfolding after
    closed-met = record {
      names = ended-names here.names bodied.names ([] ++ made) begun.names (names-both open_here.names headed.names bodied.names made [] head-met.names body-met.names);
      construct = looping construct found;
      around = body-met.around ∙ body-open;
    }

    scope-headed : scope_of headed.names.visible ≡ made ++ scope
    unfolding after
    scope-headed = scope-after open_here.names headed.names made head-met.names

    -- a loop of the form has a variable that is an int, and its body doesn't assign it
    form-int : IsLoopOfForm scope loop → is_int found ≡ true
    form-int form =
        let head = form-head me shares assigns_none scope form in
        let so : meaning (made ++ scope) name ≡ Some Sort.variable =
        subst (λ (name : ℕ). meaning (made ++ scope) name ≡ Some Sort.variable) (name-same head)
        (subst (λ (some : List Declaration). meaning (some ++ scope) head.variable ≡ Some Sort.variable) (first-same head) form.is_int) in
        int-found found (sym (meaning-found headed.names.visible name) ∙ ap (λ (scope : List Declaration). meaning scope name) scope-headed ∙ so)

    form-never : IsLoopOfForm scope loop → (slot : ℕ) → HasSlot found slot → Has (Assigns headed.names.visible slot) (positions it.parts.body) → ⊥
    form-never form slot is assigns =
        let head = form-head me shares assigns_none scope form in
        let one = has-one (Assigns headed.names.visible slot) (positions it.parts.body) assigns in
        let same : one.is.name ≡ name = one-name (length headed.names.all) headed.names.visible one.is.name name slot head-met.names.sound.falls one.is.found is in
        let variable : one.is.name ≡ form.variable = same ∙ sym (name-same head) in
        form.never_assigns one.one (subst (λ (body : Tree). Contains (positions body) one.one) (sym (body-same head)) one.contains)
        (record {
          assigns = one.is.assigns ∙ ap (λ (name : ℕ). Some name) variable;
          outside = subst (λ (name : ℕ). meaning one.one.scope name ≡ None) variable one.is.hidden;
        })

    found-form : HasHead loop → is_int found ≡ true → (Has (AssignsOutside name) (positions it.parts.body) → ⊥) → IsLoopOfForm scope loop
    found-form head int never = record {
      variable = head.variable;
      way = head.way;
      first = head.first;
      second = head.second;
      third = head.third;
      body = head.body;
      parts_are = head.parts_are;
      begins = head.begins;
      is_int =
          let so : meaning (made ++ scope) name ≡ Some Sort.variable =
          sym (ap (λ (scope : List Declaration). meaning scope name) scope-headed) ∙ meaning-found headed.names.visible name ∙ found-int found int in
          subst (λ (some : List Declaration). meaning (some ++ scope) head.variable ≡ Some Sort.variable) (sym (first-same head))
          (subst (λ (name : ℕ). meaning (made ++ scope) name ≡ Some Sort.variable) (sym (name-same head)) so);
      compares = head.compares;
      steps = head.steps;
      never_assigns = λ at contains assigns.
          never (one-has (AssignsOutside name) (positions it.parts.body) at (subst (λ (body : Tree). Contains (positions body) at) (body-same head) contains)
          (subst (λ (i : ℕ). AssignsOutside i at) (name-same head) assigns));
    }

    -- breaches are seen
    spoils-odd : (at : Spot) → Spoils headed.names.visible (positions it.parts.body) at (looping construct found) → IsOddAt scope at (position me)
    spoils-odd at spoils =
        odd-here me shares assigns_none here at (sym begun.at ∙ sym (looping-spot construct found) ∙ spoils.at)
        (λ form. form-never form spoils.slot (looping-slot construct found spoils.slot begun.loop spoils.loop) spoils.assigns)

    head-seen : (at : Spot) → Result open_here it.parts.head_nodes at → InnerResult here (position me ∷ loop_nodes) at
    unfolding after
    head-seen at (inl own) = inl (inr (has-left (IsOddAt scope at) it.parts.head_nodes (behind made (positions it.parts.body)) own))
    head-seen at (inr spoiled) =
        elim (subst (λ (around : List Construct). Spoiled here.names.visible it.parts.head_nodes at around) (open-begun here.constructs construct begun.newest) spoiled) [
          | inl this ↦ absurd (let no : None ≡ Some this.slot = sym begun.loop ∙ this.loop in cc)
          | inr others ↦ inr (spoiled-more me shares assigns_none here.names.visible it.parts.head_nodes (position me ∷ loop_nodes) at here.constructs.around
              (λ P has. inr (has-left P it.parts.head_nodes (behind made (positions it.parts.body)) has)) others)
        ]

    body-seen : (at : Spot) → Result looped_here (positions it.parts.body) at → InnerResult here (position me ∷ loop_nodes) at
    unfolding after
    body-seen at (inl own) =
        inl (inr (has-right (IsOddAt scope at) it.parts.head_nodes (behind made (positions it.parts.body)) (odd-back open_here.names headed.names made head-met.names (positions it.parts.body) at own)))
    body-seen at (inr spoiled) =
        elim (subst (λ (around : List Construct). Spoiled headed.names.visible (positions it.parts.body) at around) body-open spoiled) [
          | inl this ↦ inl (inl (spoils-odd at this))
          | inr others ↦ inr (spoiled-more me shares assigns_none here.names.visible (behind made (positions it.parts.body)) (position me ∷ loop_nodes) at here.constructs.around
              (λ P has. inr (has-right P it.parts.head_nodes (behind made (positions it.parts.body)) has))
              (spoiled-back open_here.names headed.names made head-met.names (positions it.parts.body) at here.constructs.around begun.loops others))
        ]

    loop-tells : (at : Spot) → BreaksIn bad_loops here loop_acts at → InnerResult here (position me ∷ loop_nodes) at
    loop-tells at breaks = elim breaks [
      | inl broken ↦ absurd (not-among at broken)
      | inr later ↦ elim (breaks-either bad_loops at open_here (it.parts.head_acts ++ Loop name ∷ body_acts) (Close ∷ []) later) [
        | inr end ↦ elim end [ inl broken ↦ absurd (not-among at broken) | inr never ↦ absurd never ]
        | inl within ↦ elim (breaks-either bad_loops at open_here it.parts.head_acts (Loop name ∷ body_acts) within) [
          | inl head ↦ head-seen at (it.head.tells open_here open-ready at head)
          | inr behind_head ↦ elim behind_head [
            | inl broken ↦
                let both = broken-loop (is_int found) (newest_spot headed.constructs.newest) at broken in
                inl (inl (odd-here me shares assigns_none here at (sym (newest-spot headed.constructs.newest construct (spot_of me) at headed-newest begun.at both.1))
                (λ form. true≢false (sym (form-int form) ∙ both.0))))
            | inr body ↦ body-seen at (it.inner.tells looped_here body-ready at body)
          ]
        ]
      ]
    ]

    -- and what is seen is a breach
    head-breaks : (at : Spot) → Result open_here it.parts.head_nodes at → BreaksIn bad_loops here loop_acts at
    head-breaks at result =
        inr (breaks-left bad_loops at open_here (it.parts.head_acts ++ Loop name ∷ body_acts) (Close ∷ [])
        (breaks-left bad_loops at open_here it.parts.head_acts (Loop name ∷ body_acts) (it.head.breaks open_here open-ready at result)))

    behind-breaks : (at : Spot) → BreaksIn bad_loops headed (Loop name ∷ body_acts) at → BreaksIn bad_loops here loop_acts at
    behind-breaks at breaks =
        inr (breaks-left bad_loops at open_here (it.parts.head_acts ++ Loop name ∷ body_acts) (Close ∷ []) (breaks-right bad_loops at open_here it.parts.head_acts (Loop name ∷ body_acts) breaks))

    body-breaks : (at : Spot) → Result looped_here (positions it.parts.body) at → BreaksIn bad_loops here loop_acts at
    body-breaks at result = behind-breaks at (inr (it.inner.breaks looped_here body-ready at result))

    -- the assignment by which the construct is odd
    assigned-breaks : (at : Spot) → spot_of me ≡ at → is_int found ≡ true → Has (AssignsOutside name) (positions it.parts.body) → BreaksIn bad_loops here loop_acts at
    unfolding after
    assigned-breaks at same int assigns =
        let slot = found-slot construct found int in
        let spoils : Spoils headed.names.visible (positions it.parts.body) at (looping construct found) = record {
          at = looping-spot construct found ∙ begun.at ∙ same;
          slot = slot.slot;
          loop = slot.loop;
          assigns = has-weaker (AssignsOutside name) (Assigns headed.names.visible slot.slot)
              (λ position one. record { name = name; assigns = one.assigns; hidden = one.outside; found = slot.is }) (positions it.parts.body) assigns;
        } in
        body-breaks at (inr (subst (λ (around : List Construct). Spoiled headed.names.visible (positions it.parts.body) at around) (sym body-open) (inl spoils)))

    odd-loop-breaks : (at : Spot) → IsOddAt scope at (position me) → has_form loop ≡ true → BreaksIn bad_loops here loop_acts at
    odd-loop-breaks at this form =
        elim (cases_Bool (is_int found)) [
          | inr other ↦ behind-breaks at (inl (loop-broken (is_int found) (newest_spot headed.constructs.newest) at other
              (spot-newest headed.constructs.newest construct (spot_of me) at headed-newest begun.at this.at)))
          | inl int ↦ elim (has-or-not (AssignsOutside name) (assigns-or-not name) (positions it.parts.body)) [
            | inl assigns ↦ assigned-breaks at this.at int assigns
            | inr never ↦ absurd (this.odd (found-form (it.parts.heads name named form) int never))
          ]
        ]

    nodes-break : (at : Spot) → InnerResult here loop_nodes at → BreaksIn bad_loops here loop_acts at
    unfolding after
    nodes-break at (inl own) =
        elim (has-either (IsOddAt scope at) it.parts.head_nodes (behind made (positions it.parts.body)) own) [
          | inl head ↦ head-breaks at (inl head)
          | inr body ↦ body-breaks at (inl (odd-on open_here.names headed.names made head-met.names (positions it.parts.body) at body))
        ]
    nodes-break at (inr spoiled) =
        elim (spoils-either here.names.visible it.parts.head_nodes (behind made (positions it.parts.body)) at here.constructs.around spoiled) [
          | inl head ↦ head-breaks at (inr (subst (λ (around : List Construct). Spoiled here.names.visible it.parts.head_nodes at around) (sym (open-begun here.constructs construct begun.newest)) (inr head)))
          | inr body ↦ body-breaks at (inr (subst (λ (around : List Construct). Spoiled headed.names.visible (positions it.parts.body) at around) (sym body-open)
              (inr (spoiled-on open_here.names headed.names made head-met.names (positions it.parts.body) at here.constructs.around body))))
        ]

  pub after-loop : (here : Here) → after_all here (odd_acts (has_form loop) ++ loop_acts) ≡ after (after_all (after (after_all (after here Open) it.parts.head_acts) (Loop name)) body_acts) Close
  unfolding after_all
  after-loop here =
      after-both here (odd_acts (has_form loop)) loop_acts ∙ ap (λ (here : Here). after_all here loop_acts) (odd-after here (has_form loop))
      ∙ after-both (after here Open) (it.parts.head_acts ++ Loop name ∷ body_acts) (Close ∷ [])
      ∙ ap (λ (here : Here). after here Close) (after-both (after here Open) it.parts.head_acts (Loop name ∷ body_acts))

  pub inner-loop : Inner (spot_of me) (odd_acts (has_form loop) ++ loop_acts) (position me ∷ loop_nodes)
  inner-loop = record {
    meets = λ here construct begun. subst (λ (new : Here). InnerMet here new) (sym (after-loop here)) (closed-met here construct begun);
    tells = λ here construct begun at breaks. elim (breaks-either bad_loops at here (odd_acts (has_form loop)) loop_acts breaks) [
      | inl odd ↦ inl (inl (odd-tells me shares assigns_none here construct begun at (has_form loop) refl odd))
      | inr later ↦ loop-tells here construct begun at (subst (λ (here : Here). BreaksIn bad_loops here loop_acts at) (odd-after here (has_form loop)) later)
    ];
    breaks = λ here construct begun at result. elim result [
      | inl odd ↦ elim odd [
        | inl this ↦ elim (cases_Bool (has_form loop)) [
          | inl form ↦ later here at (odd-loop-breaks here construct begun at this form)
          | inr none ↦ breaks-left bad_loops at here (odd_acts (has_form loop)) loop_acts (odd-breaks me shares assigns_none here construct begun at (has_form loop) none this.at)
        ]
        | inr own ↦ later here at (nodes-break here construct begun at (inl own))
      ]
      | inr spoiled ↦ later here at (nodes-break here construct begun at (inr (spoiled-behind me shares assigns_none here.names.visible loop_nodes at here.constructs.around spoiled)))
    ];
  }
    where
      later : (here : Here) (at : Spot) → BreaksIn bad_loops here loop_acts at → BreaksIn bad_loops here (odd_acts (has_form loop) ++ loop_acts) at
      later here at breaks =
          breaks-right bad_loops at here (odd_acts (has_form loop)) loop_acts (subst (λ (here : Here). BreaksIn bad_loops here loop_acts at) (sym (odd-after here (has_form loop))) breaks)
