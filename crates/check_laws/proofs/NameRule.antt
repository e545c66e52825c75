-- The names that stand in a part of a tree are those that its acts tell of.
use Rattle.std.specs.Prelude.{ℕ, ◌≡◌, ◌<◌, Bool, true, false, List, [], ◌∷◌, ◌++◌, length, Option, Some, None, unwrap_or, refl}
use Rattle.std.proofs.Common.{sym, ap, subst, ◌∙◌, inl, inr, arith, true≢false}
use Rattle.std.specs.List.{IsAmong}
use Rattle.c_tokens.specs.declared.token.Spot.{Spot}
use Rattle.c_syntax.specs.declared.node.Directive.{Directive}
use Rattle.c_syntax.specs.declared.node.NodeKind.{NodeKind}
use Rattle.c_syntax.specs.declared.node.NodeKind.TheVariants as node
use Rattle.c_syntax.specs.declared.node.Returns.{Returns}
use Rattle.c_syntax.specs.language.Tree.{Tree, Children, at_place, children_of, kind_of, name_of, nothing, spot_of}
use Rattle.c_check.specs.declared.acts.act.Act.{Act}
use Rattle.c_check.specs.declared.acts.act.Act.TheVariants.{Assign, Barrier, Begin, Close, Declare, End, Enter, Leave, Loop, Open, Print, Return}
use Rattle.c_check.specs.declared.acts.role.Role.TheVariants as role
use Rattle.c_check.specs.declared.scopes.declared.Declared.{Declared}
use Rattle.c_check.specs.Acts.{acts}
use Rattle.c_check.specs.Checked.{after_all}
use Rattle.c_check.specs.Clauses.{inside_acts}
use Rattle.c_check.specs.Constructs.{Construct, begun_construct}
use Rattle.c_check.specs.Declarations.{Declarations, find}
use Rattle.c_check.specs.Here.{Here, after}
use Rattle.c_check.specs.Loops.{child_at, has_form, loop_name}
use Rattle.c_check.specs.Statements.{shares_loop, statement_of}
use Rattle.check_laws.specs.Scopes.{Declaration, Position, Sort, behind, declared, declared_as, meaning, positions}
use Rattle.check_laws.specs.LoopForm.{assigned_by, is_loop_construct}
use Rattle.check_laws.specs.ListedNames.{is_construct, used, used_by}
use Rattle.check_laws.proofs.Broken.{BreaksIn, breaks-either, breaks-left, breaks-right}
use Rattle.check_laws.proofs.Constructing.{Inner, IsBegun, begins, begun-ready, informed, inner-plain}
use Rattle.check_laws.proofs.Does.{AreUses, Does, is_silent, no-loop, still-no-loop}
use Rattle.check_laws.proofs.Forms.{first-part}
use Rattle.check_laws.proofs.Has.{Has, front-has, has-either, has-front, has-left, has-right}
use Rattle.check_laws.proofs.Informing.{Informed, inside-informs}
use Rattle.check_laws.proofs.LoopRule.{construct-none, does-mean, shared-loop, shares-same}
use Rattle.check_laws.proofs.Means.{Means, begins as function-ready, begun, means-nothing, named, named-met, opened}
use Rattle.check_laws.proofs.Naming.{IsUsedAt, Mentioned, Mentions, NamedBy, Purpose, SharesLoop, case-mentioned, mentioned-case, mentions, mentions-back, mentions-calm, mentions-on, plain-names-none, uses-break, uses-tell}
use Rattle.check_laws.proofs.Parts.{LoopParts, odd_acts, part_declared, position}
use Rattle.check_laws.proofs.SharedLoops.{SharedLoop, body-ready, head-met, open-ready}
use Rattle.check_laws.proofs.Sharing.{declared-part}
use Rattle.check_laws.proofs.Standing.{IsReady, Met, ready-after}
use Rattle.check_laws.proofs.Inside.{inside-informing}
use Rattle.check_laws.proofs.Unnamed.{all-unnamed, behind-odd, between, enclosed, is_naming, not-one, put-behind-odd, put-between, put-enclosed}
use Rattle.check_laws.proofs.Visible.{HasSlot, find-older, older, scope_of}

pub record Naming (file : Bool) (acts : List Act) (nodes : List Position) : Type 0 where
  pub tells : (here : Here) → IsReady file here → (one : Mentioned) → one.what.slot < length here.names.all → BreaksIn mentions here acts one → Has (Mentions here.names.visible one) nodes
  pub breaks : (here : Here) → IsReady file here → (one : Mentioned) → Has (Mentions here.names.visible one) nodes → BreaksIn mentions here acts one

naming-nothing : (file : Bool) → Naming file [] []
naming-nothing file = record { tells = λ here ready one less breaks. absurd breaks; breaks = λ here ready one has. absurd has }

naming-both : (file : Bool) (some more : List Act) (first second : List Declaration) (nodes others : List Position) → Means file some first nodes → Naming file some nodes → Naming file more others
    → Naming file (some ++ more) (nodes ++ behind first others)
naming-both file some more first second nodes others means one two = record {
  tells = λ here ready it less breaks.
      let met = means.meets here ready in
      elim (breaks-either mentions it here some more breaks) [
        | inl left ↦ has-left (Mentions here.names.visible it) nodes (behind first others) (one.tells here ready it less left)
        | inr right ↦ has-right (Mentions here.names.visible it) nodes (behind first others)
            (mentions-back here.names (after_all here some).names first met.names it others less
            (two.tells (after_all here some) (ready-after file here (after_all here some) first ready met) it (omega (arith, less, met.names.grows)) right))
      ];
  breaks = λ here ready it has.
      let met = means.meets here ready in
      elim (has-either (Mentions here.names.visible it) nodes (behind first others) has) [
        | inl left ↦ breaks-left mentions it here some more (one.breaks here ready it left)
        | inr right ↦ breaks-right mentions it here some more
            (two.breaks (after_all here some) (ready-after file here (after_all here some) first ready met) it (mentions-on here.names (after_all here some).names first met.names it others right))
      ];
}

naming-front : (file : Bool) (acts : List Act) (one : Position) (nodes others : List Position) → Naming file acts (nodes ++ one ∷ others) → Naming file acts (one ∷ (nodes ++ others))
naming-front file acts one nodes others it = record {
  tells = λ here ready what less breaks. front-has one nodes others (Mentions here.names.visible what) (it.tells here ready what less breaks);
  breaks = λ here ready what has. it.breaks here ready what (has-front one nodes others (Mentions here.names.visible what) has);
}

-- one more node that names nothing
abbrev NamesNothing : Tree → Type 0
NamesNothing tree = (purpose : Purpose) (name : ℕ) → NamedBy purpose name tree → ⊥

naming-more : (file : Bool) (acts : List Act) (nodes : List Position) (tree : Tree) (scope : List Declaration) → NamesNothing tree → Naming file acts nodes → Naming file acts (record { node = tree; scope = scope } ∷ nodes)
naming-more file acts nodes tree scope none it = record {
  tells = λ here ready what less breaks. inr (it.tells here ready what less breaks);
  breaks = λ here ready what has. it.breaks here ready what (elim has [ inl this ↦ absurd (none what.purpose this.name this.is.named) | inr there ↦ there ]);
}

naming-none : (file : Bool) (act : Act) → is_naming act ≡ false → Naming file (act ∷ []) []
naming-none file act is = record { tells = λ here ready what less breaks. absurd (not-one mentions mentions-calm what here act is breaks); breaks = λ here ready what has. absurd has }

silent-unnamed : (act : Act) → is_silent act ≡ true → is_naming act ≡ false
silent-unnamed (Print spot printed) is = refl
silent-unnamed (Return spot returned) is = refl
silent-unnamed (Barrier spot) is = refl
silent-unnamed other is = absurd (let no : false ≡ true = is in cc)

-- a node that uses names
used-breaks : (here : Here) (acts : List Act) (tree : Tree) → is_loop_construct (kind_of tree) ≡ false → AreUses acts (used tree) → (purpose : Purpose) (what : Declared) (name : ℕ) → NamedBy purpose name tree
    → find here.names.visible name ≡ Some what → BreaksIn mentions here acts (record { purpose = purpose; what = what })
used-breaks here acts tree no_loop are (Purpose.using spot) what name has found = uses-break here acts (used tree) are name spot what has found
used-breaks here acts tree no_loop are Purpose.looping what name has found = absurd (true≢false (sym has.shares ∙ no_loop))

used-tells : (here : Here) (tree : Tree) (purpose : Purpose) (what : Declared) (name : ℕ) (spot : Spot) → purpose ≡ Purpose.using spot → Has (IsUsedAt name spot) (used tree) → find here.names.visible name ≡ Some what
    → Mentions here.names.visible (record { purpose = purpose; what = what }) (position tree)
unfolding meaning
used-tells here tree purpose what name spot is has found = record {
  name = name;
  is = record { named = subst (λ (purpose : Purpose). NamedBy purpose name tree) (sym is) has; hidden = refl };
  found = found;
}

naming-uses : (file : Bool) (acts : List Act) (tree : Tree) → is_loop_construct (kind_of tree) ≡ false → AreUses acts (used tree) → Naming file acts (position tree ∷ [])
naming-uses file acts tree no_loop are = record {
  tells = λ here ready one less breaks.
      let it = uses-tell here acts (used tree) are one breaks in
      inl (used-tells here tree one.purpose one.what it.name it.spot it.purpose it.has it.found);
  breaks = λ here ready one has. elim has [
    | inl this ↦ used-breaks here acts tree no_loop are one.purpose one.what this.name this.is.named this.found
    | inr none ↦ absurd none
  ];
}

naming-scoped : (file : Bool) (acts : List Act) (nodes : List Position) → Naming file acts nodes → Naming file (Open ∷ acts ++ Close ∷ []) nodes
unfolding after
naming-scoped file acts nodes it = record {
  tells = λ here ready one less breaks. it.tells (after here Open) (opened file here ready) one less (between mentions mentions-calm one here Open Close acts refl refl breaks);
  breaks = λ here ready one has. put-between mentions mentions-calm one here Open Close acts (it.breaks (after here Open) (opened file here ready) one has);
}

module _ (name : ℕ) (spot : Spot) (returns : Returns) (parameters : ℕ) where
  abbrev made_here : List Declaration
  made_here = declared_as Sort.function name

  naming-function : (acts : List Act) (nodes : List Position) → Naming false acts nodes → Naming true (Begin name spot returns parameters ∷ acts ++ End ∷ []) (behind made_here nodes)
  unfolding after
  naming-function acts nodes it = record {
    tells = λ here ready one less breaks.
        let met = named-met name spot returns parameters here ready in
        mentions-back here.names (named name spot returns parameters here).names made_here met.names one nodes less
        (it.tells (begun name spot returns parameters here) (function-ready name spot returns parameters here ready) one (omega (arith, less, met.names.grows))
        (between mentions mentions-calm one here (Begin name spot returns parameters) End acts refl refl breaks));
    breaks = λ here ready one has.
        let met = named-met name spot returns parameters here ready in
        put-between mentions mentions-calm one here (Begin name spot returns parameters) End acts
        (it.breaks (begun name spot returns parameters here) (function-ready name spot returns parameters here ready) one (mentions-on here.names (named name spot returns parameters here).names made_here met.names one nodes has));
  }

-- a construct
module _ (me : Tree) (which : Directive) (critical : ℕ) where
  abbrev pub inside_here : List Act
  inside_here = inside_acts (children_of me)

  abbrev pub enters : Act
  enters = Enter (spot_of me) which critical

  abbrev pub first_here : Here → Here
  first_here here = after_all (after here enters) inside_here

  abbrev pub no_inner : Inner (spot_of me) [] []
  no_inner = inner-plain (spot_of me) [] [] (means-nothing false)

  abbrev pub informed-here : (here : Here) → Informed (after here enters) (first_here here) (begun_construct (spot_of me) which critical (length here.names.all))
  informed-here here = informed (spot_of me) which critical inside_here [] [] (inside-informs (children_of me)) no_inner here

  pub begun-here : (here : Here) → IsReady false here → IsBegun (spot_of me) (first_here here) (informed-here here).now
  begun-here here ready = begins (spot_of me) which critical inside_here [] [] (inside-informs (children_of me)) no_inner here ready

  pub names-here : (here : Here) → (first_here here).names ≡ here.names
  unfolding after
  names-here here = (informed-here here).names

pub record InnerNaming (me : Tree) (acts : List Act) (nodes : List Position) : Type 0 where
  pub tells : (here : Here) (construct : Construct) → IsBegun (spot_of me) here construct → (one : Mentioned) → one.what.slot < length here.names.all → BreaksIn mentions here acts one → Has (Mentions here.names.visible one) nodes
  pub breaks : (here : Here) (construct : Construct) → IsBegun (spot_of me) here construct → (one : Mentioned) → Has (Mentions here.names.visible one) nodes → BreaksIn mentions here acts one

naming-construct : (me : Tree) (which : Directive) (critical : ℕ) (acts : List Act) (nodes : List Position) → InnerNaming me acts nodes
    → Naming false (Enter (spot_of me) which critical ∷ inside_acts (children_of me) ++ (acts ++ Leave ∷ [])) nodes
naming-construct me which critical acts nodes it = record {
  tells = λ here ready one less breaks.
      subst (λ (names : Declarations). Has (Mentions names.visible one) nodes) (names-here me which critical here)
      (it.tells (first_here me which critical here) (informed-here me which critical here).now (begun-here me which critical here ready) one
      (subst (λ (names : Declarations). one.what.slot < length names.all) (sym (names-here me which critical here)) less)
      (enclosed mentions mentions-calm one here (enters me which critical) Leave (inside_here me which critical) acts refl (all-unnamed (inside_here me which critical) (inside-informing (children_of me))) refl breaks));
  breaks = λ here ready one has.
      put-enclosed mentions mentions-calm one here (enters me which critical) Leave (inside_here me which critical) acts
      (it.breaks (first_here me which critical here) (informed-here me which critical here).now (begun-here me which critical here ready) one
      (subst (λ (names : Declarations). Has (Mentions names.visible one) nodes) (sym (names-here me which critical here)) has));
}

pub here-ready : (me : Tree) (here : Here) (construct : Construct) → IsBegun (spot_of me) here construct → IsReady false here
here-ready me here construct begun = begun-ready (spot_of me) [] [] (means-nothing false) here construct begun

pub inner-naming : (me : Tree) (acts : List Act) (nodes : List Position) → Naming false acts nodes → InnerNaming me acts nodes
inner-naming me acts nodes it = record {
  tells = λ here construct begun. it.tells here (here-ready me here construct begun);
  breaks = λ here construct begun. it.breaks here (here-ready me here construct begun);
}

inner-odd : (me : Tree) (form : Bool) (acts : List Act) (nodes : List Position) → InnerNaming me acts nodes → InnerNaming me (odd_acts form ++ acts) nodes
inner-odd me form acts nodes it = record {
  tells = λ here construct begun one less breaks. it.tells here construct begun one less (behind-odd mentions mentions-calm one here form acts breaks);
  breaks = λ here construct begun one has. put-behind-odd mentions mentions-calm one here form acts (it.breaks here construct begun one has);
}

pub construct-uses-none : (me : Tree) (which : Directive) → kind_of me ≡ node.Construct which → used me ≡ []
construct-uses-none me which kind = ap (λ (kind : NodeKind). used_by kind (spot_of me) (name_of me) (children_of me)) kind

-- a construct that isn't over a loop with a variable
construct-names-none : (me : Tree) (which : Directive) → kind_of me ≡ node.Construct which → ((name : ℕ) → SharesLoop name me → ⊥) → NamesNothing me
construct-names-none me which kind none (Purpose.using spot) name named = let no : Has (IsUsedAt name spot) [] = subst (Has (IsUsedAt name spot)) (construct-uses-none me which kind) named in no
construct-names-none me which kind none Purpose.looping name named = none name named

for-names-none : (loop : Tree) → kind_of loop ≡ node.For → NamesNothing loop
for-names-none loop kind = plain-names-none loop (record {
  still = record { no_construct = ap is_construct kind; assigns_none = ap (λ (kind : NodeKind). assigned_by kind (children_of loop)) kind };
  uses_none = ap (λ (kind : NodeKind). used_by kind (spot_of loop) (name_of loop) (children_of loop)) kind;
})

-- a construct that shares out a loop
module _ (me : Tree) (which : Directive) (kind : kind_of me ≡ node.Construct which) (shares : shares_loop which ≡ true) (name : ℕ) (named : loop_name (statement_of (children_of me)) ≡ Some name)
    (it : LoopParts (statement_of (children_of me))) (head : Does false it.head_acts (part_declared it.begins) it.head_nodes) (inner : Does false (acts role.Plain it.body) [] (positions it.body)) where
  abbrev pub loop : Tree
  loop = statement_of (children_of me)

  abbrev pub shared : SharedLoop loop
  shared = shared-loop loop it (does-mean head) (does-mean inner)

  abbrev pub loop_made : List Declaration
  loop_made = part_declared it.begins

  abbrev pub loop_nodes : List Position
  loop_nodes = it.head_nodes ++ behind loop_made (positions it.body)

  abbrev pub body_acts : List Act
  body_acts = acts role.Plain it.body

  abbrev pub within_acts : List Act
  within_acts = it.head_acts ++ Loop name ∷ body_acts

  pub me-shares : is_loop_construct (kind_of me) ≡ true
  me-shares = shares-same me which true kind shares

  first-declared : declared (child_at loop 0) ≡ loop_made
  first-declared = ap declared (ap (λ (children : Children). unwrap_or (at_place children 0) nothing) it.children ∙ first-part it.begins it.tests it.steps it.body) ∙ declared-part it.begins

  module _ (here : Here) (construct : Construct) (is : IsBegun (spot_of me) here construct) where
    abbrev pub open_here : Here
    open_here = after here Open

    abbrev pub headed_here : Here
    headed_here = after_all open_here it.head_acts

    abbrev pub looped_here : Here
    looped_here = after headed_here (Loop name)

    pub ready-open : IsReady false open_here
    ready-open = open-ready me me-shares (construct-none me which kind) shared name named here construct is

    pub ready-body : IsReady false looped_here
    ready-body = body-ready me me-shares (construct-none me which kind) shared name named here construct is

    pub met-head : Met open_here headed_here loop_made
    met-head = head-met me me-shares (construct-none me which kind) shared name named here construct is

  module _ (head_names : Naming false it.head_acts it.head_nodes) (inner_names : Naming false body_acts (positions it.body)) where
    loop-tells : (here : Here) (construct : Construct) (is : IsBegun (spot_of me) here construct) (one : Mentioned) → one.what.slot < length here.names.all
        → IsAmong (mentions (headed_here here construct is) (Loop name)) one → Mentions here.names.visible one (position me)
    unfolding after meaning
    loop-tells here construct is one less among =
        let met = met-head here construct is in
        let both = mentioned-case Purpose.looping (find (headed_here here construct is).names.visible name) one among in
        let found : find (met.names.added ++ here.names.visible) name ≡ Some one.what =
        subst (λ (visible : List Declared). find visible name ≡ Some one.what) met.names.visible both.1 in
        let slot : HasSlot (find (met.names.added ++ here.names.visible) name) one.what.slot = subst (λ (found : Option Declared). HasSlot found one.what.slot) (sym found) refl in
        let from = older (length here.names.all) (open_here here construct is).names.level met.names.added here.names.visible name one.what.slot met.names.are_new less slot in
        let undeclared : meaning (declared (child_at loop 0)) name ≡ None =
        subst (λ (made : List Declaration). meaning made name ≡ None) (sym first-declared) (subst (λ (made : List Declaration). meaning made name ≡ None) met.names.tells from.hidden) in
        let by : SharesLoop name me = record { shares = me-shares; variable = named; undeclared = undeclared } in
        record {
          name = name;
          is = record { named = subst (λ (purpose : Purpose). NamedBy purpose name me) (sym both.0) by; hidden = refl };
          found = sym (find-older met.names.added here.names.visible name from.hidden) ∙ found;
        }

    loop-breaks : (here : Here) (construct : Construct) (is : IsBegun (spot_of me) here construct) (purpose : Purpose) (what : Declared) → Mentions here.names.visible (record { purpose = purpose; what = what }) (position me)
        → IsAmong (mentions (headed_here here construct is) (Loop name)) (record { purpose = purpose; what = what })
    unfolding after
    loop-breaks here construct is (Purpose.using spot) what this =
        absurd (let no : Has (IsUsedAt this.name spot) [] = subst (Has (IsUsedAt this.name spot)) (construct-uses-none me which kind) this.is.named in no)
    loop-breaks here construct is Purpose.looping what this =
        let met = met-head here construct is in
        let same : this.name ≡ name = (let both : Some this.name ≡ Some name = sym this.is.named.variable ∙ named in cc) in
        let hidden : meaning (scope_of met.names.added) this.name ≡ None =
        subst (λ (made : List Declaration). meaning made this.name ≡ None) (sym met.names.tells) (subst (λ (made : List Declaration). meaning made this.name ≡ None) first-declared this.is.named.undeclared) in
        let found : find (headed_here here construct is).names.visible this.name ≡ Some what =
        subst (λ (visible : List Declared). find visible this.name ≡ Some what) (sym met.names.visible) (find-older met.names.added here.names.visible this.name hidden ∙ this.found) in
        case-mentioned Purpose.looping (find (headed_here here construct is).names.visible name) what (subst (λ (name : ℕ). find (headed_here here construct is).names.visible name ≡ Some what) same found)

    nodes-tell : (here : Here) (construct : Construct) (is : IsBegun (spot_of me) here construct) (one : Mentioned) → one.what.slot < length here.names.all → BreaksIn mentions (open_here here construct is) within_acts one
        → Has (Mentions here.names.visible one) (position me ∷ (position loop ∷ loop_nodes))
    unfolding after
    nodes-tell here construct is one less breaks =
        let met = met-head here construct is in
        elim (breaks-either mentions one (open_here here construct is) it.head_acts (Loop name ∷ body_acts) breaks) [
          | inl left ↦ inr (inr (has-left (Mentions here.names.visible one) it.head_nodes (behind loop_made (positions it.body)) (head_names.tells (open_here here construct is) (ready-open here construct is) one less left)))
          | inr (inl now) ↦ inl (loop-tells here construct is one less now)
          | inr (inr later) ↦ inr (inr (has-right (Mentions here.names.visible one) it.head_nodes (behind loop_made (positions it.body))
              (mentions-back (open_here here construct is).names (headed_here here construct is).names loop_made met.names one (positions it.body) less
              (inner_names.tells (looped_here here construct is) (ready-body here construct is) one (omega (arith, less, met.names.grows)) later))))
        ]

    nodes-break : (here : Here) (construct : Construct) (is : IsBegun (spot_of me) here construct) (one : Mentioned) → Has (Mentions here.names.visible one) (position me ∷ (position loop ∷ loop_nodes))
        → BreaksIn mentions (open_here here construct is) within_acts one
    unfolding after
    nodes-break here construct is one (inl this) = breaks-right mentions one (open_here here construct is) it.head_acts (Loop name ∷ body_acts) (inl (loop-breaks here construct is one.purpose one.what this))
    nodes-break here construct is one (inr (inl this)) = absurd (for-names-none loop it.kind one.purpose this.name this.is.named)
    nodes-break here construct is one (inr (inr has)) =
        elim (has-either (Mentions here.names.visible one) it.head_nodes (behind loop_made (positions it.body)) has) [
          | inl left ↦ breaks-left mentions one (open_here here construct is) it.head_acts (Loop name ∷ body_acts) (head_names.breaks (open_here here construct is) (ready-open here construct is) one left)
          | inr right ↦ breaks-right mentions one (open_here here construct is) it.head_acts (Loop name ∷ body_acts)
              (inr (inner_names.breaks (looped_here here construct is) (ready-body here construct is) one
              (mentions-on (open_here here construct is).names (headed_here here construct is).names loop_made (met-head here construct is).names one (positions it.body) right)))
        ]

    pub inner-loop-naming : InnerNaming me (odd_acts (has_form loop) ++ (Open ∷ within_acts ++ Close ∷ [])) (position me ∷ (position loop ∷ loop_nodes))
    inner-loop-naming = record {
      tells = λ here construct is one less breaks. nodes-tell here construct is one less
          (between mentions mentions-calm one here Open Close within_acts refl refl (behind-odd mentions mentions-calm one here (has_form loop) (Open ∷ within_acts ++ Close ∷ []) breaks));
      breaks = λ here construct is one has. put-behind-odd mentions mentions-calm one here (has_form loop) (Open ∷ within_acts ++ Close ∷ [])
          (put-between mentions mentions-calm one here Open Close within_acts (nodes-break here construct is one has));
    }

shares-none : (me : Tree) (which : Directive) → kind_of me ≡ node.Construct which → shares_loop which ≡ false → (name : ℕ) → SharesLoop name me → ⊥
shares-none me which kind none name shares = true≢false (sym shares.shares ∙ shares-same me which false kind none)

unnamed-none : (me : Tree) → loop_name (statement_of (children_of me)) ≡ None → (name : ℕ) → SharesLoop name me → ⊥
unnamed-none me none name shares = absurd (let no : Some name ≡ None = sym shares.variable ∙ none in cc)

pub constructs-naming : (me : Tree) (which : Directive) (some : List Act) (nodes : List Position) → kind_of me ≡ node.Construct which → shares_loop which ≡ false → Naming false some nodes
    → InnerNaming me some (position me ∷ nodes)
constructs-naming me which some nodes kind shares it =
    inner-naming me some (position me ∷ nodes) (naming-more false some nodes me [] (construct-names-none me which kind (shares-none me which kind shares)) it)

pub misses-naming : (me : Tree) (which : Directive) (some : List Act) (nodes : List Position) → kind_of me ≡ node.Construct which → loop_name (statement_of (children_of me)) ≡ None → Naming false some nodes
    → InnerNaming me (odd_acts (has_form (statement_of (children_of me))) ++ some) (position me ∷ nodes)
misses-naming me which some nodes kind unnamed it =
    inner-odd me (has_form (statement_of (children_of me))) some (position me ∷ nodes)
    (inner-naming me some (position me ∷ nodes) (naming-more false some nodes me [] (construct-names-none me which kind (unnamed-none me unnamed)) it))

assigns-none : (tree : Tree) → is_construct (kind_of tree) ≡ false → used tree ≡ [] → NamesNothing tree
assigns-none tree no_construct none (Purpose.using spot) name named = let no : Has (IsUsedAt name spot) [] = subst (Has (IsUsedAt name spot)) none named in no
assigns-none tree no_construct none Purpose.looping name named = true≢false (sym named.shares ∙ no-loop (kind_of tree) no_construct)

pub does-name : {file : Bool} {some : List Act} {made : List Declaration} {nodes : List Position} → Does file some made nodes → Naming file some nodes
does-name (Does.nothing file) = naming-nothing file
does-name (Does.both file some more first second nodes others one two) = naming-both file some more first second nodes others (does-mean one) (does-name one) (does-name two)
does-name (Does.front file some made one nodes others it) = naming-front file some one nodes others (does-name it)
does-name (Does.plainly file some made nodes tree scope plain it) = naming-more file some nodes tree scope (plain-names-none tree plain) (does-name it)
does-name (Does.silent file act is) = naming-none file act (silent-unnamed act is)
does-name (Does.uses file some tree still are) = naming-uses file some tree (still-no-loop tree still) are
does-name (Does.assigns file name tree no_construct assigns none) = naming-more file (Assign name ∷ []) [] tree [] (assigns-none tree no_construct none) (naming-none file (Assign name) refl)
does-name (Does.declares file name spot what) = naming-none file (Declare name spot what) refl
does-name (Does.scoped file some made nodes it) = naming-scoped file some nodes (does-name it)
does-name (Does.function name spot returns parameters some made nodes it) = naming-function name spot returns parameters some nodes (does-name it)
does-name (Does.constructs me which critical some nodes kind shares inside it) = naming-construct me which critical some (position me ∷ nodes) (constructs-naming me which some nodes kind shares (does-name it))
does-name (Does.misses me which critical some nodes kind shares unnamed inside it) = naming-construct me which critical _ (position me ∷ nodes) (misses-naming me which some nodes kind unnamed (does-name it))
does-name (Does.shares me which critical name it kind shares named inside head inner) =
    naming-construct me which critical _ _ (inner-loop-naming me which kind shares name named it head inner (does-name head) (does-name inner))
