-- A construct: what stands inside of it, between its clauses and its end.
use Rattle.std.specs.Prelude.{ℕ, ◌≡◌, ◌⊎◌, false, List, [], ◌∷◌, ◌++◌, length, Option, Some, None, refl}
use Rattle.std.proofs.Common.{sym, ap, subst, ◌∙◌, inl, inr, true≢false}
use Rattle.c_tokens.specs.declared.token.Spot.{Spot}
use Rattle.c_syntax.specs.declared.node.Directive.{Directive}
use Rattle.c_syntax.specs.language.Tree.{Tree}
use Rattle.c_check.specs.declared.acts.act.Act.{Act}
use Rattle.c_check.specs.declared.acts.act.Act.TheVariants.{Enter, Leave}
use Rattle.c_check.specs.Checked.{after_all}
use Rattle.c_check.specs.Constructs.{Construct, Constructs, begun_construct, open_constructs, with_ended, with_newest, without_innermost}
use Rattle.c_check.specs.Declarations.{Declarations}
use Rattle.c_check.specs.Here.{Here, after}
use Rattle.c_check.specs.Rules.{bad_loops}
use Rattle.check_laws.specs.Scopes.{Position, behind}
use Rattle.check_laws.proofs.Broken.{BreaksIn, after-both, breaks-either, breaks-left, breaks-right}
use Rattle.check_laws.proofs.Has.{Has, has-weaker}
use Rattle.check_laws.proofs.Informing.{Informed, Informs}
use Rattle.check_laws.proofs.Means.{IsPlain, Means, not-among}
use Rattle.check_laws.proofs.Standing.{Assigns, IsBelow, IsOddAt, IsReady, LoopsBelow, Met, Names, OwnOdd, Result, Spoiled, Spoils, around_here}
use Rattle.check_laws.proofs.Visible.{IsSound, scope_of}

-- a construct that stands there has begun last, and its loop hasn't begun
pub record IsBegun (spot : Spot) (here : Here) (construct : Construct) : Type 0 where
  pub newest : here.constructs.newest ≡ Some construct
  pub at : construct.head.spot ≡ spot
  pub loop : construct.loop ≡ None
  pub names : IsSound here.names
  pub loops : LoopsBelow (length here.names.all) here.constructs.around

pub record InnerMet (old new : Here) : Type 0 where
  pub names : Names old.names new.names []
  pub construct : Construct
  pub around : around_here new ≡ construct ∷ old.constructs.around

-- as of acts, but that the construct is around them, of whose breaches the positions know
abbrev pub InnerResult : Here → List Position → Spot → Type 0
InnerResult here nodes spot = OwnOdd here.names.visible nodes spot ⊎ Spoiled here.names.visible nodes spot here.constructs.around

pub record Inner (spot : Spot) (acts : List Act) (nodes : List Position) : Type 0 where
  pub meets : (here : Here) (construct : Construct) → IsBegun spot here construct → InnerMet here (after_all here acts)
  pub tells : (here : Here) (construct : Construct) → IsBegun spot here construct → (at : Spot) → BreaksIn bad_loops here acts at → InnerResult here nodes at
  pub breaks : (here : Here) (construct : Construct) → IsBegun spot here construct → (at : Spot) → InnerResult here nodes at → BreaksIn bad_loops here acts at

pub inner-same : (spot : Spot) (acts : List Act) (nodes others : List Position) → ((P : Position → Type 0) → Has P nodes → Has P others) → ((P : Position → Type 0) → Has P others → Has P nodes)
    → Inner spot acts nodes → Inner spot acts others
inner-same spot acts nodes others there back it = record {
  meets = it.meets;
  tells = λ here construct begun at breaks. mapped nodes others there here at (it.tells here construct begun at breaks);
  breaks = λ here construct begun at result. it.breaks here construct begun at (mapped others nodes back here at result);
}
  where
    mapped : (some more : List Position) → ((P : Position → Type 0) → Has P some → Has P more) → (here : Here) (at : Spot) → InnerResult here some at → InnerResult here more at
    mapped some more each here at (inl odd) = inl (each (IsOddAt (scope_of here.names.visible) at) odd)
    mapped some more each here at (inr spoiled) =
        inr (has-weaker (Spoils here.names.visible some at) (Spoils here.names.visible more at)
        (λ construct it. record { at = it.at; slot = it.slot; loop = it.loop; assigns = each (Assigns here.names.visible it.slot) it.assigns }) here.constructs.around spoiled)

-- the constructs that are open where one has begun last
pub open-begun : (constructs : Constructs) (construct : Construct) → constructs.newest ≡ Some construct → open_constructs constructs ≡ construct ∷ constructs.around
open-begun constructs construct newest = ap (λ (newest : Option Construct). with_newest newest constructs.around) newest

ended-open : (constructs : Constructs) (first : Construct) (outer : List Construct) → open_constructs constructs ≡ first ∷ outer → open_constructs (with_ended constructs) ≡ outer
ended-open constructs first outer is = ap (λ (around : List Construct). open_constructs (without_innermost around constructs)) is

module _ (spot : Spot) (which : Directive) (critical : ℕ) (inside acts : List Act) (nodes : List Position) (informs : Informs inside) (inner : Inner spot acts nodes) where
  abbrev pub entered : Here → Here
  entered here = after here (Enter spot which critical)

  abbrev pub begun_first : Here → Construct
  begun_first here = begun_construct spot which critical (length here.names.all)

  pub informed : (here : Here) → Informed (entered here) (after_all (entered here) inside) (begun_first here)
  unfolding after
  informed here = informs.informs (entered here) (begun_first here) refl

  pub begins : (here : Here) → IsReady false here → IsBegun spot (after_all (entered here) inside) (informed here).now
  unfolding after
  begins here ready =
      let it = informed here in
      let names : (after_all (entered here) inside).names ≡ here.names = it.names in
      let around : (after_all (entered here) inside).constructs.around ≡ around_here here = it.around in
      record {
        newest = it.newest;
        at = it.at;
        loop = it.loop;
        names = subst IsSound (sym names) ready.names;
        loops = subst (λ (names : Declarations). LoopsBelow (length names.all) (after_all (entered here) inside).constructs.around) (sym names)
            (subst (λ (around : List Construct). LoopsBelow (length here.names.all) around) (sym around) ready.loops);
      }

  seen : (here : Here) (at : Spot) → InnerResult (after_all (entered here) inside) nodes at → Result here nodes at
  unfolding after
  seen here at result =
      let it = informed here in
      let names : (after_all (entered here) inside).names ≡ here.names = it.names in
      let around : (after_all (entered here) inside).constructs.around ≡ around_here here = it.around in
      subst (λ (names : Declarations). OwnOdd names.visible nodes at ⊎ Spoiled names.visible nodes at (around_here here)) names
      (subst (λ (around : List Construct). OwnOdd (after_all (entered here) inside).names.visible nodes at ⊎ Spoiled (after_all (entered here) inside).names.visible nodes at around) around result)

  unseen : (here : Here) (at : Spot) → Result here nodes at → InnerResult (after_all (entered here) inside) nodes at
  unfolding after
  unseen here at result =
      let it = informed here in
      let names : (after_all (entered here) inside).names ≡ here.names = it.names in
      let around : (after_all (entered here) inside).constructs.around ≡ around_here here = it.around in
      subst (λ (around : List Construct). OwnOdd (after_all (entered here) inside).names.visible nodes at ⊎ Spoiled (after_all (entered here) inside).names.visible nodes at around) (sym around)
      (subst (λ (names : Declarations). OwnOdd names.visible nodes at ⊎ Spoiled names.visible nodes at (around_here here)) (sym names) result)

  -- behind the clauses, and behind what stands inside
  abbrev pub told_all : Here → Here
  told_all here = after_all (entered here) inside

  abbrev pub left : Here → Here
  left here = after (after_all (told_all here) acts) Leave

  after-construct : (here : Here) → after_all here (Enter spot which critical ∷ inside ++ (acts ++ Leave ∷ [])) ≡ left here
  unfolding after_all
  after-construct here = after-both (entered here) inside (acts ++ Leave ∷ []) ∙ after-both (told_all here) acts (Leave ∷ [])

  left-met : (here : Here) → IsReady false here → Met here (left here) []
  unfolding after
  left-met here ready =
      let it = informed here in
      let met = inner.meets (told_all here) it.now (begins here ready) in
      let names : (told_all here).names ≡ here.names = it.names in
      record {
        names = subst (λ (old : Declarations). Names old (after_all (told_all here) acts).names []) names met.names;
        around = ended-open (after_all (told_all here) acts).constructs met.construct (told_all here).constructs.around met.around ∙ it.around;
      }

  pub construct-means : Means false (Enter spot which critical ∷ inside ++ (acts ++ Leave ∷ [])) [] nodes
  unfolding after_all
  construct-means = record {
    meets = λ here ready. subst (λ (new : Here). Met here new []) (sym (after-construct here)) (left-met here ready);
    tells = λ here ready at breaks. elim breaks [
      | inl broken ↦ absurd (not-among at broken)
      | inr later ↦ elim (breaks-either bad_loops at (entered here) inside (acts ++ Leave ∷ []) later) [
        | inl clauses ↦ absurd (informs.right (entered here) at clauses)
        | inr behind ↦ elim (breaks-either bad_loops at (told_all here) acts (Leave ∷ []) behind) [
          | inl within ↦ seen here at (inner.tells (told_all here) (informed here).now (begins here ready) at within)
          | inr end ↦ elim end [ inl broken ↦ absurd (not-among at broken) | inr never ↦ absurd never ]
        ]
      ]
    ];
    breaks = λ here ready at result.
        inr (breaks-right bad_loops at (entered here) inside (acts ++ Leave ∷ [])
        (breaks-left bad_loops at (told_all here) acts (Leave ∷ [])
        (inner.breaks (told_all here) (informed here).now (begins here ready) at (unseen here at result))));
  }

-- what stands inside is no loop that the construct shares out
module _ (spot : Spot) (acts : List Act) (nodes : List Position) (it : Means false acts [] nodes) where
  pub begun-ready : (here : Here) (construct : Construct) → IsBegun spot here construct → IsReady false here
  begun-ready here construct begun = record {
    names = begun.names;
    loops = subst (λ (around : List Construct). LoopsBelow (length here.names.all) around) (sym (open-begun here.constructs construct begun.newest))
        (subst (IsBelow (length here.names.all)) (sym begun.loop) tt, begun.loops);
    outside = λ is. absurd (true≢false (sym is));
  }

  pub begun-met : (here : Here) (construct : Construct) → IsBegun spot here construct → InnerMet here (after_all here acts)
  begun-met here construct begun =
      let met = it.meets here (begun-ready here construct begun) in
      record { names = met.names; construct = construct; around = met.around ∙ open-begun here.constructs construct begun.newest }

  pub without-newest : (here : Here) (construct : Construct) → IsBegun spot here construct → (nodes : List Position) (at : Spot) → Result here nodes at → InnerResult here nodes at
  without-newest here construct begun nodes at (inl odd) = inl odd
  without-newest here construct begun nodes at (inr spoiled) =
      elim (subst (λ (around : List Construct). Spoiled here.names.visible nodes at around) (open-begun here.constructs construct begun.newest) spoiled) [
        | inl this ↦ absurd (let wrong : None ≡ Some this.slot = sym begun.loop ∙ this.loop in cc)
        | inr others ↦ inr others
      ]

  pub with-newest : (here : Here) (construct : Construct) → IsBegun spot here construct → (nodes : List Position) (at : Spot) → InnerResult here nodes at → Result here nodes at
  with-newest here construct begun nodes at (inl odd) = inl odd
  with-newest here construct begun nodes at (inr spoiled) =
      inr (subst (λ (around : List Construct). Spoiled here.names.visible nodes at around) (sym (open-begun here.constructs construct begun.newest)) (inr spoiled))

  pub inner-plain : Inner spot acts nodes
  inner-plain = record {
    meets = begun-met;
    tells = λ here construct begun at breaks. without-newest here construct begun nodes at (it.tells here (begun-ready here construct begun) at breaks);
    breaks = λ here construct begun at result. it.breaks here (begun-ready here construct begun) at (with-newest here construct begun nodes at result);
  }

-- one more position that breaks nothing
pub inner-position : (spot : Spot) (acts : List Act) (nodes : List Position) (tree : Tree) → IsPlain tree → Inner spot acts nodes → Inner spot acts (record { node = tree; scope = [] } ∷ nodes)
inner-position spot acts nodes tree plain it = record {
  meets = it.meets;
  tells = λ here construct begun at breaks. elim (it.tells here construct begun at breaks) [
    | inl odd ↦ inl (inr odd)
    | inr spoiled ↦ inr (has-weaker (Spoils here.names.visible nodes at) (Spoils here.names.visible (me ∷ nodes) at)
        (λ construct one. record { at = one.at; slot = one.slot; loop = one.loop; assigns = inr one.assigns }) here.constructs.around spoiled)
  ];
  breaks = λ here construct begun at result. it.breaks here construct begun at (elim result [
    | inl odd ↦ elim odd [
      | inl this ↦ absurd (true≢false (sym this.shares ∙ plain.is_no_loop))
      | inr others ↦ inl others
    ]
    | inr spoiled ↦ inr (has-weaker (Spoils here.names.visible (me ∷ nodes) at) (Spoils here.names.visible nodes at)
        (λ construct one. record {
          at = one.at;
          slot = one.slot;
          loop = one.loop;
          assigns = elim one.assigns [
            | inl this ↦ absurd (let wrong : Some this.name ≡ None = sym this.assigns ∙ plain.assigns_none in cc)
            | inr others ↦ others
          ];
        }) here.constructs.around spoiled)
  ]);
}
  where
    me : Position
    me = record { node = tree; scope = [] }
