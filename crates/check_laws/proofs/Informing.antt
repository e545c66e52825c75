-- What the clauses of a construct say of it changes neither its place nor its loop, nor what is in scope.
use Rattle.std.specs.Prelude.{ℕ, ◌≡◌, true, false, List, [], ◌∷◌, ◌++◌, Option, Some, None, option_map, refl}
use Rattle.std.proofs.Common.{sym, ap, subst, ◌∙◌, inl, inr}
use Rattle.c_tokens.specs.declared.token.Spot.{Spot}
use Rattle.c_syntax.specs.language.Tree.{Children}
use Rattle.c_check.specs.declared.acts.act.Act.{Act}
use Rattle.c_check.specs.declared.acts.act.Act.TheVariants.{Clause, List as Listing}
use Rattle.c_check.specs.declared.acts.act.DataClause.{DataClause}
use Rattle.c_check.specs.declared.acts.act.Single.{Single}
use Rattle.c_check.specs.declared.scopes.declared.Declared.{Declared}
use Rattle.c_check.specs.Checked.{after_all}
use Rattle.c_check.specs.Clauses.{inside_acts}
use Rattle.c_check.specs.Constructs.{Construct, with_single}
use Rattle.c_check.specs.Declarations.{find}
use Rattle.c_check.specs.Here.{Here, after, listed}
use Rattle.c_check.specs.Rules.{bad_loops}
use Rattle.check_laws.proofs.Broken.{BreaksIn, after-both, breaks-either}
use Rattle.check_laws.proofs.Inside.{AreInforming, inside-informing, is_informing}
use Rattle.check_laws.proofs.Means.{not-among}

-- the construct that began last, before and behind
pub record Informed (old new : Here) (construct : Construct) : Type 0 where
  pub names : new.names ≡ old.names
  pub now : Construct
  pub newest : new.constructs.newest ≡ Some now
  pub at : now.head.spot ≡ construct.head.spot
  pub loop : now.loop ≡ construct.loop
  pub around : new.constructs.around ≡ old.constructs.around

pub record Informs (acts : List Act) : Type 0 where
  pub informs : (here : Here) (construct : Construct) → here.constructs.newest ≡ Some construct → Informed here (after_all here acts) construct
  pub right : (here : Here) (spot : Spot) → BreaksIn bad_loops here acts spot → ⊥

informs-nothing : Informs []
unfolding after_all
informs-nothing = record {
  informs = λ here construct newest. record { names = refl; now = construct; newest = newest; at = refl; loop = refl; around = refl };
  right = λ here spot breaks. breaks;
}

informed-both : (one two three : Here) (construct : Construct) (first : Informed one two construct) → Informed two three first.now → Informed one three construct
informed-both one two three construct first second = record {
  names = second.names ∙ first.names;
  now = second.now;
  newest = second.newest;
  at = second.at ∙ first.at;
  loop = second.loop ∙ first.loop;
  around = second.around ∙ first.around;
}

informs-both : (some more : List Act) → Informs some → Informs more → Informs (some ++ more)
informs-both some more first second = record {
  informs = λ here construct newest.
      let one = first.informs here construct newest in
      subst (λ (new : Here). Informed here new construct) (sym (after-both here some more))
      (informed-both here (after_all here some) (after_all (after_all here some) more) construct one (second.informs (after_all here some) one.now one.newest));
  right = λ here spot breaks. elim (breaks-either bad_loops spot here some more breaks) [
    | inl left ↦ first.right here spot left
    | inr right ↦ second.right (after_all here some) spot right
  ];
}

clause-informs : (one : Single) → Informs (Clause one ∷ [])
unfolding after_all after
clause-informs one = record {
  informs = λ here construct newest. record {
    names = refl;
    now = record construct { clauses = with_single one construct.clauses };
    newest = ap (λ (newest : Option Construct). option_map (λ (it : Construct). record it { clauses = with_single one it.clauses }) newest) newest;
    at = refl;
    loop = refl;
    around = refl;
  };
  right = λ here spot breaks. elim breaks [ inl broken ↦ not-among spot broken | inr later ↦ later ];
}

listing-informed : (here : Here) (construct : Construct) (clause : DataClause) (found : Option Declared) → here.constructs.newest ≡ Some construct
    → Informed here (record here { constructs = listed here.constructs found clause }) construct
listing-informed here construct clause None newest = record { names = refl; now = construct; newest = newest; at = refl; loop = refl; around = refl }
listing-informed here construct clause (Some found) newest = record {
  names = refl;
  now = record construct { mentions = construct.mentions ++ record { slot = found.slot; clause = clause } ∷ [] };
  newest = ap (λ (newest : Option Construct). option_map (λ (it : Construct). record it { mentions = it.mentions ++ record { slot = found.slot; clause = clause } ∷ [] }) newest) newest;
  at = refl;
  loop = refl;
  around = refl;
}

listing-informs : (name : ℕ) (spot : Spot) (clause : DataClause) → Informs (Listing name spot clause ∷ [])
unfolding after_all after
listing-informs name spot clause = record {
  informs = λ here construct newest. listing-informed here construct clause (find here.names.visible name) newest;
  right = λ here at breaks. elim breaks [ inl broken ↦ not-among at broken | inr later ↦ later ];
}

act-informs : (act : Act) → is_informing act ≡ true → Informs (act ∷ [])
act-informs (Clause one) is = clause-informs one
act-informs (Listing name spot clause) is = listing-informs name spot clause
act-informs other is = absurd (let wrong : false ≡ true = is in cc)

all-inform : (acts : List Act) → AreInforming acts → Informs acts
all-inform [] are = informs-nothing
all-inform (act ∷ acts) are = informs-both (act ∷ []) acts (act-informs act are.0) (all-inform acts are.1)

pub inside-informs : (children : Children) → Informs (inside_acts children)
inside-informs children = all-inform (inside_acts children) (inside-informing children)
