-- Which declarations the names of a part of a tree mean, as the checker finds them and in the tree's words.
use Rattle.std.specs.Prelude.{ℕ, ◌≡◌, ◌<◌, true, List, [], ◌∷◌, ◌++◌, length, Option, Some, None, refl}
use Rattle.std.proofs.Common.{sym, ap, subst, ◌∙◌, inl, inr, true≢false}
use Rattle.std.specs.List.{IsAmong}
use Rattle.c_tokens.specs.declared.token.Spot.{Spot}
use Rattle.c_syntax.specs.language.Tree.{Tree, children_of, kind_of}
use Rattle.c_check.specs.declared.acts.act.Act.{Act}
use Rattle.c_check.specs.declared.acts.act.Act.TheVariants.{Loop, Use}
use Rattle.c_check.specs.declared.scopes.declared.Declared.{Declared}
use Rattle.c_check.specs.Declarations.{Declarations, find}
use Rattle.c_check.specs.Here.{Here, after}
use Rattle.c_check.specs.Loops.{child_at, loop_name}
use Rattle.c_check.specs.Statements.{statement_of}
use Rattle.check_laws.specs.Scopes.{Declaration, Position, behind, declared, meaning, under}
use Rattle.check_laws.specs.LoopForm.{is_loop_construct}
use Rattle.check_laws.specs.ListedNames.{Used, used}
use Rattle.check_laws.proofs.Broken.{BreaksIn}
use Rattle.check_laws.proofs.Does.{AreUses, IsPlain, IsUse, still-no-loop}
use Rattle.check_laws.proofs.Has.{Has, among-case, among-first, has-map, has-mapped, has-weaker}
use Rattle.check_laws.proofs.Means.{not-among, use-silent}
use Rattle.check_laws.proofs.Standing.{Names}
use Rattle.check_laws.proofs.Unnamed.{Unnaming}
use Rattle.check_laws.proofs.Visible.{HasSlot, find-older, meaning-both, meaning-left, meaning-right, older, scope_of}

-- a name is used at a place, or is that of the variable of a loop that is shared out
pub data Purpose : Type 0 where
  using : Spot → Purpose
  looping : Purpose

pub record Mentioned : Type 0 where
  pub purpose : Purpose
  pub what : Declared

abbrev pub mentioned : Purpose → Option Declared → List Mentioned
mentioned purpose None = []
mentioned purpose (Some what) = record { purpose = purpose; what = what } ∷ []

abbrev pub mentions : Here → Act → List Mentioned
mentions here (Use name spot usage) = mentioned (Purpose.using spot) (find here.names.visible name)
mentions here (Loop name) = mentioned Purpose.looping (find here.names.visible name)
mentions here other = []

pub mentions-calm : Unnaming mentions
mentions-calm here (Use name spot usage) is = absurd (true≢false is)
mentions-calm here (Loop name) is = absurd (true≢false is)
mentions-calm here other is = refl

pub mentioned-case : (purpose : Purpose) (found : Option Declared) (one : Mentioned) → IsAmong (mentioned purpose found) one → (one.purpose ≡ purpose) × (found ≡ Some one.what)
mentioned-case purpose None one among = absurd (not-among one among)
mentioned-case purpose (Some what) one among =
    elim (among-case (record { purpose = purpose; what = what }) [] one among) [
      | inl same ↦ (ap (λ (one : Mentioned). one.purpose) same, ap (λ (one : Mentioned). Some one.what) (sym same))
      | inr none ↦ absurd (not-among one none)
    ]

pub case-mentioned : (purpose : Purpose) (found : Option Declared) (what : Declared) → found ≡ Some what → IsAmong (mentioned purpose found) (record { purpose = purpose; what = what })
case-mentioned purpose found what is =
    subst (λ (found : Option Declared). IsAmong (mentioned purpose found) (record { purpose = purpose; what = what })) (sym is) (among-first (record { purpose = purpose; what = what }) [])

-- in the tree's words: a node names something itself
abbrev pub IsUsedAt : ℕ → Spot → Used → Type 0
IsUsedAt name spot one = (one.name ≡ name) × (one.spot ≡ spot)

pub record SharesLoop (name : ℕ) (tree : Tree) : Type 0 where
  pub shares : is_loop_construct (kind_of tree) ≡ true
  pub variable : loop_name (statement_of (children_of tree)) ≡ Some name
  pub undeclared : meaning (declared (child_at (statement_of (children_of tree)) 0)) name ≡ None

abbrev pub NamedBy : Purpose → ℕ → Tree → Type 0
NamedBy (Purpose.using spot) name tree = Has (IsUsedAt name spot) (used tree)
NamedBy Purpose.looping name tree = SharesLoop name tree

pub record IsNamed (purpose : Purpose) (name : ℕ) (position : Position) : Type 0 where
  pub named : NamedBy purpose name position.node
  pub hidden : meaning position.scope name ≡ None

-- a position names what is found where these are visible
pub record Mentions (visible : List Declared) (one : Mentioned) (position : Position) : Type 0 where
  pub name : ℕ
  pub is : IsNamed one.purpose name position
  pub found : find visible name ≡ Some one.what

pub plain-names-none : (tree : Tree) → IsPlain tree → (purpose : Purpose) (name : ℕ) → NamedBy purpose name tree → ⊥
plain-names-none tree plain (Purpose.using spot) name named = let none : Has (IsUsedAt name spot) [] = subst (Has (IsUsedAt name spot)) plain.uses_none named in none
plain-names-none tree plain Purpose.looping name named = true≢false (sym named.shares ∙ still-no-loop tree plain.still)

-- the positions behind declarations are seen from before them
module _ (old new : Declarations) (made : List Declaration) (names : Names old new made) (one : Mentioned) where
  mention-back : one.what.slot < length old.all → (position : Position) → Mentions new.visible one position → Mentions old.visible one (under made position)
  mention-back less position it =
      let found : find (names.added ++ old.visible) it.name ≡ Some one.what = subst (λ (visible : List Declared). find visible it.name ≡ Some one.what) names.visible it.found in
      let slot : HasSlot (find (names.added ++ old.visible) it.name) one.what.slot = subst (λ (found : Option Declared). HasSlot found one.what.slot) (sym found) refl in
      let from = older (length old.all) old.level names.added old.visible it.name one.what.slot names.are_new less slot in
      record {
        name = it.name;
        is = record {
          named = it.is.named;
          hidden = meaning-both position.scope made it.name it.is.hidden (subst (λ (scope : List Declaration). meaning scope it.name ≡ None) names.tells from.hidden);
        };
        found = sym (find-older names.added old.visible it.name from.hidden) ∙ found;
      }

  mention-on : (position : Position) → Mentions old.visible one (under made position) → Mentions new.visible one position
  mention-on position it =
      let hidden : meaning (scope_of names.added) it.name ≡ None = subst (λ (scope : List Declaration). meaning scope it.name ≡ None) (sym names.tells) (meaning-right position.scope made it.name it.is.hidden) in
      record {
        name = it.name;
        is = record { named = it.is.named; hidden = meaning-left position.scope made it.name it.is.hidden };
        found = subst (λ (visible : List Declared). find visible it.name ≡ Some one.what) (sym names.visible) (find-older names.added old.visible it.name hidden ∙ it.found);
      }

  pub mentions-back : (nodes : List Position) → one.what.slot < length old.all → Has (Mentions new.visible one) nodes → Has (Mentions old.visible one) (behind made nodes)
  mentions-back nodes less has =
      has-map (under made) (Mentions old.visible one) nodes (has-weaker (Mentions new.visible one) (λ position. Mentions old.visible one (under made position)) (mention-back less) nodes has)

  pub mentions-on : (nodes : List Position) → Has (Mentions old.visible one) (behind made nodes) → Has (Mentions new.visible one) nodes
  mentions-on nodes has =
      has-weaker (λ position. Mentions old.visible one (under made position)) (Mentions new.visible one) mention-on nodes (has-mapped (under made) (Mentions old.visible one) nodes has)

-- the uses of some names
pub record UsesOne (visible : List Declared) (one : Mentioned) (some : List Used) : Type 0 where
  pub name : ℕ
  pub spot : Spot
  pub purpose : one.purpose ≡ Purpose.using spot
  pub has : Has (IsUsedAt name spot) some
  pub found : find visible name ≡ Some one.what

use-same : (here : Here) (act : Act) (one : Used) → IsUse act one → (after here act).names ≡ here.names
use-same here (Use name spot usage) one is = (use-silent name spot usage).names here
use-same here other one is = absurd is

use-tells : (here : Here) (act : Act) (first : Used) (rest : List Used) → IsUse act first → (one : Mentioned) → IsAmong (mentions here act) one → UsesOne here.names.visible one (first ∷ rest)
use-tells here (Use name spot usage) first rest is one among =
    let both = mentioned-case (Purpose.using spot) (find here.names.visible name) one among in
    record { name = name; spot = spot; purpose = both.0; has = inl (sym is.0, sym is.1); found = both.1 }
use-tells here other first rest is one among = absurd is

pub uses-tell : (here : Here) (acts : List Act) (some : List Used) → AreUses acts some → (one : Mentioned) → BreaksIn mentions here acts one → UsesOne here.names.visible one some
uses-tell here [] some are one breaks = absurd breaks
uses-tell here (act ∷ acts) [] are one breaks = absurd are
uses-tell here (act ∷ acts) (first ∷ some) are one (inl now) = use-tells here act first some are.0 one now
uses-tell here (act ∷ acts) (first ∷ some) are one (inr later) =
    let more = uses-tell (after here act) acts some are.1 one later in
    record {
      name = more.name;
      spot = more.spot;
      purpose = more.purpose;
      has = inr more.has;
      found = subst (λ (names : Declarations). find names.visible more.name ≡ Some one.what) (use-same here act first are.0) more.found;
    }

use-breaks : (here : Here) (act : Act) (first : Used) → IsUse act first → (name : ℕ) (spot : Spot) (what : Declared) → IsUsedAt name spot first → find here.names.visible name ≡ Some what
    → IsAmong (mentions here act) (record { purpose = Purpose.using spot; what = what })
use-breaks here (Use other place usage) first is name spot what there found =
    let named : name ≡ other = sym there.0 ∙ sym is.0 in
    let same : spot ≡ place = sym there.1 ∙ sym is.1 in
    subst (λ (spot : Spot). IsAmong (mentions here (Use other place usage)) (record { purpose = Purpose.using spot; what = what })) (sym same)
    (case-mentioned (Purpose.using place) (find here.names.visible other) what (subst (λ (name : ℕ). find here.names.visible name ≡ Some what) named found))
use-breaks here other first is name spot what there found = absurd is

pub uses-break : (here : Here) (acts : List Act) (some : List Used) → AreUses acts some → (name : ℕ) (spot : Spot) (what : Declared) → Has (IsUsedAt name spot) some → find here.names.visible name ≡ Some what
    → BreaksIn mentions here acts (record { purpose = Purpose.using spot; what = what })
uses-break here [] [] are name spot what has found = absurd has
uses-break here [] (first ∷ some) are name spot what has found = absurd are
uses-break here (act ∷ acts) [] are name spot what has found = absurd are
uses-break here (act ∷ acts) (first ∷ some) are name spot what (inl this) found = inl (use-breaks here act first are.0 name spot what this found)
uses-break here (act ∷ acts) (first ∷ some) are name spot what (inr there) found =
    inr (uses-break (after here act) acts some are.1 name spot what there
    (subst (λ (names : Declarations). find names.visible name ≡ Some what) (sym (use-same here act first are.0)) found))
