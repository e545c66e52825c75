-- Where the checker stands before and after acts, and what of it a rule's breaches are seen by.
use Rattle.std.proofs.Common.{ℕ, ◌≡◌, ◌⊎◌, ◌<◌, ◌≤◌, Bool, true, List, [], ◌∷◌, ◌++◌, length, Option, Some, None, sym, ap, subst, ◌∙◌, inl, inr, arith, append_assoc}
use Rattle.std.proofs.lemmas.List.{map-append}
use Rattle.c_tokens.specs.declared.token.Spot.{Spot}
use Rattle.c_syntax.specs.language.Tree.{children_of, kind_of, spot_of}
use Rattle.c_check.specs.declared.scopes.declared.Declared.{Declared}
use Rattle.c_check.specs.Constructs.{Construct, open_constructs}
use Rattle.c_check.specs.Declarations.{Declarations, find}
use Rattle.c_check.specs.Here.{Here}
use Rattle.c_check.specs.Statements.{statement_of}
use Rattle.check_laws.specs.Scopes.{Declaration, Position, behind, meaning, under}
use Rattle.check_laws.specs.LoopForm.{IsLoopOfForm, assigned_variable, is_loop_construct}
use Rattle.check_laws.proofs.Has.{Has, has-map, has-mapped, has-weaker}
use Rattle.check_laws.proofs.Visible.{AreNew, HasSlot, IsSound, find-older, meaning-both, meaning-left, meaning-right, older, scope_of, told}

-- the loops of open constructs have slots below this one
abbrev pub IsBelow : ℕ → Option ℕ → Type 0
IsBelow bound None = Unit {0}
IsBelow bound (Some slot) = slot < bound

abbrev pub LoopsBelow : ℕ → List Construct → Type 0
LoopsBelow bound [] = Unit {0}
LoopsBelow bound (first ∷ rest) = IsBelow bound first.loop × LoopsBelow bound rest

below-more : (low high : ℕ) (loop : Option ℕ) → low ≤ high → IsBelow low loop → IsBelow high loop
below-more low high None more below = tt
below-more low high (Some slot) more below = omega (arith, more, below)

pub loops-more : (low high : ℕ) (around : List Construct) → low ≤ high → LoopsBelow low around → LoopsBelow high around
loops-more low high [] more below = tt
loops-more low high (first ∷ rest) more below = (below-more low high first.loop more below.0, loops-more low high rest more below.1)

abbrev pub around_here : Here → List Construct
around_here here = open_constructs here.constructs

-- where acts may begin; those of a file begin outside of constructs
pub record IsReady (file : Bool) (here : Here) : Type 0 where
  pub names : IsSound here.names
  pub loops : LoopsBelow (length here.names.all) (around_here here)
  pub outside : file ≡ true → around_here here ≡ []

-- the names in scope after acts that make these declarations
pub record Names (old new : Declarations) (made : List Declaration) : Type 0 where
  pub added : List Declared
  pub visible : new.visible ≡ added ++ old.visible
  pub tells : scope_of added ≡ made
  pub level : new.level ≡ old.level
  pub are_new : AreNew (length old.all) old.level added
  pub grows : length old.all ≤ length new.all
  pub sound : IsSound new

pub record Met (old new : Here) (made : List Declaration) : Type 0 where
  pub names : Names old.names new.names made
  pub around : around_here new ≡ around_here old

pub ready-after : (file : Bool) (old new : Here) (made : List Declaration) → IsReady file old → Met old new made → IsReady file new
ready-after file old new made ready met = record {
  names = met.names.sound;
  loops = subst (λ (around : List Construct). LoopsBelow (length new.names.all) around) (sym met.around)
      (loops-more (length old.names.all) (length new.names.all) (around_here old) met.names.grows ready.loops);
  outside = λ is. met.around ∙ ready.outside is;
}

pub scope-after : (old new : Declarations) (made : List Declaration) → Names old new made → scope_of new.visible ≡ made ++ scope_of old.visible
scope-after old new made names =
    ap scope_of names.visible ∙ map-append told names.added old.visible ∙ ap (λ (scope : List Declaration). scope ++ scope_of old.visible) names.tells

-- a position whose construct is a `for` construct there, and has no loop of the form
pub record IsOddAt (scope : List Declaration) (spot : Spot) (position : Position) : Type 0 where
  pub shares : is_loop_construct (kind_of position.node) ≡ true
  pub at : spot_of position.node ≡ spot
  pub odd : IsLoopOfForm (position.scope ++ scope) (statement_of (children_of position.node)) → ⊥

-- a position that assigns the variable with a slot from before
pub record Assigns (visible : List Declared) (slot : ℕ) (position : Position) : Type 0 where
  pub name : ℕ
  pub assigns : assigned_variable position.node ≡ Some name
  pub hidden : meaning position.scope name ≡ None
  pub found : HasSlot (find visible name) slot

-- a construct there has a loop whose variable a position assigns
pub record Spoils (visible : List Declared) (nodes : List Position) (spot : Spot) (construct : Construct) : Type 0 where
  pub at : construct.head.spot ≡ spot
  pub slot : ℕ
  pub loop : construct.loop ≡ Some slot
  pub assigns : Has (Assigns visible slot) nodes

abbrev pub OwnOdd : List Declared → List Position → Spot → Type 0
OwnOdd visible nodes spot = Has (IsOddAt (scope_of visible) spot) nodes

abbrev pub Spoiled : List Declared → List Position → Spot → List Construct → Type 0
Spoiled visible nodes spot around = Has (Spoils visible nodes spot) around

-- at a place stands an odd loop of these positions, or a construct around whose loop's variable they assign
abbrev pub Result : Here → List Position → Spot → Type 0
Result here nodes spot = OwnOdd here.names.visible nodes spot ⊎ Spoiled here.names.visible nodes spot (around_here here)

-- more positions
pub odd-map : (visible : List Declared) (some more : List Position) (spot : Spot) → ((P : Position → Type 0) → Has P some → Has P more) → OwnOdd visible some spot → OwnOdd visible more spot
odd-map visible some more spot each odd = each (IsOddAt (scope_of visible) spot) odd

pub spoiled-map : (visible : List Declared) (some more : List Position) (spot : Spot) (around : List Construct) → ((P : Position → Type 0) → Has P some → Has P more) → Spoiled visible some spot around → Spoiled visible more spot around
spoiled-map visible some more spot around each spoiled =
    has-weaker (Spoils visible some spot) (Spoils visible more spot)
    (λ construct it. record { at = it.at; slot = it.slot; loop = it.loop; assigns = each (Assigns visible it.slot) it.assigns }) around spoiled

pub result-map : (here : Here) (some more : List Position) (spot : Spot) → ((P : Position → Type 0) → Has P some → Has P more) → Result here some spot → Result here more spot
result-map here some more spot each (inl odd) = inl (odd-map here.names.visible some more spot each odd)
result-map here some more spot each (inr spoiled) = inr (spoiled-map here.names.visible some more spot (around_here here) each spoiled)

-- positions behind declarations are seen from before them
module _ (old new : Declarations) (made : List Declaration) (names : Names old new made) where
  seen : (scope : List Declaration) → (scope ++ made) ++ scope_of old.visible ≡ scope ++ scope_of new.visible
  seen scope = append_assoc scope made (scope_of old.visible) ∙ ap (λ (one : List Declaration). scope ++ one) (sym (scope-after old new made names))

  pub odd-back : (nodes : List Position) (spot : Spot) → OwnOdd new.visible nodes spot → OwnOdd old.visible (behind made nodes) spot
  odd-back nodes spot odd =
      has-map (under made) (IsOddAt (scope_of old.visible) spot) nodes
      (has-weaker (IsOddAt (scope_of new.visible) spot) (λ position. IsOddAt (scope_of old.visible) spot (under made position))
      (λ position it. record {
        shares = it.shares;
        at = it.at;
        odd = λ form. it.odd (subst (λ (scope : List Declaration). IsLoopOfForm scope (statement_of (children_of position.node))) (seen position.scope) form);
      }) nodes odd)

  pub odd-on : (nodes : List Position) (spot : Spot) → OwnOdd old.visible (behind made nodes) spot → OwnOdd new.visible nodes spot
  odd-on nodes spot odd =
      has-weaker (λ position. IsOddAt (scope_of old.visible) spot (under made position)) (IsOddAt (scope_of new.visible) spot)
      (λ position it. record {
        shares = it.shares;
        at = it.at;
        odd = λ form. it.odd (subst (λ (scope : List Declaration). IsLoopOfForm scope (statement_of (children_of position.node))) (sym (seen position.scope)) form);
      }) nodes (has-mapped (under made) (IsOddAt (scope_of old.visible) spot) nodes odd)

  assigns-back : (slot : ℕ) → slot < length old.all → (position : Position) → Assigns new.visible slot position → Assigns old.visible slot (under made position)
  assigns-back slot less position it =
      let found : HasSlot (find (names.added ++ old.visible) it.name) slot = subst (λ (visible : List Declared). HasSlot (find visible it.name) slot) names.visible it.found in
      let from = older (length old.all) old.level names.added old.visible it.name slot names.are_new less found in
      record {
        name = it.name;
        assigns = it.assigns;
        hidden = meaning-both position.scope made it.name it.hidden (subst (λ (scope : List Declaration). meaning scope it.name ≡ None) names.tells from.hidden);
        found = from.found;
      }

  assigns-on : (slot : ℕ) (position : Position) → Assigns old.visible slot (under made position) → Assigns new.visible slot position
  assigns-on slot position it =
      let hidden : meaning (scope_of names.added) it.name ≡ None = subst (λ (scope : List Declaration). meaning scope it.name ≡ None) (sym names.tells) (meaning-right position.scope made it.name it.hidden) in
      record {
        name = it.name;
        assigns = it.assigns;
        hidden = meaning-left position.scope made it.name it.hidden;
        found = subst (λ (visible : List Declared). HasSlot (find visible it.name) slot) (sym names.visible)
            (subst (λ (found : Option Declared). HasSlot found slot) (sym (find-older names.added old.visible it.name hidden)) it.found);
      }

  spoils-back : (nodes : List Position) (spot : Spot) (construct : Construct) → IsBelow (length old.all) construct.loop → Spoils new.visible nodes spot construct → Spoils old.visible (behind made nodes) spot construct
  spoils-back nodes spot construct below it =
      let less : it.slot < length old.all = subst (IsBelow (length old.all)) it.loop below in
      record {
        at = it.at;
        slot = it.slot;
        loop = it.loop;
        assigns = has-map (under made) (Assigns old.visible it.slot) nodes
            (has-weaker (Assigns new.visible it.slot) (λ position. Assigns old.visible it.slot (under made position)) (assigns-back it.slot less) nodes it.assigns);
      }

  pub spoiled-back : (nodes : List Position) (spot : Spot) (around : List Construct) → LoopsBelow (length old.all) around → Spoiled new.visible nodes spot around → Spoiled old.visible (behind made nodes) spot around
  spoiled-back nodes spot [] below spoiled = absurd spoiled
  spoiled-back nodes spot (first ∷ rest) below (inl here) = inl (spoils-back nodes spot first below.0 here)
  spoiled-back nodes spot (first ∷ rest) below (inr there) = inr (spoiled-back nodes spot rest below.1 there)

  pub spoiled-on : (nodes : List Position) (spot : Spot) (around : List Construct) → Spoiled old.visible (behind made nodes) spot around → Spoiled new.visible nodes spot around
  spoiled-on nodes spot around spoiled =
      has-weaker (Spoils old.visible (behind made nodes) spot) (Spoils new.visible nodes spot)
      (λ construct it. record {
        at = it.at;
        slot = it.slot;
        loop = it.loop;
        assigns = has-weaker (λ position. Assigns old.visible it.slot (under made position)) (Assigns new.visible it.slot) (assigns-on it.slot) nodes
            (has-mapped (under made) (Assigns old.visible it.slot) nodes it.assigns);
      }) around spoiled

pub result-back : (file : Bool) (old new : Here) (made : List Declaration) (nodes : List Position) (spot : Spot) → IsReady file old → Met old new made → Result new nodes spot → Result old (behind made nodes) spot
result-back file old new made nodes spot ready met (inl odd) = inl (odd-back old.names new.names made met.names nodes spot odd)
result-back file old new made nodes spot ready met (inr spoiled) =
    inr (spoiled-back old.names new.names made met.names nodes spot (around_here old) ready.loops
    (subst (λ (around : List Construct). Spoiled new.names.visible nodes spot around) met.around spoiled))

pub result-on : (old new : Here) (made : List Declaration) (nodes : List Position) (spot : Spot) → Met old new made → Result old (behind made nodes) spot → Result new nodes spot
result-on old new made nodes spot met (inl odd) = inl (odd-on old.names new.names made met.names nodes spot odd)
result-on old new made nodes spot met (inr spoiled) =
    inr (subst (λ (around : List Construct). Spoiled new.names.visible nodes spot around) (sym met.around)
    (spoiled-on old.names new.names made met.names nodes spot (around_here old) spoiled))
