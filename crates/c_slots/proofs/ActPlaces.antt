-- A declaration's place tells its slot, and what is in scope was declared in scopes that are open.
use Rattle.std.specs.Prelude.{ℕ, ◌+◌, ◌-◌, ◌≤◌, ◌≡◌, ◌&&◌, nat_eq, nat_le, if◌then◌else◌, Bool, true, false, List, [], ◌∷◌, ◌++◌, length, Option, Some, None}
use Rattle.std.specs.Prelude.{sum_by, refl}
use Rattle.std.specs.List.{All}
use Rattle.std.proofs.Common.{arith, ap, ◌∙◌, subst, inl, inr}
use Rattle.std.proofs.lemmas.Bool.{cases_Bool}
use Rattle.std.proofs.lemmas.Bool.Decides.{nat_tests}
use Rattle.std.proofs.lemmas.List.Elements.{All-cons, All-nil}
use Rattle.std.proofs.lemmas.List.Sums.{sum_by-append, sum_by-cons}
use Rattle.c_tokens.specs.declared.token.Spot.{Spot}
use Rattle.c_syntax.specs.language.Numbered.{TreeView}
use Rattle.c_check.specs.declared.acts.act.Act.{Act}
use Rattle.c_check.specs.declared.acts.act.Act.TheVariants.{Open, Close, Begin, End, Declare, Use}
use Rattle.c_check.specs.declared.acts.act.Thing.{Thing}
use Rattle.c_check.specs.declared.scopes.declared.Declared.{Declared}
use Rattle.c_check.specs.declared.scopes.declared.Named.{Named}
use Rattle.c_check.specs.Checked.{acts_of, after_all, here_after}
use Rattle.c_check.specs.Declarations.{Declarations, find, still_in_scope}
use Rattle.c_check.specs.Faults.{is_same_spot}
use Rattle.c_check.specs.Here.{Here, after, before_all, used}
use Rattle.c_check.specs.Seen.{slot_at, slot_in}
use Rattle.c_model.proofs.ScopeActs.{after_both}
use Rattle.c_slots.specs.OwnPlaces.{HasOwnPlaces, one_if_same, placed_at}

-- places
pub same_spot_itself : (spot : Spot) → is_same_spot spot spot ≡ true
same_spot_itself spot =
    let line : nat_eq spot.line spot.line ≡ true = grind (arith, nat_tests) in
    let column : nat_eq spot.column spot.column ≡ true = grind (arith, nat_tests) in
    both (nat_eq spot.line spot.line) (nat_eq spot.column spot.column) line column
  where
    both : (one other : Bool) → one ≡ true → other ≡ true → (one && other) ≡ true
    both true other is also = also
    both false other is also = absurd (cc)

pub at_itself : (spot : Spot) → one_if_same spot spot ≡ 1
at_itself spot = ap (λ (same : Bool). if same then 1 else 0) (same_spot_itself spot)

pub apart : (place spot : Spot) → one_if_same place spot ≡ 0 → is_same_spot spot place ≡ false
apart place spot none = differs (is_same_spot spot place) none
  where
    differs : (same : Bool) → ◌≡◌ {A = ℕ} (if same then 1 else 0) 0 → same ≡ false
    differs true is = absurd (omega (arith, is))
    differs false is = refl

-- what stands at a place among acts one after another
pub none_first : (place : Spot) (act : Act) (acts : List Act) → sum_by (placed_at place) (act ∷ acts) ≡ 0 → placed_at place act ≡ 0
none_first place act acts none = omega (arith, none, sum_by-cons (placed_at place) act acts)

pub none_behind : (place : Spot) (act : Act) (acts : List Act) → sum_by (placed_at place) (act ∷ acts) ≡ 0 → sum_by (placed_at place) acts ≡ 0
none_behind place act acts none = omega (arith, none, sum_by-cons (placed_at place) act acts)

-- around an act that stands at a place no other one does
pub record IsAlone (place : Spot) (before behind : List Act) : Type 0 where
  pub none_before : sum_by (placed_at place) before ≡ 0
  pub none_behind : sum_by (placed_at place) behind ≡ 0

pub is_alone : (program : TreeView) → HasOwnPlaces program → (place : Spot) (before behind : List Act) (act : Act) → placed_at place act ≡ 1
    → acts_of program ≡ before ++ act ∷ behind → IsAlone place before behind
is_alone program own place before behind act here are =
    let few : sum_by (placed_at place) (before ++ act ∷ behind) ≤ 1 = subst (λ (acts : List Act). sum_by (placed_at place) acts ≤ 1) are (own place) in
    let one = sum_by-append (placed_at place) before (act ∷ behind) in
    let two = sum_by-cons (placed_at place) act behind in
    record { none_before = omega (arith, few, one, two, here); none_behind = omega (arith, few, one, two, here) }

-- the slots of the names that stood so far
none-push : (named : List Named) (place : Spot) (one : Named) → slot_in named place ≡ None → is_same_spot one.spot place ≡ false
    → slot_in (named ++ one ∷ []) place ≡ None
unfolding slot_in
none-push [] place one none differs = rw differs refl
none-push (first ∷ named) place one none differs =
    elim (cases_Bool (is_same_spot first.spot place)) [
      | inl same ↦ absurd (let wrong : Some first.slot ≡ None = rw same at none in cc)
      | inr other ↦ rw other (none-push named place one (rw other at none) differs)
    ]

found-push : (named : List Named) (place : Spot) (one : Named) → slot_in named place ≡ None → is_same_spot one.spot place ≡ true
    → slot_in (named ++ one ∷ []) place ≡ Some one.slot
unfolding slot_in
found-push [] place one none same = rw same refl
found-push (first ∷ named) place one none is =
    elim (cases_Bool (is_same_spot first.spot place)) [
      | inl same ↦ absurd (let wrong : Some first.slot ≡ None = rw same at none in cc)
      | inr other ↦ rw other (found-push named place one (rw other at none) is)
    ]

still-found : (named more : List Named) (place : Spot) (slot : ℕ) → slot_in named place ≡ Some slot → slot_in (named ++ more) place ≡ Some slot
unfolding slot_in
still-found [] more place slot found = absurd (cc)
still-found (first ∷ named) more place slot found =
    elim (cases_Bool (is_same_spot first.spot place)) [
      | inl same ↦ rw same (rw same at found)
      | inr other ↦ rw other (still-found named more place slot (rw other at found))
    ]

module _ (place : Spot) where
  used-none : (here : Here) (spot : Spot) (found : Option Declared) → slot_in here.named place ≡ None → one_if_same place spot ≡ 0
      → slot_in (used here spot found).named place ≡ None
  used-none here spot None none other = none
  used-none here spot (Some it) none other = none-push here.named place (record { spot = spot; slot = it.slot }) none (apart place spot other)

  one-none : (here : Here) (act : Act) → slot_in here.named place ≡ None → placed_at place act ≡ 0 → slot_in (after here act).named place ≡ None
  unfolding after
  one-none here (Begin name spot gives parameters) none other =
      none-push here.named place (record { spot = spot; slot = length here.names.all }) none (apart place spot other)
  one-none here (Declare name spot what) none other =
      none-push here.named place (record { spot = spot; slot = length here.names.all }) none (apart place spot other)
  one-none here (Use name spot usage) none other = used-none here spot (find here.names.visible name) none other
  one-none here act none other = none

  all-none : (here : Here) (acts : List Act) → slot_in here.named place ≡ None → sum_by (placed_at place) acts ≡ 0
      → slot_in (after_all here acts).named place ≡ None
  unfolding after_all
  all-none here [] none other = none
  all-none here (act ∷ acts) none other =
      all-none (after here act) acts (one-none here act none (none_first place act acts other)) (none_behind place act acts other)

  used-found : (here : Here) (spot : Spot) (found : Option Declared) (slot : ℕ) → slot_in here.named place ≡ Some slot
      → slot_in (used here spot found).named place ≡ Some slot
  used-found here spot None slot is = is
  used-found here spot (Some it) slot is = still-found here.named _ place slot is

  one-found : (here : Here) (act : Act) (slot : ℕ) → slot_in here.named place ≡ Some slot → slot_in (after here act).named place ≡ Some slot
  unfolding after
  one-found here (Begin name spot gives parameters) slot is = still-found here.named _ place slot is
  one-found here (Declare name spot what) slot is = still-found here.named _ place slot is
  one-found here (Use name spot usage) slot is = used-found here spot (find here.names.visible name) slot is
  one-found here act slot is = is

  all-found : (here : Here) (acts : List Act) (slot : ℕ) → slot_in here.named place ≡ Some slot → slot_in (after_all here acts).named place ≡ Some slot
  unfolding after_all
  all-found here [] slot is = is
  all-found here (act ∷ acts) slot is = all-found (after here act) acts slot (one-found here act slot is)

-- a declaration's place tells its slot
pub declared_slot : (program : TreeView) → HasOwnPlaces program → (before behind : List Act) (name : ℕ) (spot : Spot) (what : Thing)
    → acts_of program ≡ before ++ Declare name spot what ∷ behind
    → slot_at program spot ≡ Some (length (here_after program before).names.all)
unfolding after_all after slot_in
declared_slot program own before behind name spot what are =
    let alone = is_alone program own spot before behind (Declare name spot what) (at_itself spot) are in
    let here = here_after program before in
    let none : slot_in here.named spot ≡ None = all-none spot (before_all program.main) before refl alone.none_before in
    let one : slot_in (after here (Declare name spot what)).named spot ≡ Some (length here.names.all) =
    found-push here.named spot (record { spot = spot; slot = length here.names.all }) none (same_spot_itself spot)
    in
    let rest : slot_in (after_all (after here (Declare name spot what)) behind).named spot ≡ Some (length here.names.all) =
    all-found spot (after here (Declare name spot what)) behind (length here.names.all) one
    in
    ap (λ (acts : List Act). slot_in (after_all (before_all program.main) acts).named spot) are
    ∙ ap (λ (now : Here). slot_in now.named spot) (after_both (before_all program.main) before (Declare name spot what ∷ behind))
    ∙ rest

-- no declaration in scope is of a scope that has ended
abbrev pub IsBelow : Declarations → Type 0
IsBelow names = All (λ (it : Declared). it.level ≤ names.level) names.visible

-- nor is a newer one of a scope around that of an older one
unfoldable Descend : ℕ → List Declared → Type 0
Descend level [] = Unit {0}
Descend level (first ∷ visible) = (first.level ≤ level) × Descend first.level visible

higher : (level more : ℕ) (visible : List Declared) → level ≤ more → Descend level visible → Descend more visible
unfolding Descend
higher level more [] less down = tt
higher level more (first ∷ visible) less down = (omega (arith, less, down.0), down.1)

all-lower : (level : ℕ) (visible : List Declared) → Descend level visible → All (λ (it : Declared). it.level ≤ level) visible
unfolding Descend
all-lower level [] down = All-nil (λ (it : Declared). it.level ≤ level)
all-lower level (first ∷ visible) down =
    All-cons (λ (it : Declared). it.level ≤ level) first visible down.0 (all-lower level visible (higher first.level level visible down.0 down.1))

still-down : (level : ℕ) (visible : List Declared) → Descend level visible → Descend (level - 1) (still_in_scope level visible)
unfolding still_in_scope Descend
still-down level [] down = tt
still-down level (first ∷ visible) down = chosen (nat_le level first.level) refl (still-down level visible (higher first.level level visible down.0 down.1))
  where
    stays : (level other : ℕ) → nat_le level other ≡ false → other ≤ level - 1
    stays level other is = grind (arith, nat_tests)

    chosen : (ends : Bool) → nat_le level first.level ≡ ends → Descend (level - 1) (still_in_scope level visible)
        → Descend (level - 1) (if ends then still_in_scope level visible else first ∷ visible)
    chosen true is rest = rest
    chosen false is rest = (stays level first.level is, down.1)

used-down : (here : Here) (spot : Spot) (found : Option Declared) → Descend here.names.level here.names.visible
    → Descend (used here spot found).names.level (used here spot found).names.visible
used-down here spot None down = down
used-down here spot (Some it) down = down

one-down : (here : Here) (act : Act) → Descend here.names.level here.names.visible → Descend (after here act).names.level (after here act).names.visible
unfolding after Descend
one-down here Open down = higher here.names.level (here.names.level + 1) here.names.visible (omega arith) down
one-down here Close down = still-down here.names.level here.names.visible down
one-down here (Begin name spot gives parameters) down = (omega arith, down)
one-down here End down = still-down here.names.level here.names.visible down
one-down here (Declare name spot what) down = (omega arith, down)
one-down here (Use name spot usage) down = used-down here spot (find here.names.visible name) down
one-down here act down = down

all-down : (here : Here) (acts : List Act) → Descend here.names.level here.names.visible
    → Descend (after_all here acts).names.level (after_all here acts).names.visible
unfolding after_all
all-down here [] down = down
all-down here (act ∷ acts) down = all-down (after here act) acts (one-down here act down)

pub is_below : (program : TreeView) (before : List Act) → IsBelow (here_after program before).names
unfolding Descend
is_below program before =
    all-lower (here_after program before).names.level (here_after program before).names.visible (all-down (before_all program.main) before tt)

-- main stays main
used-main : (here : Here) (spot : Spot) (found : Option Declared) → (used here spot found).main ≡ here.main
used-main here spot None = refl
used-main here spot (Some it) = refl

one-main : (here : Here) (act : Act) → (after here act).main ≡ here.main
unfolding after
one-main here (Use name spot usage) = used-main here spot (find here.names.visible name)
one-main here other = refl

pub main_same : (here : Here) (some : List Act) → (after_all here some).main ≡ here.main
unfolding after_all
main_same here [] = refl
main_same here (act ∷ some) = main_same (after here act) some ∙ one-main here act
