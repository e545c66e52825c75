-- The declarations that the checker has in scope, and what they are in the tree's words.
use Rattle.std.proofs.Common.{ℕ, ◌≡◌, ◌+◌, ◌<◌, ◌≤◌, List, [], ◌∷◌, ◌++◌, map, length, Option, Some, None, nat_eq, refl, sym, ap, ◌∙◌, inl, inr, arith, append-nil}
use Rattle.std.specs.Prelude.{nat_le}
use Rattle.std.proofs.lemmas.Bool.{cases_Bool, eqb-true, leb-true, le-leb}
use Rattle.c_check.specs.declared.acts.act.Thing.{Thing}
use Rattle.c_check.specs.declared.acts.act.Thing.TheVariants as thing
use Rattle.c_check.specs.declared.scopes.declared.Declared.{Declared}
use Rattle.c_check.specs.Declarations.{Declarations, find, still_in_scope}
use Rattle.check_laws.specs.Scopes.{Declaration, Position, Sort, behind, meaning, under}

abbrev pub sort_of : Thing → Sort
sort_of thing.Int = Sort.variable
sort_of (thing.Array size) = Sort.array
sort_of thing.Lock = Sort.lock
sort_of (thing.Function returns parameters) = Sort.function

abbrev pub told : Declared → Declaration
told it = record { name = it.name; sort = sort_of it.thing }

abbrev pub scope_of : List Declared → List Declaration
scope_of visible = map told visible

-- each is of this level at most; their slots fall, below this one
abbrev pub Levels : ℕ → List Declared → Type 0
Levels level [] = Unit {0}
Levels level (first ∷ rest) = (first.level ≤ level) × Levels level rest

abbrev pub Falls : ℕ → List Declared → Type 0
Falls bound [] = Unit {0}
Falls bound (first ∷ rest) = (first.slot < bound) × Falls first.slot rest

pub record IsSound (names : Declarations) : Type 0 where
  pub levels : Levels names.level names.visible
  pub falls : Falls (length names.all) names.visible

-- declarations that were made in a scope of this level, with slots from this one on
abbrev pub AreNew : ℕ → ℕ → List Declared → Type 0
AreNew low level [] = Unit {0}
AreNew low level (first ∷ rest) = (low ≤ first.slot) × (first.level ≡ level) × AreNew low level rest

pub levels-more : (low high : ℕ) (visible : List Declared) → low ≤ high → Levels low visible → Levels high visible
levels-more low high [] more levels = tt
levels-more low high (first ∷ rest) more levels = (omega (arith, more, levels.0), levels-more low high rest more levels.1)

pub falls-more : (low high : ℕ) (visible : List Declared) → low ≤ high → Falls low visible → Falls high visible
falls-more low high [] more falls = tt
falls-more low high (first ∷ rest) more falls = (omega (arith, more, falls.0), falls.1)

pub levels-new : (low level : ℕ) (added visible : List Declared) → AreNew low level added → Levels level visible → Levels level (added ++ visible)
levels-new low level [] visible new levels = levels
levels-new low level (first ∷ added) visible new levels = (omega (arith, new.1), levels-new low level added visible new.2 levels)

pub new-both : (low more level : ℕ) (some other : List Declared) → low ≤ more → AreNew more level some → AreNew low level other → AreNew low level (some ++ other)
new-both low more level [] other less new also = also
new-both low more level (first ∷ some) other less new also = (omega (arith, less, new.0), new.1, new-both low more level some other less new.2 also)

-- a scope ends with what was declared in it
pub dropped : (low level : ℕ) (added visible : List Declared) → AreNew low (level + 1) added → Levels level visible → still_in_scope (level + 1) (added ++ visible) ≡ visible
unfolding still_in_scope
dropped low level [] [] new levels = refl
dropped low level [] (first ∷ visible) new levels =
    elim (cases_Bool (nat_le (level + 1) first.level)) [
      | inl over ↦ absurd (omega (arith, leb-true (level + 1) first.level over, levels.0))
      | inr under ↦ rw under refl
    ]
dropped low level (first ∷ added) visible new levels =
    rw (le-leb (level + 1) first.level (omega (arith, new.1))) (dropped low level added visible new.2 levels)

-- what a search finds
abbrev pub HasSlot : Option Declared → ℕ → Type 0
HasSlot None slot = ⊥
HasSlot (Some it) slot = it.slot ≡ slot

abbrev pub sort_found : Option Declared → Option Sort
sort_found None = None
sort_found (Some it) = Some (sort_of it.thing)

pub meaning-found : (visible : List Declared) (name : ℕ) → meaning (scope_of visible) name ≡ sort_found (find visible name)
unfolding meaning find
meaning-found [] name = refl
meaning-found (first ∷ rest) name =
    elim (cases_Bool (nat_eq first.name name)) [
      | inl same ↦ rw same refl
      | inr differs ↦ rw differs (meaning-found rest name)
    ]

pub meaning-left : (some more : List Declaration) (name : ℕ) → meaning (some ++ more) name ≡ None → meaning some name ≡ None
unfolding meaning
meaning-left [] more name none = refl
meaning-left (first ∷ some) more name none =
    elim (cases_Bool (nat_eq first.name name)) [
      | inl same ↦ absurd (let wrong : Some first.sort ≡ None = rw same at none in cc)
      | inr differs ↦ rw differs (meaning-left some more name (rw differs at none))
    ]

pub meaning-right : (some more : List Declaration) (name : ℕ) → meaning (some ++ more) name ≡ None → meaning more name ≡ None
unfolding meaning
meaning-right [] more name none = none
meaning-right (first ∷ some) more name none =
    elim (cases_Bool (nat_eq first.name name)) [
      | inl same ↦ absurd (let wrong : Some first.sort ≡ None = rw same at none in cc)
      | inr differs ↦ meaning-right some more name (rw differs at none)
    ]

pub meaning-both : (some more : List Declaration) (name : ℕ) → meaning some name ≡ None → meaning more name ≡ None → meaning (some ++ more) name ≡ None
unfolding meaning
meaning-both [] more name none also = also
meaning-both (first ∷ some) more name none also =
    elim (cases_Bool (nat_eq first.name name)) [
      | inl same ↦ absurd (let wrong : Some first.sort ≡ None = rw same at none in cc)
      | inr differs ↦ rw differs (meaning-both some more name (rw differs at none) also)
    ]

-- a slot from before is that of an older declaration, which nothing new hides
pub record IsOlder (added visible : List Declared) (name slot : ℕ) : Type 0 where
  pub hidden : meaning (scope_of added) name ≡ None
  pub found : HasSlot (find visible name) slot

pub older : (low level : ℕ) (added visible : List Declared) (name slot : ℕ) → AreNew low level added → slot < low → HasSlot (find (added ++ visible) name) slot → IsOlder added visible name slot
unfolding meaning find
older low level [] visible name slot new less found = record { hidden = refl; found = found }
older low level (first ∷ added) visible name slot new less found =
    elim (cases_Bool (nat_eq first.name name)) [
      | inl same ↦ absurd (let here : first.slot ≡ slot = rw same at found in omega (arith, here, new.0, less))
      | inr differs ↦
          let more = older low level added visible name slot new.2 less (rw differs at found) in
          record { hidden = rw differs more.hidden; found = more.found }
    ]

pub find-older : (added visible : List Declared) (name : ℕ) → meaning (scope_of added) name ≡ None → find (added ++ visible) name ≡ find visible name
unfolding meaning find
find-older [] visible name none = refl
find-older (first ∷ added) visible name none =
    elim (cases_Bool (nat_eq first.name name)) [
      | inl same ↦ absurd (let wrong : Some (sort_of first.thing) ≡ None = rw same at none in cc)
      | inr differs ↦ rw differs (find-older added visible name (rw differs at none))
    ]

-- a slot is that of one name
slot-below : (bound : ℕ) (visible : List Declared) (name slot : ℕ) → Falls bound visible → HasSlot (find visible name) slot → slot < bound
unfolding find
slot-below bound [] name slot falls found = absurd found
slot-below bound (first ∷ rest) name slot falls found =
    elim (cases_Bool (nat_eq first.name name)) [
      | inl same ↦ (let here : first.slot ≡ slot = rw same at found in omega (arith, here, falls.0))
      | inr differs ↦ omega (arith, falls.0, slot-below first.slot rest name slot falls.1 (rw differs at found))
    ]

pub found-below : (bound : ℕ) (visible : List Declared) (name slot : ℕ) → Falls bound visible → HasSlot (find visible name) slot → slot < bound
found-below = slot-below

pub one-name : (bound : ℕ) (visible : List Declared) (one other slot : ℕ) → Falls bound visible → HasSlot (find visible one) slot → HasSlot (find visible other) slot → one ≡ other
unfolding find
one-name bound [] one other slot falls found also = absurd found
one-name bound (first ∷ rest) one other slot falls found also =
    elim (cases_Bool (nat_eq first.name one)) [
      | inl is_one ↦ elim (cases_Bool (nat_eq first.name other)) [
        | inl is_other ↦ sym (eqb-true first.name one is_one) ∙ eqb-true first.name other is_other
        | inr differs ↦ absurd
            (let here : first.slot ≡ slot = rw is_one at found in omega (arith, here, slot-below first.slot rest other slot falls.1 (rw differs at also)))
      ]
      | inr differs ↦ elim (cases_Bool (nat_eq first.name other)) [
        | inl is_other ↦ absurd
            (let here : first.slot ≡ slot = rw is_other at also in omega (arith, here, slot-below first.slot rest one slot falls.1 (rw differs at found)))
        | inr apart ↦ one-name first.slot rest one other slot falls.1 (rw differs at found) (rw apart at also)
      ]
    ]

-- positions in no further scope
pub behind-nothing : (nodes : List Position) → behind [] nodes ≡ nodes
behind-nothing [] = refl
behind-nothing (first ∷ nodes) =
    ap (λ (scope : List Declaration). let it : Position = record { node = first.node; scope = scope } in it ∷ behind [] nodes) (append-nil first.scope)
    ∙ ap (λ (nodes : List Position). first ∷ nodes) (behind-nothing nodes)
