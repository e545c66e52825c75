-- The declaration that a search finds is the nearest one whose scope is open.
use Rattle.std.proofs.Common.{◌≡◌, ◌⊎◌, ℕ, zero, suc, ◌+◌, ◌-◌, ◌<◌, ◌≤◌, true, List, [], ◌∷◌, ◌++◌, length, take, Option, Some, None, refl, sym, ap, subst, ◌∙◌, inl, inr, sum_by, nat_eq, arith}
use Rattle.std.specs.Prelude.{nat_le}
use Rattle.std.proofs.lemmas.Bool.{cases_Bool, cases_lt, eqb-true, eqb-false, leb-false, leb-true, le-leb}
use Rattle.std.proofs.lemmas.List.{length_push}
use Rattle.std.proofs.lemmas.List.Sums.{sum_by-cons}
use Rattle.c_check.specs.declared.acts.act.Act.{Act}
use Rattle.c_check.specs.declared.acts.act.Act.TheVariants.{Open, Close, Begin, End, Declare, Use, Assign, Print, Return, Barrier, Enter, Clause, List as Listing, OddLoop, Loop, Leave, Finish}
use Rattle.c_check.specs.declared.acts.act.Thing.{Thing}
use Rattle.c_check.specs.declared.scopes.declared.Declared.{Declared}
use Rattle.c_check.specs.Checked.{after_all}
use Rattle.c_check.specs.Declarations.{Declarations, find, next_of, no_names, scope_begun, scope_ended, still_in_scope, with_next}
use Rattle.c_check.specs.Here.{Here, after, before_all}
use Rattle.c_check.specs.Nearest.{Declares, HasNoDeclaration, IsNearest, IsOpenDeclaration, StaysOpen, acts_over, declarations_made, declared_thing, open_scopes, scopes_begun, scopes_ended}

-- how many more scopes end than begin, at most, in a first part of acts
excess : List Act → ℕ
excess [] = 0
excess (first ∷ rest) = excess rest + scopes_ended first - scopes_begun first

-- the names that are declared after some acts
step : Declarations → Act → Declarations
step names Open = scope_begun names
step names Close = scope_ended names
step names (Begin name spot returns parameters) = scope_begun (with_next names name (declared_thing (Begin name spot returns parameters)))
step names End = scope_ended names
step names (Declare name spot what) = with_next names name what
step names other = names

steps : Declarations → List Act → Declarations
steps names [] = names
steps names (first ∷ rest) = steps (step names first) rest

names-used : (here : Here) (act : Act) → (after here act).names ≡ step here.names act
unfolding after step
names-used here Open = refl
names-used here Close = refl
names-used here (Begin name spot returns parameters) = refl
names-used here End = refl
names-used here (Declare name spot what) = refl
names-used here (Use name spot usage) = of_found (find here.names.visible name) refl
  where
    of_found : (found : Option Declared) → find here.names.visible name ≡ found → (after here (Use name spot usage)).names ≡ here.names
    of_found None is = rw is refl
    of_found (Some it) is = rw is refl
names-used here (Assign name) = refl
names-used here (Print spot printed) = refl
names-used here (Return spot returned) = refl
names-used here (Barrier spot) = refl
names-used here (Enter spot which critical) = refl
names-used here (Clause one) = refl
names-used here (Listing name spot which) = refl
names-used here OddLoop = refl
names-used here (Loop name) = refl
names-used here Leave = refl
names-used here (Finish spot) = refl

names-after : (here : Here) (acts : List Act) → (after_all here acts).names ≡ steps here.names acts
unfolding after_all steps
names-after here [] = refl
names-after here (first ∷ rest) = names-after (after here first) rest ∙ ap (λ (names : Declarations). steps names rest) (names-used here first)

-- a scope stays open exactly where no more end than begin
module _ where
  open-least : (acts : List Act) (count : ℕ) → sum_by scopes_ended (take count acts) ≤ sum_by scopes_begun (take count acts) + excess acts
  unfolding excess
  open-least acts zero = omega arith
  open-least [] (suc count) = omega arith
  open-least (first ∷ rest) (suc count) =
      omega (arith, open-least rest count, sum_by-cons scopes_ended first (take count rest), sum_by-cons scopes_begun first (take count rest))

  -- a first part in which as many more end
  record Most (acts : List Act) : Type 0 where
    count : ℕ
    most : sum_by scopes_ended (take count acts) ≡ sum_by scopes_begun (take count acts) + excess acts

  open-most : (acts : List Act) → Most acts
  unfolding excess
  open-most [] = record { count = 0; most = refl }
  open-most (first ∷ rest) =
      let more = open-most rest in
      elim (cases_lt (excess rest + scopes_ended first) (scopes_begun first)) [
        | inl fewer ↦ record { count = 0; most = omega arith }
        | inr enough ↦ record {
          count = suc more.count;
          most = omega (arith, more.most, sum_by-cons scopes_ended first (take more.count rest), sum_by-cons scopes_begun first (take more.count rest));
        }
      ]

  stays-open : (acts : List Act) → excess acts ≡ 0 → StaysOpen acts
  stays-open acts none count = omega (arith, open-least acts count)

  open-stays : (acts : List Act) → StaysOpen acts → excess acts ≡ 0
  open-stays acts stays = let most = open-most acts in omega (arith, most.most, stays most.count)

-- what is still in scope
first_level : List Declared → ℕ → Type 0
first_level [] level = Unit {0}
first_level (first ∷ visible) level = first.level ≤ level

all-in-scope : (visible : List Declared) (level : ℕ) → first_level visible level → still_in_scope (level + 1) visible ≡ visible
unfolding still_in_scope first_level
all-in-scope [] level below = refl
all-in-scope (first ∷ visible) level below =
    elim (cases_Bool (nat_le (level + 1) first.level)) [
      | inl over ↦ absurd (omega (arith, leb-true (level + 1) first.level over, below))
      | inr under ↦ rw under refl
    ]

twice-in-scope : (low high : ℕ) (visible : List Declared) → low ≤ high → still_in_scope low (still_in_scope high visible) ≡ still_in_scope low visible
unfolding still_in_scope
twice-in-scope low high [] below = refl
twice-in-scope low high (first ∷ visible) below =
    elim (cases_Bool (nat_le high first.level)) [
      | inl over ↦ rw (over, le-leb low first.level (omega (arith, leb-true high first.level over, below))) (twice-in-scope low high visible below)
      | inr under ↦ rw under refl
    ]

first-in-scope : (level : ℕ) (visible : List Declared) → first_level (still_in_scope level visible) (level - 1)
unfolding still_in_scope first_level
first-in-scope level [] = tt
first-in-scope level (first ∷ visible) =
    elim (cases_Bool (nat_le level first.level)) [
      | inl over ↦ rw over (first-in-scope level visible)
      | inr under ↦ rw under (omega (arith, leb-false level first.level under))
    ]

none-at-zero : (visible : List Declared) → still_in_scope 0 visible ≡ []
unfolding still_in_scope
none-at-zero [] = refl
none-at-zero (first ∷ visible) = rw (le-leb 0 first.level (omega arith)) (none-at-zero visible)

IsLevelled : Declarations → Type 0
IsLevelled names = first_level names.visible names.level

levelled-on : (visible : List Declared) (low high : ℕ) → low ≤ high → first_level visible low → first_level visible high
unfolding first_level
levelled-on [] low high more below = tt
levelled-on (first ∷ visible) low high more below = omega (arith, more, below)

levelled : (names : Declarations) (act : Act) → IsLevelled names → IsLevelled (step names act)
unfolding step IsLevelled first_level
levelled names Open is = levelled-on names.visible names.level (names.level + 1) (omega arith) is
levelled names Close is = first-in-scope names.level names.visible
levelled names (Begin name spot returns parameters) is = omega arith
levelled names End is = first-in-scope names.level names.visible
levelled names (Declare name spot what) is = omega arith
levelled names other is = is

-- what a search finds after acts: one that they declare, or what is left of those before
abbrev IsNoneOpen : List Act → ℕ → Type 0
IsNoneOpen acts name = (before : List Act) (act : Act) (behind : List Act) → acts ≡ before ++ act ∷ behind → Declares name act → excess (acts_over act behind) ≡ 0 → ⊥

abbrev declared_in : Declarations → List Act → ℕ → Act → Declared
declared_in names before name act = next_of (steps names before) name (declared_thing act)

record Finds (names : Declarations) (acts : List Act) (name : ℕ) : Type 0 where
  before : List Act
  act : Act
  behind : List Act
  acts_are : acts ≡ before ++ act ∷ behind
  declares : Declares name act
  no_excess : excess (acts_over act behind) ≡ 0
  none_nearer : IsNoneOpen behind name
  found : find (steps names acts).visible name ≡ Some (declared_in names before name act)

record Keeps (names : Declarations) (acts : List Act) (name : ℕ) : Type 0 where
  none : IsNoneOpen acts name
  found : find (steps names acts).visible name ≡ find (still_in_scope (names.level + 1 - excess acts) names.visible) name

-- one act before others, that isn't such a declaration
none-more : (first : Act) (rest : List Act) (name : ℕ) → IsNoneOpen rest name → (Declares name first → excess (acts_over first rest) ≡ 0 → ⊥) → IsNoneOpen (first ∷ rest) name
none-more first rest name none not_first [] act behind are declares still =
    let is_act : first ≡ act = cc in
    let is_behind : rest ≡ behind = cc in
    not_first (subst (λ (one : Act). Declares name one) (sym is_act) declares) (rw (is_act, is_behind) still)
none-more first rest name none not_first (one ∷ before) act behind are declares still =
    let is_rest : rest ≡ before ++ act ∷ behind = cc in
    none before act behind is_rest declares still

none-in-nothing : (name : ℕ) → IsNoneOpen [] name
none-in-nothing name [] act behind are declares still = absurd (cc)
none-in-nothing name (one ∷ before) act behind are declares still = absurd (cc)

abbrev Outcome : Declarations → List Act → ℕ → Type 0
Outcome names acts name = Finds names acts name ⊎ Keeps names acts name

keep : (first : Act) (rest : List Act) (names : Declarations) (name : ℕ) → Keeps (step names first) rest name → (Declares name first → excess (acts_over first rest) ≡ 0 → ⊥)
    → find (still_in_scope ((step names first).level + 1 - excess rest) (step names first).visible) name ≡ find (still_in_scope (names.level + 1 - excess (first ∷ rest)) names.visible) name
    → Outcome names (first ∷ rest) name
unfolding steps
keep first rest names name keeps not_first same = inr (record { none = none-more first rest name keeps.none not_first; found = keeps.found ∙ same })

scope-opened : (level over : ℕ) (visible : List Declared) → first_level visible level → still_in_scope (level + 1 + 1 - over) visible ≡ still_in_scope (level + 1 - (over + 0 - 1)) visible
scope-opened level zero visible below =
    let high : level + 1 + 1 - 0 ≡ level + 1 + 1 = omega arith in
    let low : level + 1 - (0 + 0 - 1) ≡ level + 1 = omega arith in
    rw (high, low) (all-in-scope visible (level + 1) (levelled-on visible level (level + 1) (omega arith) below) ∙ sym (all-in-scope visible level below))
scope-opened level (suc over) visible below = ap (λ (from : ℕ). still_in_scope from visible) (let same : level + 1 + 1 - suc over ≡ level + 1 - (suc over + 0 - 1) = omega arith in same)

scope-closed : (level over : ℕ) (visible : List Declared) → still_in_scope (level - 1 + 1 - over) (still_in_scope level visible) ≡ still_in_scope (level + 1 - (over + 1 - 0)) visible
unfolding still_in_scope
scope-closed zero over visible =
    let none : 0 + 1 - (over + 1 - 0) ≡ 0 = omega arith in
    rw (none, none-at-zero visible) refl
scope-closed (suc level) over visible =
    let low : suc level - 1 + 1 - over ≡ suc level - over = omega arith in
    let same : suc level + 1 - (over + 1 - 0) ≡ suc level - over = omega arith in
    rw (low, same) (twice-in-scope (suc level - over) (suc level) visible (omega arith))

-- a declaration whose scope is open as long as no more end
record IsThis (names : Declarations) (name other : ℕ) (what : Thing) (from over : ℕ) : Type 0 where
  same : other ≡ name
  still : over ≡ 0
  found : find (still_in_scope from (next_of names other what ∷ names.visible)) name ≡ Some (next_of names name what)

record IsAnother (names : Declarations) (name other : ℕ) (what : Thing) (from over : ℕ) : Type 0 where
  not_this : other ≡ name → over ≡ 0 → ⊥
  found : find (still_in_scope from (next_of names other what ∷ names.visible)) name ≡ find (still_in_scope (names.level + 1 - over) names.visible) name

declared-more : (names : Declarations) (name other : ℕ) (what : Thing) (from over : ℕ) → IsLevelled names → (over ≡ 0 → names.level + 1 ≤ from) → (0 < over → from ≡ names.level + 1 - over)
    → IsThis names name other what from over ⊎ IsAnother names name other what from over
unfolding still_in_scope find IsLevelled
declared-more names name other what from zero levels stays ends =
    let low : names.level + 1 - 0 ≡ names.level + 1 = omega arith in
    elim (cases_Bool (nat_le from names.level)) [
      | inl over ↦ absurd (omega (arith, leb-true from names.level over, stays refl))
      | inr under ↦
          elim (cases_Bool (nat_eq other name)) [
            | inl same ↦ inl (record {
              same = eqb-true other name same;
              still = refl;
              found = rw (under, same) (ap (λ (it : ℕ). Some (next_of names it what)) (eqb-true other name same));
            })
            | inr apart ↦ inr (record {
              not_this = λ same none. eqb-false other name apart same;
              found = rw (under, apart, low, all-in-scope names.visible names.level levels) refl;
            })
          ]
    ]
declared-more names name other what from (suc over) levels stays ends =
    let at : from ≡ names.level + 1 - suc over = ends (omega arith) in
    let within : nat_le from names.level ≡ true = le-leb from names.level (omega (arith, at)) in
    inr (record { not_this = λ same none. absurd (cc); found = rw within (ap (λ (level : ℕ). find (still_in_scope level names.visible) name) at) })

outcome-more : (first : Act) (rest : List Act) (names : Declarations) (name : ℕ) → IsLevelled names → Keeps (step names first) rest name → Outcome names (first ∷ rest) name
unfolding excess step steps IsLevelled
outcome-more Open rest names name levels keeps = keep Open rest names name keeps (λ declares still. declares) (ap (λ (visible : List Declared). find visible name) (scope-opened names.level (excess rest) names.visible levels))
outcome-more Close rest names name levels keeps = keep Close rest names name keeps (λ declares still. declares) (ap (λ (visible : List Declared). find visible name) (scope-closed names.level (excess rest) names.visible))
outcome-more End rest names name levels keeps = keep End rest names name keeps (λ declares still. declares) (ap (λ (visible : List Declared). find visible name) (scope-closed names.level (excess rest) names.visible))
outcome-more (Declare other spot what) rest names name levels keeps =
    let over : excess rest + 0 - 0 ≡ excess rest = omega arith in
    elim (declared-more names name other what (names.level + 1 - excess rest) (excess rest) levels (λ none. omega (arith, none)) (λ some. refl)) [
      | inl this ↦ inl (record {
        before = [];
        act = Declare other spot what;
        behind = rest;
        acts_are = refl;
        declares = this.same;
        no_excess = this.still;
        none_nearer = keeps.none;
        found = keeps.found ∙ this.found;
      })
      | inr another ↦ keep (Declare other spot what) rest names name keeps another.not_this (another.found ∙ rw over refl)
    ]
outcome-more (Begin other spot returns parameters) rest names name levels keeps =
    elim (declared-more names name other (declared_thing (Begin other spot returns parameters)) (names.level + 1 + 1 - excess rest) (excess rest + 0 - 1) levels (λ none. omega (arith, none)) (λ some. omega (arith, some))) [
      | inl this ↦ inl (record {
        before = [];
        act = Begin other spot returns parameters;
        behind = rest;
        acts_are = refl;
        declares = this.same;
        no_excess = this.still;
        none_nearer = keeps.none;
        found = keeps.found ∙ this.found;
      })
      | inr another ↦ keep (Begin other spot returns parameters) rest names name keeps another.not_this another.found
    ]
outcome-more other rest names name levels keeps =
    let over : excess rest + 0 - 0 ≡ excess rest = omega arith in
    keep other rest names name keeps (λ declares still. declares) (rw over refl)

outcome : (acts : List Act) (names : Declarations) (name : ℕ) → IsLevelled names → Outcome names acts name
unfolding excess steps IsLevelled
outcome [] names name levels =
    let low : names.level + 1 - 0 ≡ names.level + 1 = omega arith in
    inr (record { none = none-in-nothing name; found = rw (low, all-in-scope names.visible names.level levels) refl })
outcome (first ∷ rest) names name levels =
    elim (outcome rest (step names first) name (levelled names first levels)) [
      | inl finds ↦ inl (record {
        before = first ∷ finds.before;
        act = finds.act;
        behind = finds.behind;
        acts_are = ap (λ (acts : List Act). first ∷ acts) finds.acts_are;
        declares = finds.declares;
        no_excess = finds.no_excess;
        none_nearer = finds.none_nearer;
        found = finds.found;
      })
      | inr keeps ↦ outcome-more first rest names name levels keeps
    ]

-- where a declaration stands
count-after : (names : Declarations) (acts : List Act) → length (steps names acts).all ≡ length names.all + sum_by declarations_made acts
unfolding steps step
count-after names [] = omega arith
count-after names (first ∷ rest) = omega (arith, count-after (step names first) rest, sum_by-cons declarations_made first rest, one-more first)
  where
    one-more : (act : Act) → length (step names act).all ≡ length names.all + declarations_made act
    one-more (Begin name spot returns parameters) = length_push names.all (next_of names name (declared_thing (Begin name spot returns parameters)))
    one-more (Declare name spot what) = length_push names.all (next_of names name what)
    one-more other = omega arith

level-after : (names : Declarations) (acts : List Act) → (steps names acts).level ≡ open_scopes names.level acts
unfolding steps step open_scopes
level-after names [] = refl
level-after names (first ∷ rest) = level-after (step names first) rest ∙ ap (λ (level : ℕ). open_scopes level rest) (one-more first)
  where
    one-more : (act : Act) → (step names act).level ≡ names.level + scopes_begun act - scopes_ended act
    one-more Open = omega arith
    one-more Close = omega arith
    one-more (Begin name spot returns parameters) = omega arith
    one-more End = omega arith
    one-more other = omega arith

module _ (main : ℕ) (acts : List Act) (name : ℕ) where
  seen : find (after_all (before_all main) acts).names.visible name ≡ find (steps no_names acts).visible name
  seen = ap (λ (names : Declarations). find names.visible name) (names-after (before_all main) acts)

  none-open : IsNoneOpen acts name → HasNoDeclaration acts name
  none-open none before act behind is = none before act behind is.acts_are is.declares (open-stays (acts_over act behind) is.stays_open)

  nothing-found : Keeps no_names acts name → find (steps no_names acts).visible name ≡ None
  unfolding still_in_scope find
  nothing-found keeps = keeps.found

  module _ (finds : Finds no_names acts name) where
    open-found : IsOpenDeclaration acts name finds.before finds.act finds.behind
    open-found = record { acts_are = finds.acts_are; declares = finds.declares; stays_open = stays-open (acts_over finds.act finds.behind) finds.no_excess }

    nearest-found : (found : Declared) → find (after_all (before_all main) acts).names.visible name ≡ Some found → IsNearest acts name found
    nearest-found found is =
        let same : found ≡ declared_in no_names finds.before name finds.act = (let both : Some found ≡ Some (declared_in no_names finds.before name finds.act) = sym is ∙ seen ∙ finds.found in cc) in
        record {
          before = finds.before;
          act = finds.act;
          behind = finds.behind;
          declaration = open-found;
          none_nearer = λ before act behind is. finds.none_nearer before act behind is.acts_are is.declares (open-stays (acts_over act behind) is.stays_open);
          name_is = ap (λ (it : Declared). it.name) same;
          thing_is = ap (λ (it : Declared). it.thing) same;
          slot_is = omega (arith, ap (λ (it : Declared). it.slot) same, count-after no_names finds.before);
          level_is = ap (λ (it : Declared). it.level) same ∙ level-after no_names finds.before;
        }

  levels : IsLevelled no_names
  unfolding IsLevelled first_level
  levels = tt

  pub nearest : (found : Declared) → find (after_all (before_all main) acts).names.visible name ≡ Some found → IsNearest acts name found
  nearest found is =
      elim (outcome acts no_names name levels) [
        | inl finds ↦ nearest-found finds found is
        | inr keeps ↦ absurd (let both : Some found ≡ None = sym is ∙ seen ∙ nothing-found keeps in cc)
      ]

  pub no-nearest : find (after_all (before_all main) acts).names.visible name ≡ None → HasNoDeclaration acts name
  no-nearest is =
      elim (outcome acts no_names name levels) [
        | inl finds ↦ absurd (let both : None ≡ Some (declared_in no_names finds.before name finds.act) = sym is ∙ seen ∙ finds.found in cc)
        | inr keeps ↦ none-open keeps.none
      ]

  pub none-nearest : HasNoDeclaration acts name → find (after_all (before_all main) acts).names.visible name ≡ None
  none-nearest none =
      elim (outcome acts no_names name levels) [
        | inl finds ↦ absurd (none finds.before finds.act finds.behind (open-found finds))
        | inr keeps ↦ seen ∙ nothing-found keeps
      ]
