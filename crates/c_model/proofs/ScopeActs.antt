-- A program that breaks no rule: what its acts show of the names that are used, and which names stay in scope behind them.
use Rattle.std.specs.Prelude.{ℕ, ◌+◌, ◌-◌, ◌≤◌, ◌≡◌, ◌||◌, ◌==◌, nat_eq, nat_le, if◌then◌else◌, Bool, true, false, IsTrue, List, [], ◌∷◌, ◌++◌, Option, Some, None, is_none, refl}
use Rattle.std.specs.List.{All, Contains, IsAmong}
use Rattle.std.proofs.Common.{arith, ap, sym, ◌∙◌, append_assoc, subst, inl, inr}
use Rattle.std.proofs.lemmas.Bool.{cases_Bool}
use Rattle.std.proofs.lemmas.Bool.Decides.{nat_tests}
use Rattle.std.proofs.lemmas.List.Elements.{All-append, All-cons, All-head, All-nil, All-tail, All-weaker, Contains-append_left, Contains-push}
use Rattle.c_tokens.specs.declared.token.Spot.{Spot}
use Rattle.c_syntax.specs.declared.node.Returns.{Returns}
use Rattle.c_syntax.specs.language.Numbered.{TreeView}
use Rattle.c_check.specs.declared.acts.act.Act.{Act}
use Rattle.c_check.specs.declared.acts.act.Act.TheVariants.{Use}
use Rattle.c_check.specs.declared.acts.act.Thing.{Thing}
use Rattle.c_check.specs.declared.acts.act.Thing.TheVariants as thing
use Rattle.c_check.specs.declared.acts.act.Usage.{Usage}
use Rattle.c_check.specs.declared.acts.act.Usage.TheVariants as usage
use Rattle.c_check.specs.declared.acts.act.Value.{Value}
use Rattle.c_check.specs.declared.fault.CheckFault.TheVariants as fault
use Rattle.c_check.specs.declared.scopes.declared.Declared.{Declared}
use Rattle.c_check.specs.Checked.{Checked, acts_of, after_all, here_after}
use Rattle.c_check.specs.Declarations.{Declarations, find, next_of, scope_begun, scope_ended, still_in_scope, with_next}
use Rattle.c_check.specs.Here.{Here, after, before_all, is_variable}
use Rattle.c_check.specs.Rules.{bad_loops, declared_twice, is_misused, is_wrong, missing_main, unknown_names, where_so, wrong_uses}
use Rattle.c_model.specs.Scoped.{IsCallable}
use Rattle.c_model.proofs.ScopeTrees.{IsPart}

-- an act breaks none of the rules on names and loops, nor do acts one after another
pub record IsUnbroken (here : Here) (act : Act) : Type 0 where
  pub unknown : unknown_names here act ≡ []
  pub twice : declared_twice here act ≡ []
  pub wrong : wrong_uses here act ≡ []
  pub loops : bad_loops here act ≡ []
  pub main : missing_main here act ≡ []

unfoldable pub Quiet : Here → List Act → Type 0
Quiet here [] = Unit {0}
Quiet here (act ∷ acts) = IsUnbroken here act × Quiet (after here act) acts

no-place : (places : List Spot) → ((spot : Spot) → IsAmong places spot → ⊥) → places ≡ []
no-place [] none = refl
no-place (spot ∷ places) none = absurd (none spot (0, (omega arith, refl)))

after-one : (here : Here) (before : List Act) (act : Act) → after_all here (before ++ act ∷ []) ≡ after (after_all here before) act
unfolding after_all
after-one here [] act = refl
after-one here (first ∷ before) act = after-one (after here first) before act

quiet-from : (program : TreeView) → Checked program → (acts before : List Act) → acts_of program ≡ before ++ acts → Quiet (here_after program before) acts
unfolding Quiet
quiet-from program checked [] before are = tt
quiet-from program checked (act ∷ acts) before are = (
  record {
    unknown = no-place _ (λ spot there. checked (fault.UnknownName spot) (record { before = before; act = act; behind = acts; acts_are = are; there = there }));
    twice = no-place _ (λ spot there. checked (fault.TwiceDeclared spot) (record { before = before; act = act; behind = acts; acts_are = are; there = there }));
    wrong = no-place _ (λ spot there. checked (fault.WrongUse spot) (record { before = before; act = act; behind = acts; acts_are = are; there = there }));
    loops = no-place _ (λ spot there. checked (fault.BadLoop spot) (record { before = before; act = act; behind = acts; acts_are = are; there = there }));
    main = no-place _ (λ spot there. checked (fault.NoMain spot) (record { before = before; act = act; behind = acts; acts_are = are; there = there }));
  },
  subst (λ (here : Here). Quiet here acts) (after-one (before_all program.main) before act)
      (quiet-from program checked acts (before ++ act ∷ []) (are ∙ sym (append_assoc before (act ∷ []) acts))),
)

pub checked_is_quiet : (program : TreeView) → Checked program → Quiet (before_all program.main) (acts_of program)
unfolding after_all
checked_is_quiet program checked = quiet-from program checked (acts_of program) [] refl

pub after_both : (here : Here) (some more : List Act) → after_all here (some ++ more) ≡ after_all (after_all here some) more
unfolding after_all
after_both here [] more = refl
after_both here (act ∷ some) more = after_both (after here act) some more

pub quiet_both : (here : Here) (some more : List Act) → Quiet here (some ++ more) → Quiet here some × Quiet (after_all here some) more
unfolding Quiet after_all
quiet_both here [] more quiet = (tt, quiet)
quiet_both here (act ∷ some) more quiet = let rest = quiet_both (after here act) some more quiet.1 in ((quiet.0, rest.0), rest.1)

-- what the declarations in scope are to a scope of names
pub record FitsIn (program : TreeView) (names : List ℕ) (here : Declarations) : Type 0 where
  pub covers : (name : ℕ) (it : Declared) → find here.visible name ≡ Some it → IsTrue (is_variable it.thing) → Contains names name
  pub callable : (name : ℕ) (it : Declared) (gives : Returns) (count : ℕ) → find here.visible name ≡ Some it → it.thing ≡ thing.Function gives count → IsCallable program name count
  pub below : All (λ (it : Declared). it.level ≤ here.level) here.visible

-- what acts have done: they have declared these variables in the scope in which they stand, and ended the scopes that they began
pub record Does (program : TreeView) (names : List ℕ) (old new : Declarations) : Type 0 where
  pub added : List Declared
  pub visible : new.visible ≡ added ++ old.visible
  pub level : new.level ≡ old.level
  pub levels : All (λ (it : Declared). it.level ≡ old.level) added
  pub fits : FitsIn program names new

pub fits_same : (program : TreeView) (names : List ℕ) (old new : Declarations) → FitsIn program names old → new.visible ≡ old.visible → new.level ≡ old.level → FitsIn program names new
fits_same program names old new fits visible level =
    record {
      covers = λ name it found is. fits.covers name it (ap (λ (visible : List Declared). find visible name) (sym visible) ∙ found) is;
      callable = λ name it gives count found is. fits.callable name it gives count (ap (λ (visible : List Declared). find visible name) (sym visible) ∙ found) is;
      below = subst (λ (visible : List Declared). All (λ (it : Declared). it.level ≤ new.level) visible) (sym visible) (subst (λ (level : ℕ). All (λ (it : Declared). it.level ≤ level) old.visible) (sym level) fits.below);
    }

pub fits_more : (program : TreeView) (some more : List ℕ) (here : Declarations) → IsPart some more → FitsIn program some here → FitsIn program more here
fits_more program some more here part fits =
    record { covers = λ name it found is. part name (fits.covers name it found is); callable = fits.callable; below = fits.below }

pub does_more : (program : TreeView) (some more : List ℕ) (old new : Declarations) → IsPart some more → Does program some old new → Does program more old new
does_more program some more old new part does =
    record { added = does.added; visible = does.visible; level = does.level; levels = does.levels; fits = fits_more program some more new part does.fits }

-- nothing, one thing behind another, a declaration, and what stands in a scope of its own
pub does_nothing : (program : TreeView) (names : List ℕ) (here : Declarations) → FitsIn program names here → Does program names here here
does_nothing program names here fits = record { added = []; visible = refl; level = refl; levels = All-nil (λ (it : Declared). it.level ≡ here.level); fits = fits }

pub does_both : (program : TreeView) (some more : List ℕ) (one two three : Declarations) → Does program some one two → Does program more two three → Does program more one three
does_both program some more one two three first second =
    record {
      added = second.added ++ first.added;
      visible = second.visible ∙ ap (λ (visible : List Declared). second.added ++ visible) first.visible ∙ sym (append_assoc second.added first.added one.visible);
      level = second.level ∙ first.level;
      levels = All-append (λ (it : Declared). it.level ≡ one.level) second.added first.added
          (subst (λ (level : ℕ). All (λ (it : Declared). it.level ≡ level) second.added) first.level second.levels) first.levels;
      fits = second.fits;
    }

pub does_assoc : (program : TreeView) (one two three : List ℕ) (old new : Declarations) → Does program ((one ++ two) ++ three) old new → Does program (one ++ (two ++ three)) old new
does_assoc program one two three old new does = subst (λ (scope : List ℕ). Does program scope old new) (append_assoc one two three) does

no-function : (what : Thing) (gives : Returns) (count : ℕ) → IsTrue (is_variable what) → what ≡ thing.Function gives count → ⊥
no-function thing.Int gives count is same = cc
no-function (thing.Array size) gives count is same = cc
no-function thing.Lock gives count is same = cc
no-function (thing.Function other number) gives count is same = cc

pub find_next : (P : Declared → Type 0) (first : Declared) (visible : List Declared) (name : ℕ) (it : Declared) → find (first ∷ visible) name ≡ Some it → (first.name ≡ name → first ≡ it → P it) → (find visible name ≡ Some it → P it) → P it
unfolding find
find_next P first visible name it found here there =
    elim (cases_Bool (nat_eq first.name name)) [
      | inl same ↦ here (same-names first.name name same) (let one : Some first ≡ Some it = rw same at found in cc)
      | inr differs ↦ there (rw differs at found)
    ]
  where
    same-names : (one other : ℕ) → nat_eq one other ≡ true → one ≡ other
    same-names one other is = grind (arith, nat_tests)

pub does_declare : (program : TreeView) (names : List ℕ) (here : Declarations) (name : ℕ) (what : Thing) → IsTrue (is_variable what) → FitsIn program names here → Does program (names ++ name ∷ []) here (with_next here name what)
does_declare program names here name what variable fits =
    let first : Declared = next_of here name what in
    record {
      added = first ∷ [];
      visible = refl;
      level = refl;
      levels = All-cons (λ (it : Declared). it.level ≡ here.level) first [] refl (All-nil (λ (it : Declared). it.level ≡ here.level));
      fits = record {
        covers = λ other it found is. find_next (λ it. Contains (names ++ name ∷ []) other) first here.visible other it found
            (λ named same. subst (λ (other : ℕ). Contains (names ++ name ∷ []) other) named (Contains-push names name))
            (λ found. Contains-append_left names (name ∷ []) other (fits.covers other it found is));
        callable = λ other it gives count found is. find_next (λ it. IsCallable program other count) first here.visible other it found
            (λ named same. absurd (no-function what gives count variable (ap (λ (it : Declared). it.thing) same ∙ is)))
            (λ found. fits.callable other it gives count found is);
        below = All-cons (λ (it : Declared). it.level ≤ here.level) first here.visible (omega arith) fits.below;
      };
    }

pub fits_begun : (program : TreeView) (names : List ℕ) (here : Declarations) → FitsIn program names here → FitsIn program names (scope_begun here)
fits_begun program names here fits =
    record {
      covers = fits.covers;
      callable = fits.callable;
      below = All-weaker (λ (it : Declared). it.level ≤ here.level) (λ (it : Declared). it.level ≤ here.level + 1) (λ it is. omega (arith, is)) here.visible fits.below;
    }

dropped : (level : ℕ) (added visible : List Declared) → All (λ (it : Declared). it.level ≡ level + 1) added → All (λ (it : Declared). it.level ≤ level) visible → still_in_scope (level + 1) (added ++ visible) ≡ visible
unfolding still_in_scope
dropped level [] [] levels below = refl
dropped level [] (first ∷ visible) levels below =
    let over : nat_le (level + 1) first.level ≡ false = stays level first.level (All-head (λ (it : Declared). it.level ≤ level) first visible below) in rw over refl
  where
    stays : (level other : ℕ) → other ≤ level → nat_le (level + 1) other ≡ false
    stays level other is = grind (arith, nat_tests)
dropped level (first ∷ added) visible levels below =
    let over : nat_le (level + 1) first.level ≡ true = ends level first.level (All-head (λ (it : Declared). it.level ≡ level + 1) first added levels) in
    rw over (dropped level added visible (All-tail (λ (it : Declared). it.level ≡ level + 1) first added levels) below)
  where
    ends : (level other : ℕ) → other ≡ level + 1 → nat_le (level + 1) other ≡ true
    ends level other is = grind (arith, nat_tests)

pub scope_is_ended : (program : TreeView) (names more : List ℕ) (old new : Declarations) → FitsIn program names old → Does program more (scope_begun old) new → (scope_ended new).visible ≡ old.visible
scope_is_ended program names more old new fits does =
    ap (λ (level : ℕ). still_in_scope level new.visible) does.level ∙ ap (λ (visible : List Declared). still_in_scope (old.level + 1) visible) does.visible ∙ dropped old.level does.added old.visible does.levels fits.below

pub does_in_scope : (program : TreeView) (names more : List ℕ) (old new : Declarations) → FitsIn program names old → Does program more (scope_begun old) new → Does program names old (scope_ended new)
does_in_scope program names more old new fits does =
    let visible = scope_is_ended program names more old new fits does in
    let level : new.level - 1 ≡ old.level = omega (arith, does.level) in
    record { added = []; visible = visible; level = level; levels = All-nil (λ (it : Declared). it.level ≡ old.level); fits = fits_same program names old (scope_ended new) fits visible level }

-- a use
pub unplaced : (broken : Bool) (spot : Spot) → where_so broken spot ≡ [] → broken ≡ false
unplaced true spot is = cc
unplaced false spot is = refl

neither : (one other : Bool) → (one || other) ≡ false → one ≡ false
neither true other is = is
neither false other is = refl

abbrev pub is_called : Usage → Bool
is_called (usage.Called count value) = true
is_called other = false

variable-used : (what : Thing) (used : Usage) → is_called used ≡ false → is_wrong what used ≡ false → IsTrue (is_variable what)
variable-used thing.Int used never right = refl
variable-used (thing.Array size) used never right = refl
variable-used thing.Lock used never right = refl
variable-used (thing.Function gives count) (usage.Called number value) never right = absurd (cc)
variable-used (thing.Function gives count) other never right = absurd (cc)

used-found : (program : TreeView) (names : List ℕ) (here : Here) (name : ℕ) (spot : Spot) (used : Usage) (found : Option Declared) → FitsIn program names here.names → find here.names.visible name ≡ found → is_called used ≡ false
    → where_so (is_none found) spot ≡ [] → where_so (is_misused here name used found) spot ≡ [] → Contains names name
used-found program names here name spot used None fits is never known right = absurd (cc)
used-found program names here name spot used (Some it) fits is never known right =
    fits.covers name it is (variable-used it.thing used never (neither _ _ (neither _ _ (unplaced _ spot right))))

pub used_is_known : (program : TreeView) (names : List ℕ) (here : Here) (name : ℕ) (spot : Spot) (used : Usage) → FitsIn program names here.names → is_called used ≡ false → IsUnbroken here (Use name spot used) → Contains names name
used_is_known program names here name spot used fits never unbroken =
    used-found program names here name spot used (find here.names.visible name) fits refl never unbroken.unknown unbroken.wrong

function-called : (program : TreeView) (what : Thing) (name count : ℕ) (value : Value) → ((gives : Returns) (number : ℕ) → what ≡ thing.Function gives number → IsCallable program name number)
    → is_wrong what (usage.Called count value) ≡ false → IsCallable program name count
function-called program thing.Int name count value each right = absurd (cc)
function-called program (thing.Array size) name count value each right = absurd (cc)
function-called program thing.Lock name count value each right = absurd (cc)
function-called program (thing.Function gives number) name count value each right =
    subst (λ (count : ℕ). IsCallable program name count) (sym (same-count count number (neither _ _ right))) (each gives number refl)
  where
    same-count : (one other : ℕ) → (if one == other then false else true) ≡ false → one ≡ other
    same-count one other is = elim (cases_Bool (nat_eq one other)) [ inl same ↦ grind (arith, nat_tests) | inr differs ↦ absurd (let wrong : true ≡ false = rw differs at is in cc) ]

called-found : (program : TreeView) (names : List ℕ) (here : Here) (name : ℕ) (spot : Spot) (count : ℕ) (value : Value) (found : Option Declared) → FitsIn program names here.names → find here.names.visible name ≡ found
    → where_so (is_none found) spot ≡ [] → where_so (is_misused here name (usage.Called count value) found) spot ≡ [] → IsCallable program name count
called-found program names here name spot count value None fits is known right = absurd (cc)
called-found program names here name spot count value (Some it) fits is known right =
    function-called program it.thing name count value (λ gives number same. fits.callable name it gives number is same) (neither _ _ (neither _ _ (unplaced _ spot right)))

pub called_is_known : (program : TreeView) (names : List ℕ) (here : Here) (name : ℕ) (spot : Spot) (count : ℕ) (value : Value) → FitsIn program names here.names → IsUnbroken here (Use name spot (usage.Called count value)) → IsCallable program name count
called_is_known program names here name spot count value fits unbroken =
    called-found program names here name spot count value (find here.names.visible name) fits refl unbroken.unknown unbroken.wrong
