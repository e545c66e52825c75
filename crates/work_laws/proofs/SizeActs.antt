-- In a program that breaks no rule each schedule clause has a size, if it has one, from 1 on: its acts one after another, by whether a construct has just
-- begun before each.
use Rattle.std.proofs.Common.{ℕ, ◌≡◌, ◌≤◌, ◌==◌, ◌||◌, ◌++◌, Bool, true, false, List, [], ◌∷◌, refl, sym, ap, ◌∙◌, subst, inl, inr, arith, append_assoc}
use Rattle.std.specs.Prelude.{Option, Some, None, is_some}
use Rattle.std.specs.List.{IsAmong}
use Rattle.std.proofs.lemmas.Bool.{cases_lt, eq-eqb, or_parts, true≢false}
use Rattle.c_tokens.specs.declared.token.Spot.{Spot}
use Rattle.c_syntax.specs.language.Numbered.{TreeView}
use Rattle.c_check.specs.declared.acts.act.Act.{Act}
use Rattle.c_check.specs.declared.acts.act.Act.TheVariants.{Begin, Clause, Enter, Leave, List as Listing, Loop, Use}
use Rattle.c_check.specs.declared.acts.act.DataClause.{DataClause}
use Rattle.c_check.specs.declared.acts.act.Single.{Single}
use Rattle.c_check.specs.declared.acts.act.Single.TheVariants as single
use Rattle.c_check.specs.declared.fault.CheckFault.TheVariants as fault
use Rattle.c_check.specs.declared.scopes.declared.Declared.{Declared}
use Rattle.c_check.specs.Checked.{Checked, acts_of, after_all, here_after}
use Rattle.c_check.specs.Constructs.{Construct, Constructs, open_constructs, with_clause, without_innermost}
use Rattle.c_check.specs.Declarations.{find}
use Rattle.c_check.specs.Here.{Here, after, before_all, is_variable, listed, looped, used, used_in}
use Rattle.c_check.specs.Rules.{has_single, is_empty_chunk, where_so, wrong_clause, wrong_uses}

-- whether a construct has just begun, behind an act and behind acts one after another
abbrev pub newest_after : Bool → Act → Bool
newest_after newest (Begin name spot gives parameters) = false
newest_after newest (Enter spot which critical) = true
newest_after newest Leave = false
newest_after newest other = newest

unfoldable pub newest_all : Bool → List Act → Bool
newest_all newest [] = newest
newest_all newest (act ∷ acts) = newest_all (newest_after newest act) acts

-- the size of a schedule clause of that construct
abbrev pub AllowsSize : Bool → Act → Type 0
AllowsSize newest (Clause (single.Schedule chunk)) = newest ≡ true → 1 ≤ chunk
AllowsSize newest other = Unit {0}

unfoldable pub AreSized : Bool → List Act → Type 0
AreSized newest [] = Unit {0}
AreSized newest (act ∷ acts) = AllowsSize newest act × AreSized (newest_after newest act) acts

pub sized_both : (newest : Bool) (some more : List Act) → AreSized newest (some ++ more) → AreSized newest some × AreSized (newest_all newest some) more
unfolding newest_all AreSized
sized_both newest [] more sized = (tt, sized)
sized_both newest (act ∷ some) more sized =
    let rest = sized_both (newest_after newest act) some more sized.1 in ((sized.0, rest.0), rest.1)

-- ---- where a program stands

abbrev newest_in : Here → Bool
newest_in here = is_some here.constructs.newest

used-newest : (here : Here) (spot : Spot) (found : Option Declared) → newest_in (used here spot found) ≡ newest_in here
used-newest here spot None = refl
used-newest here spot (Some it) = variable-newest (is_variable it.thing) refl
  where
    variable-newest : (is : Bool) → is_variable it.thing ≡ is → is_some (used_in here.constructs spot it).newest ≡ newest_in here
    variable-newest true is = rw is refl
    variable-newest false is = rw is refl

clause-newest : (newest : Option Construct) (constructs : Constructs) (one : Single) → constructs.newest ≡ newest
    → is_some (with_clause constructs one).newest ≡ is_some constructs.newest
clause-newest None constructs one is = rw is refl
clause-newest (Some newest) constructs one is = rw is refl

listed-newest : (newest : Option Construct) (constructs : Constructs) (found : Option Declared) (which : DataClause) → constructs.newest ≡ newest
    → is_some (listed constructs found which).newest ≡ is_some constructs.newest
listed-newest newest constructs None which is = refl
listed-newest None constructs (Some it) which is = rw is refl
listed-newest (Some newest) constructs (Some it) which is = rw is refl

looped-newest : (newest : Option Construct) (constructs : Constructs) (found : Option Declared) → constructs.newest ≡ newest
    → is_some (looped constructs found).newest ≡ is_some constructs.newest
looped-newest newest constructs None is = refl
looped-newest None constructs (Some it) is = rw is refl
looped-newest (Some newest) constructs (Some it) is = rw is refl

ended-newest : (opened : List Construct) (constructs : Constructs) → is_some (without_innermost opened constructs).newest ≡ false
ended-newest [] constructs = refl
ended-newest (first ∷ outer) constructs = refl

here-after : (here : Here) (act : Act) → newest_in (after here act) ≡ newest_after (newest_in here) act
unfolding after
here-after here (Use name spot usage) = used-newest here spot (find here.names.visible name)
here-after here (Clause one) = clause-newest here.constructs.newest here.constructs one refl
here-after here (Listing name spot which) = listed-newest here.constructs.newest here.constructs (find here.names.visible name) which refl
here-after here (Loop name) = looped-newest here.constructs.newest here.constructs (find here.names.visible name) refl
here-after here Leave = ended-newest (open_constructs here.constructs) here.constructs
here-after here other = refl

-- ---- no clause breaks the rule

no-place : (places : List Spot) → ((spot : Spot) → IsAmong places spot → ⊥) → places ≡ []
no-place [] none = refl
no-place (spot ∷ places) none = absurd (none spot (0, (omega arith, refl)))

not-so : (is : Bool) (spot : Spot) → where_so is spot ≡ [] → is ≡ false
not-so true spot none = cc
not-so false spot none = refl

some-chunk : (chunk : ℕ) → (chunk == 0) ≡ false → 1 ≤ chunk
some-chunk chunk differs =
    elim (cases_lt 0 chunk) [
      | inl some ↦ some
      | inr none ↦ absurd (true≢false (sym (eq-eqb chunk 0 (omega (arith, none))) ∙ differs))
    ]

sized-by : (newest : Option Construct) (chunk : ℕ) → wrong_clause (single.Schedule chunk) newest ≡ [] → is_some newest ≡ true → 1 ≤ chunk
sized-by None chunk none is = cc
sized-by (Some newest) chunk none is =
    let one = single.Schedule chunk in
    some-chunk chunk (or_parts (is_empty_chunk one) (has_single newest.clauses one)
    (not-so (is_empty_chunk one || has_single newest.clauses one) newest.head.spot none)).0

clause-allowed : (here : Here) (one : Single) → wrong_clause one here.constructs.newest ≡ [] → AllowsSize (newest_in here) (Clause one)
clause-allowed here (single.Schedule chunk) none = λ is. sized-by here.constructs.newest chunk none is
clause-allowed here other none = tt

act-allowed : (here : Here) (act : Act) → wrong_uses here act ≡ [] → AllowsSize (newest_in here) act
act-allowed here (Clause one) none = clause-allowed here one none
act-allowed here other none = tt

after-one : (here : Here) (before : List Act) (act : Act) → after_all here (before ++ act ∷ []) ≡ after (after_all here before) act
unfolding after_all
after-one here [] act = refl
after-one here (first ∷ before) act = after-one (after here first) before act

sized-from : (program : TreeView) → Checked program → (acts before : List Act) → acts_of program ≡ before ++ acts
    → AreSized (newest_in (here_after program before)) acts
unfolding AreSized
sized-from program checked [] before are = tt
sized-from program checked (act ∷ acts) before are = (
  act-allowed (here_after program before) act
      (no-place _ (λ spot there. checked (fault.WrongUse spot) (record { before = before; act = act; behind = acts; acts_are = are; there = there }))),
  subst (λ (newest : Bool). AreSized newest acts)
      (ap newest_in (after-one (before_all program.main) before act) ∙ here-after (here_after program before) act)
      (sized-from program checked acts (before ++ act ∷ []) (are ∙ sym (append_assoc before (act ∷ []) acts))),
)

pub checked_is_sized : (program : TreeView) → Checked program → AreSized false (acts_of program)
unfolding after_all
checked_is_sized program checked = sized-from program checked (acts_of program) [] refl
