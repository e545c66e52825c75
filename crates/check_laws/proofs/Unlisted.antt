-- The uses and loops that the checker has kept at the end of a program, and what it tells of them.
use Rattle.std.specs.Prelude.{ℕ, nat_eq, ◌≡◌, ◌⊎◌, ◌&&◌, ◌||◌, Bool, true, false, if◌then◌else◌, List, [], ◌∷◌, ◌++◌, Option, Some, None, refl}
use Rattle.std.proofs.Common.{sym, ap, subst, ◌∙◌, inl, inr, arith, append-nil}
use Rattle.std.specs.List.{IsAmong}
use Rattle.std.proofs.lemmas.Bool.{and_parts, cases_Bool, eqb-true}
use Rattle.std.proofs.lemmas.Bool.Decides.{nat_tests}
use Rattle.c_tokens.specs.declared.token.Spot.{Spot}
use Rattle.c_check.specs.declared.acts.act.Act.{Act}
use Rattle.c_check.specs.declared.acts.act.Act.TheVariants.{Leave, List as Listing, Loop, Use}
use Rattle.c_check.specs.declared.acts.act.DataClause.{DataClause}
use Rattle.c_check.specs.declared.constructs.parts.LoopInside.{LoopInside}
use Rattle.c_check.specs.declared.constructs.parts.Unlisted.{Unlisted}
use Rattle.c_check.specs.declared.scopes.declared.Declared.{Declared}
use Rattle.c_check.specs.Checked.{after_all}
use Rattle.c_check.specs.Constructs.{Construct, Constructs, leaves_out, loops_in, open_constructs, unlisted_in, with_use, without_innermost}
use Rattle.c_check.specs.Declarations.{find}
use Rattle.c_check.specs.Faults.{is_same_spot}
use Rattle.c_check.specs.Here.{Here, after, is_variable, listed, looped, used}
use Rattle.c_check.specs.Rules.{is_loop_inside, not_listed}
use Rattle.c_check.proofs.Places.{same-spot}
use Rattle.c_slots.proofs.ActPlaces.{same_spot_itself}
use Rattle.check_laws.proofs.Broken.{BreaksIn}
use Rattle.check_laws.proofs.Entries.{TakesAt, entries, entries_for, entry-found, found-entry}
use Rattle.check_laws.proofs.Has.{Has, among-behind, among-case, among-first, has-one, has-weaker}
use Rattle.check_laws.proofs.ListRule.{loop_entry, use_entry}
use Rattle.check_laws.proofs.Means.{not-among}
use Rattle.check_laws.proofs.Naming.{Purpose}
use Rattle.check_laws.proofs.Standing.{around_here}

-- among two lists
among-either : {X : Type 0} (some more : List X) (one : X) → IsAmong (some ++ more) one → IsAmong some one ⊎ IsAmong more one
among-either [] more one among = inr among
among-either (first ∷ some) more one among =
    elim (among-case first (some ++ more) one among) [
      | inl same ↦ inl (subst (λ (one : _). IsAmong (first ∷ some) one) (sym same) (among-first first some))
      | inr there ↦ elim (among-either some more one there) [ inl left ↦ inl (among-behind first some one left) | inr right ↦ inr right ]
    ]

among-left : {X : Type 0} (some more : List X) (one : X) → IsAmong some one → IsAmong (some ++ more) one
among-left [] more one among = absurd (not-among one among)
among-left (first ∷ some) more one among =
    elim (among-case first some one among) [
      | inl same ↦ subst (λ (one : _). IsAmong (first ∷ (some ++ more)) one) (sym same) (among-first first (some ++ more))
      | inr there ↦ among-behind first (some ++ more) one (among-left some more one there)
    ]

among-right : {X : Type 0} (some more : List X) (one : X) → IsAmong more one → IsAmong (some ++ more) one
among-right [] more one among = among
among-right (first ∷ some) more one among = among-behind first (some ++ more) one (among-right some more one among)

-- what an act adds
abbrev unlisted_for : Constructs → Spot → Option Declared → List Unlisted
unlisted_for constructs spot None = []
unlisted_for constructs spot (Some it) = if is_variable it.thing then unlisted_in (open_constructs constructs) spot it.slot else []

abbrev unlisted_by : Here → Act → List Unlisted
unlisted_by here (Use name spot usage) = unlisted_for here.constructs spot (find here.names.visible name)
unlisted_by here other = []

abbrev loops_for : Constructs → Option Declared → List LoopInside
loops_for constructs None = []
loops_for constructs (Some it) = loops_in (open_constructs constructs) it.slot

abbrev loops_by : Here → Act → List LoopInside
loops_by here (Loop name) = loops_for here.constructs (find here.names.visible name)
loops_by here other = []

used-adds : (here : Here) (spot : Spot) (found : Option Declared) → (used here spot found).constructs.unlisted ≡ here.constructs.unlisted ++ unlisted_for here.constructs spot found
used-adds here spot None = sym (append-nil here.constructs.unlisted)
used-adds here spot (Some it) = either (is_variable it.thing)
  where
    either : (is : Bool) → (if is then with_use here.constructs spot it.slot else here.constructs).unlisted ≡ here.constructs.unlisted ++ (if is then unlisted_in (open_constructs here.constructs) spot it.slot else [])
    either true = refl
    either false = sym (append-nil here.constructs.unlisted)

used-loops : (here : Here) (spot : Spot) (found : Option Declared) → (used here spot found).constructs.loops ≡ here.constructs.loops ++ []
used-loops here spot None = sym (append-nil here.constructs.loops)
used-loops here spot (Some it) = either (is_variable it.thing)
  where
    either : (is : Bool) → (if is then with_use here.constructs spot it.slot else here.constructs).loops ≡ here.constructs.loops ++ []
    either true = sym (append-nil here.constructs.loops)
    either false = sym (append-nil here.constructs.loops)

listed-keeps : (constructs : Constructs) (clause : DataClause) (found : Option Declared) → ((listed constructs found clause).unlisted ≡ constructs.unlisted) × ((listed constructs found clause).loops ≡ constructs.loops)
listed-keeps constructs clause None = (refl, refl)
listed-keeps constructs clause (Some it) = (refl, refl)

looped-adds : (constructs : Constructs) (found : Option Declared) → ((looped constructs found).unlisted ≡ constructs.unlisted) × ((looped constructs found).loops ≡ constructs.loops ++ loops_for constructs found)
looped-adds constructs None = (refl, sym (append-nil constructs.loops))
looped-adds constructs (Some it) = (refl, refl)

ended-keeps : (around : List Construct) (constructs : Constructs) → ((without_innermost around constructs).unlisted ≡ constructs.unlisted) × ((without_innermost around constructs).loops ≡ constructs.loops)
ended-keeps [] constructs = (refl, refl)
ended-keeps (first ∷ outer) constructs = (refl, refl)

act-adds : (here : Here) (act : Act) → (after here act).constructs.unlisted ≡ here.constructs.unlisted ++ unlisted_by here act
unfolding after
act-adds here (Use name spot usage) = used-adds here spot (find here.names.visible name)
act-adds here (Listing name spot clause) = (listed-keeps here.constructs clause (find here.names.visible name)).0 ∙ sym (append-nil here.constructs.unlisted)
act-adds here (Loop name) = (looped-adds here.constructs (find here.names.visible name)).0 ∙ sym (append-nil here.constructs.unlisted)
act-adds here Leave = (ended-keeps (around_here here) here.constructs).0 ∙ sym (append-nil here.constructs.unlisted)
act-adds here other = sym (append-nil here.constructs.unlisted)

act-loops : (here : Here) (act : Act) → (after here act).constructs.loops ≡ here.constructs.loops ++ loops_by here act
unfolding after
act-loops here (Use name spot usage) = used-loops here spot (find here.names.visible name)
act-loops here (Listing name spot clause) = (listed-keeps here.constructs clause (find here.names.visible name)).1 ∙ sym (append-nil here.constructs.loops)
act-loops here (Loop name) = (looped-adds here.constructs (find here.names.visible name)).1
act-loops here Leave = (ended-keeps (around_here here) here.constructs).1 ∙ sym (append-nil here.constructs.loops)
act-loops here other = sym (append-nil here.constructs.loops)

-- .. are the entries
abbrev LeavesAt : ℕ → Spot → Construct → Type 0
LeavesAt slot at construct = (leaves_out construct slot ≡ true) × (construct.head.spot ≡ at)

unlisted-has : (around : List Construct) (spot : Spot) (slot : ℕ) (one : Unlisted) → IsAmong (unlisted_in around spot slot) one → (one.spot ≡ spot) × (one.slot ≡ slot) × Has (LeavesAt slot one.construct) around
unfolding unlisted_in
unlisted-has [] spot slot one among = absurd (not-among one among)
unlisted-has (first ∷ around) spot slot one among =
    elim (cases_Bool (leaves_out first slot)) [
      | inl leaves ↦ elim (among-case (record { spot = spot; slot = slot; construct = first.head.spot }) (unlisted_in around spot slot) one (rw leaves at among)) [
        | inl same ↦ (ap (λ (one : Unlisted). one.spot) same, ap (λ (one : Unlisted). one.slot) same, inl (leaves, sym (ap (λ (one : Unlisted). one.construct) same)))
        | inr there ↦ (let more = unlisted-has around spot slot one there in (more.0, more.1, inr more.2))
      ]
      | inr not_leaves ↦ (let more = unlisted-has around spot slot one (rw not_leaves at among) in (more.0, more.1, inr more.2))
    ]

has-unlisted : (around : List Construct) (spot : Spot) (slot : ℕ) (at : Spot) → Has (LeavesAt slot at) around → IsAmong (unlisted_in around spot slot) (record { spot = spot; slot = slot; construct = at })
unfolding unlisted_in
has-unlisted [] spot slot at has = absurd has
has-unlisted (first ∷ around) spot slot at (inl this) =
    rw this.0 (subst (λ (at : Spot). IsAmong (record { spot = spot; slot = slot; construct = first.head.spot } ∷ unlisted_in around spot slot) (record { spot = spot; slot = slot; construct = at })) this.1
    (among-first (record { spot = spot; slot = slot; construct = first.head.spot }) (unlisted_in around spot slot)))
has-unlisted (first ∷ around) spot slot at (inr others) =
    elim (cases_Bool (leaves_out first slot)) [
      | inl leaves ↦ rw leaves (among-behind (record { spot = spot; slot = slot; construct = first.head.spot }) (unlisted_in around spot slot) (record { spot = spot; slot = slot; construct = at }) (has-unlisted around spot slot at others))
      | inr not_leaves ↦ rw not_leaves (has-unlisted around spot slot at others)
    ]

loops-has : (around : List Construct) (slot : ℕ) (one : LoopInside) → IsAmong (loops_in around slot) one → (one.slot ≡ slot) × Has (λ (construct : Construct). construct.head.spot ≡ one.construct) around
unfolding loops_in
loops-has [] slot one among = absurd (not-among one among)
loops-has (first ∷ around) slot one among =
    elim (among-case (record { slot = slot; construct = first.head.spot }) (loops_in around slot) one among) [
      | inl same ↦ (ap (λ (one : LoopInside). one.slot) same, inl (sym (ap (λ (one : LoopInside). one.construct) same)))
      | inr there ↦ (let more = loops-has around slot one there in (more.0, inr more.1))
    ]

has-loops : (around : List Construct) (slot : ℕ) (at : Spot) → Has (λ (construct : Construct). construct.head.spot ≡ at) around → IsAmong (loops_in around slot) (record { slot = slot; construct = at })
unfolding loops_in
has-loops [] slot at has = absurd has
has-loops (first ∷ around) slot at (inl this) =
    subst (λ (at : Spot). IsAmong (record { slot = slot; construct = first.head.spot } ∷ loops_in around slot) (record { slot = slot; construct = at })) this
    (among-first (record { slot = slot; construct = first.head.spot }) (loops_in around slot))
has-loops (first ∷ around) slot at (inr others) = among-behind (record { slot = slot; construct = first.head.spot }) (loops_in around slot) (record { slot = slot; construct = at }) (has-loops around slot at others)

both-true : (a b : Bool) → a ≡ true → b ≡ true → (a && b) ≡ true
both-true a b ia ib = rw (ia, ib) refl

unlisted-entry : (constructs : Constructs) (spot : Spot) (found : Option Declared) (one : Unlisted) → IsAmong (unlisted_for constructs spot found) one
    → IsAmong (entries_for (Purpose.using spot) found (open_constructs constructs)) (use_entry one.spot one.slot one.construct)
unlisted-entry constructs spot None one among = absurd (not-among one among)
unlisted-entry constructs spot (Some it) one among =
    elim (cases_Bool (is_variable it.thing)) [
      | inr other ↦ absurd (not-among one (rw other at among))
      | inl variable ↦
          let has = unlisted-has (open_constructs constructs) spot it.slot one (rw variable at among) in
          rw (has.0, has.1)
          (entry-found (Purpose.using spot) (Some it) it one.construct (open_constructs constructs) refl
          (has-weaker (LeavesAt it.slot one.construct) (TakesAt (Purpose.using spot) it one.construct)
          (λ construct leaves. record { taken = both-true (is_variable it.thing) (leaves_out construct it.slot) variable leaves.0; there = leaves.1 }) (open_constructs constructs) has.2))
    ]

entry-unlisted : (constructs : Constructs) (place : Spot) (found : Option Declared) (spot : Spot) (slot : ℕ) (at : Spot) → IsAmong (entries_for (Purpose.using place) found (open_constructs constructs)) (use_entry spot slot at)
    → IsAmong (unlisted_for constructs place found) (record { spot = spot; slot = slot; construct = at })
entry-unlisted constructs place found spot slot at among =
    let it = found-entry (Purpose.using place) found (open_constructs constructs) (use_entry spot slot at) among in
    let same : spot ≡ place = (let both : Purpose.using spot ≡ Purpose.using place = it.purpose_is in cc) in
    let one = has-one (TakesAt (Purpose.using place) it.what at) (open_constructs constructs) it.taken in
    let variable : is_variable it.what.thing ≡ true = (and_parts (is_variable it.what.thing) (leaves_out one.one it.what.slot) one.is.taken).0 in
    let has = has-unlisted (open_constructs constructs) place it.what.slot at
    (has-weaker (TakesAt (Purpose.using place) it.what at) (LeavesAt it.what.slot at)
    (λ construct takes. ((and_parts (is_variable it.what.thing) (leaves_out construct it.what.slot) takes.taken).1, takes.there)) (open_constructs constructs) it.taken) in
    subst (λ (found : Option Declared). IsAmong (unlisted_for constructs place found) (record { spot = spot; slot = slot; construct = at })) (sym it.found_is)
    (rw variable (subst (λ (spot : Spot). IsAmong (unlisted_in (open_constructs constructs) place it.what.slot) (record { spot = spot; slot = slot; construct = at })) (sym same)
    (subst (λ (slot : ℕ). IsAmong (unlisted_in (open_constructs constructs) place it.what.slot) (record { spot = place; slot = slot; construct = at })) it.slot has)))

loops-entry : (constructs : Constructs) (found : Option Declared) (one : LoopInside) → IsAmong (loops_for constructs found) one → IsAmong (entries_for Purpose.looping found (open_constructs constructs)) (loop_entry one.slot one.construct)
loops-entry constructs None one among = absurd (not-among one among)
loops-entry constructs (Some it) one among =
    let has = loops-has (open_constructs constructs) it.slot one among in
    rw has.0
    (entry-found Purpose.looping (Some it) it one.construct (open_constructs constructs) refl
    (has-weaker (λ (construct : Construct). construct.head.spot ≡ one.construct) (TakesAt Purpose.looping it one.construct) (λ construct there. record { taken = refl; there = there }) (open_constructs constructs) has.1))

entry-loops : (constructs : Constructs) (found : Option Declared) (slot : ℕ) (at : Spot) → IsAmong (entries_for Purpose.looping found (open_constructs constructs)) (loop_entry slot at)
    → IsAmong (loops_for constructs found) (record { slot = slot; construct = at })
entry-loops constructs found slot at among =
    let it = found-entry Purpose.looping found (open_constructs constructs) (loop_entry slot at) among in
    let has = has-loops (open_constructs constructs) it.what.slot at
    (has-weaker (TakesAt Purpose.looping it.what at) (λ (construct : Construct). construct.head.spot ≡ at) (λ construct takes. takes.there) (open_constructs constructs) it.taken) in
    subst (λ (found : Option Declared). IsAmong (loops_for constructs found) (record { slot = slot; construct = at })) (sym it.found_is)
    (subst (λ (slot : ℕ). IsAmong (loops_in (open_constructs constructs) it.what.slot) (record { slot = slot; construct = at })) it.slot has)

act-entry : (here : Here) (act : Act) (one : Unlisted) → IsAmong (unlisted_by here act) one → IsAmong (entries here act) (use_entry one.spot one.slot one.construct)
act-entry here (Use name spot usage) one among = unlisted-entry here.constructs spot (find here.names.visible name) one among
act-entry here other one among = absurd (not-among one among)

entry-act : (here : Here) (act : Act) (spot : Spot) (slot : ℕ) (at : Spot) → IsAmong (entries here act) (use_entry spot slot at) → IsAmong (unlisted_by here act) (record { spot = spot; slot = slot; construct = at })
entry-act here (Use name place usage) spot slot at among = entry-unlisted here.constructs place (find here.names.visible name) spot slot at among
entry-act here (Loop name) spot slot at among =
    let it = found-entry Purpose.looping (find here.names.visible name) (around_here here) (use_entry spot slot at) among in
    absurd (let wrong : Purpose.using spot ≡ Purpose.looping = it.purpose_is in cc)
entry-act here other spot slot at among = absurd (not-among (use_entry spot slot at) among)

loop-act-entry : (here : Here) (act : Act) (one : LoopInside) → IsAmong (loops_by here act) one → IsAmong (entries here act) (loop_entry one.slot one.construct)
loop-act-entry here (Loop name) one among = loops-entry here.constructs (find here.names.visible name) one among
loop-act-entry here other one among = absurd (not-among one among)

entry-loop-act : (here : Here) (act : Act) (slot : ℕ) (at : Spot) → IsAmong (entries here act) (loop_entry slot at) → IsAmong (loops_by here act) (record { slot = slot; construct = at })
entry-loop-act here (Loop name) slot at among = entry-loops here.constructs (find here.names.visible name) slot at among
entry-loop-act here (Use name spot usage) slot at among =
    let it = found-entry (Purpose.using spot) (find here.names.visible name) (around_here here) (loop_entry slot at) among in
    absurd (let wrong : Purpose.looping ≡ Purpose.using spot = it.purpose_is in cc)
entry-loop-act here other slot at among = absurd (not-among (loop_entry slot at) among)

-- what is kept behind some acts
pub unlisted-kept : (here : Here) (acts : List Act) (one : Unlisted) → IsAmong (after_all here acts).constructs.unlisted one → IsAmong here.constructs.unlisted one ⊎ BreaksIn entries here acts (use_entry one.spot one.slot one.construct)
unfolding after_all
unlisted-kept here [] one among = inl among
unlisted-kept here (act ∷ acts) one among =
    elim (unlisted-kept (after here act) acts one among) [
      | inr later ↦ inr (inr later)
      | inl kept ↦ elim (among-either here.constructs.unlisted (unlisted_by here act) one (subst (λ (some : List Unlisted). IsAmong some one) (act-adds here act) kept)) [
        | inl before ↦ inl before
        | inr now ↦ inr (inl (act-entry here act one now))
      ]
    ]

keeps-unlisted : (here : Here) (acts : List Act) (one : Unlisted) → IsAmong here.constructs.unlisted one → IsAmong (after_all here acts).constructs.unlisted one
unfolding after_all
keeps-unlisted here [] one among = among
keeps-unlisted here (act ∷ acts) one among =
    keeps-unlisted (after here act) acts one (subst (λ (some : List Unlisted). IsAmong some one) (sym (act-adds here act)) (among-left here.constructs.unlisted (unlisted_by here act) one among))

pub kept-unlisted : (here : Here) (acts : List Act) (spot : Spot) (slot : ℕ) (at : Spot) → BreaksIn entries here acts (use_entry spot slot at) → IsAmong (after_all here acts).constructs.unlisted (record { spot = spot; slot = slot; construct = at })
unfolding after_all
kept-unlisted here [] spot slot at breaks = absurd breaks
kept-unlisted here (act ∷ acts) spot slot at (inl now) =
    keeps-unlisted (after here act) acts (record { spot = spot; slot = slot; construct = at })
    (subst (λ (some : List Unlisted). IsAmong some (record { spot = spot; slot = slot; construct = at })) (sym (act-adds here act))
    (among-right here.constructs.unlisted (unlisted_by here act) (record { spot = spot; slot = slot; construct = at }) (entry-act here act spot slot at now)))
kept-unlisted here (act ∷ acts) spot slot at (inr later) = kept-unlisted (after here act) acts spot slot at later

pub loops-kept : (here : Here) (acts : List Act) (one : LoopInside) → IsAmong (after_all here acts).constructs.loops one → IsAmong here.constructs.loops one ⊎ BreaksIn entries here acts (loop_entry one.slot one.construct)
unfolding after_all
loops-kept here [] one among = inl among
loops-kept here (act ∷ acts) one among =
    elim (loops-kept (after here act) acts one among) [
      | inr later ↦ inr (inr later)
      | inl kept ↦ elim (among-either here.constructs.loops (loops_by here act) one (subst (λ (some : List LoopInside). IsAmong some one) (act-loops here act) kept)) [
        | inl before ↦ inl before
        | inr now ↦ inr (inl (loop-act-entry here act one now))
      ]
    ]

keeps-loops : (here : Here) (acts : List Act) (one : LoopInside) → IsAmong here.constructs.loops one → IsAmong (after_all here acts).constructs.loops one
unfolding after_all
keeps-loops here [] one among = among
keeps-loops here (act ∷ acts) one among =
    keeps-loops (after here act) acts one (subst (λ (some : List LoopInside). IsAmong some one) (sym (act-loops here act)) (among-left here.constructs.loops (loops_by here act) one among))

pub kept-loops : (here : Here) (acts : List Act) (slot : ℕ) (at : Spot) → BreaksIn entries here acts (loop_entry slot at) → IsAmong (after_all here acts).constructs.loops (record { slot = slot; construct = at })
unfolding after_all
kept-loops here [] slot at breaks = absurd breaks
kept-loops here (act ∷ acts) slot at (inl now) =
    keeps-loops (after here act) acts (record { slot = slot; construct = at })
    (subst (λ (some : List LoopInside). IsAmong some (record { slot = slot; construct = at })) (sym (act-loops here act))
    (among-right here.constructs.loops (loops_by here act) (record { slot = slot; construct = at }) (entry-loop-act here act slot at now)))
kept-loops here (act ∷ acts) slot at (inr later) = kept-loops (after here act) acts slot at later

-- whether a loop is kept
same-number : (one : ℕ) → nat_eq one one ≡ true
same-number one = grind (arith, nat_tests)

or-right : (a b : Bool) → b ≡ true → (a || b) ≡ true
or-right true b is = refl
or-right false b is = is

or-parts : (a b : Bool) → (a || b) ≡ true → (a ≡ true) ⊎ (b ≡ true)
or-parts true b is = inl refl
or-parts false b is = inr is

pub loop-inside : (loops : List LoopInside) (slot : ℕ) (at : Spot) → IsAmong loops (record { slot = slot; construct = at }) → is_loop_inside loops slot at ≡ true
unfolding is_loop_inside
loop-inside [] slot at among = absurd (not-among (record { slot = slot; construct = at }) among)
loop-inside (first ∷ loops) slot at among =
    elim (among-case first loops (record { slot = slot; construct = at }) among) [
      | inl same ↦ rw (sym same, same-number slot, same_spot_itself at) refl
      | inr there ↦ or-right (nat_eq first.slot slot && is_same_spot first.construct at) (is_loop_inside loops slot at) (loop-inside loops slot at there)
    ]

pub inside-loop : (loops : List LoopInside) (slot : ℕ) (at : Spot) → is_loop_inside loops slot at ≡ true → IsAmong loops (record { slot = slot; construct = at })
unfolding is_loop_inside
inside-loop [] slot at is = absurd (let wrong : false ≡ true = is in cc)
inside-loop (first ∷ loops) slot at is =
    elim (or-parts (nat_eq first.slot slot && is_same_spot first.construct at) (is_loop_inside loops slot at) is) [
      | inr there ↦ among-behind first loops (record { slot = slot; construct = at }) (inside-loop loops slot at there)
      | inl this ↦
          let both = and_parts (nat_eq first.slot slot) (is_same_spot first.construct at) this in
          subst (λ (slot : ℕ). IsAmong (first ∷ loops) (record { slot = slot; construct = at })) (eqb-true first.slot slot both.0)
          (subst (λ (at : Spot). IsAmong (first ∷ loops) (record { slot = first.slot; construct = at })) (same-spot first.construct at both.1) (among-first first loops))
    ]

-- what the rule tells
pub record IsTold (loops : List LoopInside) (unlisted : List Unlisted) (spot : Spot) : Type 0 where
  pub one : Unlisted
  pub among : IsAmong unlisted one
  pub at : one.spot ≡ spot
  pub no_loop : is_loop_inside loops one.slot one.construct ≡ false

pub listed-told : (loops : List LoopInside) (unlisted : List Unlisted) (spot : Spot) → IsAmong (not_listed loops unlisted) spot → IsTold loops unlisted spot
unfolding not_listed
listed-told loops [] spot among = absurd (not-among spot among)
listed-told loops (first ∷ rest) spot among =
    elim (cases_Bool (is_loop_inside loops first.slot first.construct)) [
      | inl inside ↦ further (listed-told loops rest spot (rw inside at among))
      | inr outside ↦ elim (among-case first.spot (not_listed loops rest) spot (rw outside at among)) [
        | inl same ↦ record { one = first; among = among-first first rest; at = sym same; no_loop = outside }
        | inr there ↦ further (listed-told loops rest spot there)
      ]
    ]
  where
    further : IsTold loops rest spot → IsTold loops (first ∷ rest) spot
    further it = record { one = it.one; among = among-behind first rest it.one it.among; at = it.at; no_loop = it.no_loop }

pub told-listed : (loops : List LoopInside) (unlisted : List Unlisted) (one : Unlisted) → IsAmong unlisted one → is_loop_inside loops one.slot one.construct ≡ false → IsAmong (not_listed loops unlisted) one.spot
unfolding not_listed
told-listed loops [] one among outside = absurd (not-among one among)
told-listed loops (first ∷ rest) one among outside =
    elim (among-case first rest one among) [
      | inl same ↦ subst (λ (one : Unlisted). is_loop_inside loops one.slot one.construct ≡ false → IsAmong (not_listed loops (first ∷ rest)) one.spot) (sym same)
          (λ outside. rw outside (among-first first.spot (not_listed loops rest))) outside
      | inr there ↦ elim (cases_Bool (is_loop_inside loops first.slot first.construct)) [
        | inl inside ↦ rw inside (told-listed loops rest one there outside)
        | inr first_outside ↦ rw first_outside (among-behind first.spot (not_listed loops rest) one.spot (told-listed loops rest one there outside))
      ]
    ]
