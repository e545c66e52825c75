-- Created tasks have numbers of their own, and tasks create tasks that come after them.
use Rattle.std.proofs.Common.{◌≡◌, ℕ, ◌+◌, ◌≤◌, ◌==◌, ◌&&◌, ◌||◌, ◌⊎◌, Bool, true, false, cond, not, List, [], ◌∷◌, count_by, Option, Some, None, refl, sym, ◌∙◌, ap, subst, inl, inr, arith}
use Rattle.std.specs.Prelude.{is_some, nat_le}
use Rattle.std.specs.List.{list_all, list_any}
use Rattle.std.proofs.lemmas.Bool.{eqb-true, eq-eqb}
use Rattle.std.proofs.lemmas.Bool.Decides.{nat_tests}
use Rattle.std.proofs.lemmas.List.Sums.{sum_by-cons}
use Rattle.ompt_calls.specs.declared.event.EventRecord.{EventRecord}
use Rattle.trace_check.specs.Brackets.{current_in}
use Rattle.trace_check.specs.Before.{Creation, Join, and_more, and_one, creation_of, creations, current, greatest_task, is_complete, is_created, is_just, is_open_region, join_of, joins, opened}
use Rattle.trace_check.specs.Rules.{may_join}
use Rattle.trace_check.specs.Checking.{Unbroken, children_of, creation_in}
use Rattle.trace_check.proofs.Kept12.{KeepsAll, keeps_all}
use Rattle.trace_check.proofs.Once.{marks}
use Rattle.trace_check.proofs.Names.{complete_started, of_explicit, of_implicit, once_explicit, started_is}
use Rattle.trace_check.proofs.Joined.{is_made, join_in, joins_made}
use Rattle.trace_check.proofs.Implicit.{joined_is, once_implicit}
use Rattle.trace_check.proofs.Children.{made_below, marked_task, started_created, there}
use Rattle.trace_check.proofs.TaskEvents.{creation_keeps}
use Rattle.trace_check.proofs.Tests.{apart, left, right}

-- ---- the greatest task

greatest_one : (past : List EventRecord) → 1 ≤ greatest_task past
greatest_one [] = omega arith
greatest_one (event ∷ past) = let e : 1 ≤ greatest_task past = greatest_one past in omega arith

greatest_more : (event : EventRecord) (past : List EventRecord) → greatest_task past ≤ greatest_task (event ∷ past)
greatest_more event past = omega arith

-- a join that is found is at most the greatest
joined_below : (k g : ℕ) (all : List Join) → is_some (join_in k all) ≡ true → list_all (is_made g) all ≡ true → k ≤ g
joined_below k g [] found made = absurd (cc)
joined_below k g (join ∷ all) found made = by-test (join.task == k) refl found (left (nat_le join.task g) _ made) (λ is. joined_below k g all is (right (nat_le join.task g) _ made))
  where
    here : (task : ℕ) → (task == k) ≡ true → nat_le task g ≡ true → k ≤ g
    here task same below = grind (arith, nat_tests)

    by-test : (b : Bool) → (join.task == k) ≡ b → is_some (cond b (Some join) (join_in k all)) ≡ true → nat_le join.task g ≡ true → (is_some (join_in k all) ≡ true → k ≤ g) → k ≤ g
    by-test true same is below rest = here join.task same below
    by-test false same is below rest = rest is

-- so is the task that a thread runs
pub current_below : (k t : ℕ) (past : List EventRecord) → Unbroken past → current_in (opened t past) ≡ Some k → k ≤ greatest_task past
current_below k t past unbroken runs = by-initial (1 == k) refl (marked_task k (opened t past) runs)
  where
    by-initial : (b : Bool) → (1 == k) ≡ b → (1 ≤ marks (of_implicit k) (opened t past)) ⊎ (1 ≤ marks (of_explicit k) (opened t past)) → k ≤ greatest_task past
    by-initial true same one = let e : 1 ≡ k = eqb-true 1 k same in let g : 1 ≤ greatest_task past = greatest_one past in omega arith
    by-initial false other (inl one) =
        joined_below k (greatest_task past) (joins past) (sym (joined_is k past other unbroken) ∙ (there (of_implicit k) past t (once_implicit k past other unbroken) one).0) (joins_made past)
    by-initial false other (inr one) =
        made_below k past (started_created k past unbroken (sym (started_is k past) ∙ (there (of_explicit k) past t (once_explicit k past unbroken) one).0))

pub is_current : (k : ℕ) (current : Option ℕ) → is_just k current ≡ true → current ≡ Some k
is_current k None is = absurd (cc)
is_current k (Some m) is = ap (λ (n : ℕ). Some n) (eqb-true m k is)

-- a task beyond the greatest has not been created, and isn't complete
pub beyond_uncreated : (k : ℕ) (past : List EventRecord) → k ≡ greatest_task past + 1 → is_created k past ≡ false
beyond_uncreated k past next = by-test (is_created k past) (made_below k past)
  where
    by-test : (b : Bool) → (b ≡ true → k ≤ greatest_task past) → b ≡ false
    by-test true below = let e : k ≤ greatest_task past = below refl in absurd (omega arith)
    by-test false below = refl

pub beyond_incomplete : (k : ℕ) (past : List EventRecord) → Unbroken past → is_created k past ≡ false → is_complete k past ≡ false
beyond_incomplete k past unbroken uncreated = by-test (is_complete k past) refl
  where
    by-test : (b : Bool) → is_complete k past ≡ b → b ≡ false
    by-test true is = absurd (apart (is_created k past) (started_created k past unbroken (complete_started k past unbroken is)) uncreated)
    by-test false is = refl

-- ---- the initial task joins nothing, and nothing created it

pub initial_unjoined : (past : List EventRecord) → Unbroken past → join_in 1 (joins past) ≡ None
initial_unjoined [] unbroken = refl
initial_unjoined (event ∷ past) unbroken =
    let all : KeepsAll past event = keeps_all past event unbroken.0 in
    by-join (join_of event.call) (right _ (may_join past (join_of event.call)) all.tasks) (initial_unjoined past unbroken.1)
  where
    other : (task g : ℕ) → (task == g + 1) ≡ true → 1 ≤ g → (task == 1) ≡ false
    other task g next one = grind (arith, nat_tests)

    by-join : (join : Option Join) → may_join past join ≡ true → join_in 1 (joins past) ≡ None → join_in 1 (and_more join (joins past)) ≡ None
    by-join None may rest = rest
    by-join (Some join) may rest =
        rw (other join.task (greatest_task past) (left _ _ (right (is_open_region join.region past) _ may)) (greatest_one past)) rest

pub initial_uncreated : (past : List EventRecord) → Unbroken past → is_created 1 past ≡ false
initial_uncreated [] unbroken = refl
initial_uncreated (event ∷ past) unbroken =
    let all : KeepsAll past event = keeps_all past event unbroken.0 in
    by-creation (creation_of event.call) refl (initial_uncreated past unbroken.1)
  where
    other : (task g : ℕ) → task ≡ g + 1 → 1 ≤ g → (task == 1) ≡ false
    other task g next one = grind (arith, nat_tests)

    by-creation : (creation : Option Creation) → creation_of event.call ≡ creation → is_created 1 past ≡ false
        → list_any (λ (one : Creation). one.task == 1) (and_one creation (creations past)) ≡ false
    by-creation None is rest = rest
    by-creation (Some creation) is rest =
        let next : creation.task ≡ greatest_task past + 1 = (creation_keeps past event.thread event.call creation is (keeps_all past event unbroken.0).creations).0 in
        rw (other creation.task (greatest_task past) next (greatest_one past)) rest

-- ---- creators and their tasks

abbrev pub is_below : ℕ → Creation → Bool
is_below g creation = nat_le creation.creator g

below_more : (g h : ℕ) → g ≤ h → (all : List Creation) → list_all (is_below g) all ≡ true → list_all (is_below h) all ≡ true
below_more g h less [] below = refl
below_more g h less (creation ∷ all) below = rw (more creation.creator (left (nat_le creation.creator g) _ below), below_more g h less all (right (nat_le creation.creator g) _ below)) refl
  where
    more : (creator : ℕ) → nat_le creator g ≡ true → nat_le creator h ≡ true
    more creator is = grind (arith, nat_tests)

pub creators_below : (past : List EventRecord) → Unbroken past → list_all (is_below (greatest_task past)) (creations past) ≡ true
creators_below [] unbroken = refl
creators_below (event ∷ past) unbroken =
    by-creation (creation_of event.call) refl (below_more (greatest_task past) (greatest_task (event ∷ past)) (greatest_more event past) (creations past) (creators_below past unbroken.1))
  where
    so : (k g h : ℕ) → k ≤ g → g ≤ h → nat_le k h ≡ true
    so k g h below more = grind (arith, nat_tests)

    by-creation : (creation : Option Creation) → creation_of event.call ≡ creation → list_all (is_below (greatest_task (event ∷ past))) (creations past) ≡ true
        → list_all (is_below (greatest_task (event ∷ past))) (and_one creation (creations past)) ≡ true
    by-creation None is rest = rest
    by-creation (Some creation) is rest =
        let runs : is_just creation.creator (current event.thread past) ≡ true = (creation_keeps past event.thread event.call creation is (keeps_all past event unbroken.0).creations).1 in
        let below : creation.creator ≤ greatest_task past =
        current_below creation.creator event.thread past unbroken.1 (is_current creation.creator (current event.thread past) runs) in
        rw (so creation.creator (greatest_task past) (greatest_task (event ∷ past)) below (greatest_more event past)) rest

-- a task beyond the greatest created none
none_of : (p : Creation → Bool) (k g : ℕ) (all : List Creation) → k ≡ g + 1 → list_all (is_below g) all ≡ true
    → count_by (λ (creation : Creation). (creation.creator == k) && p creation) all ≡ 0
none_of p k g [] next below = refl
none_of p k g (creation ∷ all) next below =
    sum_by-cons (λ (x : Creation). cond {A = ℕ} ((x.creator == k) && p x) 1 0) creation all
    ∙ rw (differs creation.creator (left (nat_le creation.creator g) _ below), none_of p k g all next (right (nat_le creation.creator g) _ below)) refl
  where
    differs : (creator : ℕ) → nat_le creator g ≡ true → (creator == k) ≡ false
    differs creator is = grind (arith, nat_tests)

pub beyond_childless : (k : ℕ) (past : List EventRecord) → Unbroken past → k ≡ greatest_task past + 1 → children_of k past ≡ 0
beyond_childless k past unbroken next = none_of (λ (creation : Creation). not (is_complete creation.task past)) k (greatest_task past) (creations past) next (creators_below past unbroken)

-- ---- each task is created once

abbrev is_other_task : ℕ → Creation → Bool
is_other_task task creation = not (creation.task == task)

abbrev Single : List Creation → Type 0
Single [] = Unit {0}
Single (creation ∷ all) = (list_all (is_other_task creation.task) all ≡ true) × Single all

others : (task : ℕ) (all : List Creation) → list_any (λ (one : Creation). one.task == task) all ≡ false → list_all (is_other_task task) all ≡ true
others task [] none = refl
others task (creation ∷ all) none = by-test (creation.task == task) none (others task all)
  where
    by-test : (b : Bool) → (b || list_any (λ (one : Creation). one.task == task) all) ≡ false → (list_any (λ (one : Creation). one.task == task) all ≡ false → list_all (is_other_task task) all ≡ true)
        → (not b && list_all (is_other_task task) all) ≡ true
    by-test true none rest = absurd (cc)
    by-test false none rest = rest none

pub single : (past : List EventRecord) → Unbroken past → Single (creations past)
single [] unbroken = tt
single (event ∷ past) unbroken = by-creation (creation_of event.call) refl (single past unbroken.1)
  where
    by-creation : (creation : Option Creation) → creation_of event.call ≡ creation → Single (creations past) → Single (and_one creation (creations past))
    by-creation None is rest = rest
    by-creation (Some creation) is rest =
        let next : creation.task ≡ greatest_task past + 1 = (creation_keeps past event.thread event.call creation is (keeps_all past event unbroken.0).creations).0 in
        (others creation.task (creations past) (beyond_uncreated creation.task past next), rest)

-- ---- the count of children after a creation, and after a completion

pub one_more : (k : ℕ) (past : List EventRecord) (creation : Creation) → is_complete creation.task past ≡ false
    → count_by (λ (one : Creation). (one.creator == k) && not (is_complete one.task past)) (creation ∷ creations past) ≡ cond {A = ℕ} (creation.creator == k) 1 0 + children_of k past
one_more k past creation whole =
    sum_by-cons (λ (x : Creation). cond {A = ℕ} ((x.creator == k) && not (is_complete x.task past)) 1 0) creation (creations past)
    ∙ rw whole (by-test (creation.creator == k))
  where
    by-test : (b : Bool) → cond {A = ℕ} (b && true) 1 0 + children_of k past ≡ cond {A = ℕ} b 1 0 + children_of k past
    by-test true = refl
    by-test false = refl

abbrev left_after : (ℕ → Bool) → ℕ → ℕ → Creation → Bool
left_after complete task k creation = (creation.creator == k) && not ((task == creation.task) || complete creation.task)

abbrev left_before : (ℕ → Bool) → ℕ → Creation → Bool
left_before complete k creation = (creation.creator == k) && not (complete creation.task)

same_count : (complete : ℕ → Bool) (task k : ℕ) (all : List Creation) → list_all (is_other_task task) all ≡ true
    → count_by (left_after complete task k) all ≡ count_by (left_before complete k) all
same_count complete task k [] apart-all = refl
same_count complete task k (creation ∷ all) apart-all =
    sum_by-cons (λ (x : Creation). cond {A = ℕ} (left_after complete task k x) 1 0) creation all
    ∙ (rw (flip creation.task (left (not (creation.task == task)) _ apart-all), same_count complete task k all (right (not (creation.task == task)) _ apart-all)) refl
    ∙ sym (sum_by-cons (λ (x : Creation). cond {A = ℕ} (left_before complete k x) 1 0) creation all))
  where
    flip : (n : ℕ) → not (n == task) ≡ true → (task == n) ≡ false
    flip n other = grind (arith, nat_tests)

pub one_less : (complete : ℕ → Bool) (task k : ℕ) (all : List Creation) (creation : Creation) → Single all → creation_in task all ≡ Some creation → complete task ≡ false
    → count_by (left_after complete task k) all + cond {A = ℕ} (creation.creator == k) 1 0 ≡ count_by (left_before complete k) all
one_less complete task k [] creation sound found whole = absurd (cc)
one_less complete task k (first ∷ all) creation sound found whole =
    rw (sum_by-cons (λ (x : Creation). cond {A = ℕ} (left_after complete task k x) 1 0) first all, sum_by-cons (λ (x : Creation). cond {A = ℕ} (left_before complete k x) 1 0) first all)
    (by-test (first.task == task) refl found (λ is. one_less complete task k all creation sound.1 is whole))
  where
    flip : (n : ℕ) → (n == task) ≡ false → (task == n) ≡ false
    flip n other = grind (arith, nat_tests)

    sum : (b : Bool) (m : ℕ) → cond {A = ℕ} (b && false) 1 0 + m + cond {A = ℕ} b 1 0 ≡ cond {A = ℕ} (b && true) 1 0 + m
    sum true m = omega arith
    sum false m = omega arith

    by-test : (b : Bool) → (first.task == task) ≡ b → cond b (Some first) (creation_in task all) ≡ Some creation
        → (creation_in task all ≡ Some creation → count_by (left_after complete task k) all + cond {A = ℕ} (creation.creator == k) 1 0 ≡ count_by (left_before complete k) all)
        → cond {A = ℕ} (left_after complete task k first) 1 0 + count_by (left_after complete task k) all + cond {A = ℕ} (creation.creator == k) 1 0
        ≡ cond {A = ℕ} (left_before complete k first) 1 0 + count_by (left_before complete k) all
    by-test true same is rest =
        let e : first ≡ creation = cc in
        let f : first.task ≡ task = eqb-true first.task task same in
        let g : complete first.task ≡ false = rw f whole in
        let h : (task == first.task) ≡ true = eq-eqb task first.task (sym f) in
        let apart-all : list_all (is_other_task task) all ≡ true = subst (λ (n : ℕ). list_all (is_other_task n) all ≡ true) f sound.0 in
        rw (← e, h, g, same_count complete task k all apart-all) (sum (first.creator == k) (count_by (left_before complete k) all))
    by-test false other is rest =
        rw (flip first.task other) (omega (arith, rest is))
