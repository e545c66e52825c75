-- The current task of a thread stands: it is in an open region, or created and not complete.
use Rattle.std.proofs.Common.{◌≡◌, ℕ, ◌+◌, ◌≤◌, ◌==◌, ◌&&◌, ◌||◌, ◌⊎◌, Bool, true, false, cond, not, max, List, [], ◌∷◌, filter, Option, Some, None, refl, sym, ◌∙◌, ap, subst, inl, inr, arith}
use Rattle.std.specs.List.{list_all, list_any}
use Rattle.std.proofs.lemmas.Bool.{eqb-true, eq-eqb}
use Rattle.std.proofs.lemmas.Bool.Decides.{nat_tests}
use Rattle.ompt_calls.specs.declared.call.Call.{Call}
use Rattle.ompt_calls.specs.declared.call.Call.TheVariants.{ParallelBegin, ParallelEnd, TaskCreate, TaskSchedule, ImplicitTask}
use Rattle.ompt_calls.specs.declared.event.EventRecord.{EventRecord}
use Rattle.trace_check.specs.declared.bracket.Bracket.{Bracket}
use Rattle.trace_check.specs.declared.bracket.Bracket.TheVariants.{Parallel, Implicit, Explicit, Worksharing, Masking, Syncing, Waiting}
use Rattle.trace_check.specs.Brackets.{current_in}
use Rattle.trace_check.specs.Before.{Creation, Join, and_more, and_one, creation_of, creations, greatest_task, has_begun_region, has_ended_region, has_left, has_started, is_created, is_just, is_open_region, join_of, joins, left_task, opened, region_begun, region_ended, task_made, task_started}
use Rattle.trace_check.specs.Rules.{keeps_creations, keeps_starts, keeps_teams, may_join}
use Rattle.trace_check.specs.Checking.{Unbroken}
use Rattle.trace_check.proofs.Kept12.{KeepsAll, keeps_all}
use Rattle.trace_check.proofs.Once.{Once, has_closed, has_opened, marks, open_on, share}
use Rattle.trace_check.proofs.Names.{of_explicit, of_implicit}
use Rattle.trace_check.proofs.Joined.{join_in, joins_made}
use Rattle.trace_check.proofs.Implicit.{not_joined}
use Rattle.trace_check.proofs.Tests.{apart, left, right}

-- ---- the region of a task that hasn't left is open

abbrev Stands : List EventRecord → Join → Bool
Stands past join = is_open_region join.region past || has_left join.task past

or_right : (a b : Bool) → (a || (b || true)) ≡ true
or_right true b = refl
or_right false true = refl
or_right false false = refl

keep_open : (a b e m l : Bool) → ((b && not e) || l) ≡ true → (((a || b) && not e) || (m || l)) ≡ true
keep_open a b e m true stood = or_right ((a || b) && not e) m
keep_open true true false m false stood = refl
keep_open false true false m false stood = refl
keep_open a true true m false stood = absurd (cc)
keep_open a false e m false stood = absurd (cc)

keep_end : (s b e l : Bool) → (s ≡ true → l ≡ true) → ((b && not e) || l) ≡ true → ((b && not (s || e)) || l) ≡ true
keep_end true b e true gone stood = or_right (b && false) false
keep_end true b e false gone stood = absurd (apart false (gone refl) refl)
keep_end false b e l gone stood = stood

all_more : (p q : Join → Bool) → ((join : Join) → p join ≡ true → q join ≡ true) → (all : List Join) → list_all p all ≡ true → list_all q all ≡ true
all_more p q more [] holds = refl
all_more p q more (join ∷ all) holds = rw (more join (left (p join) _ holds), all_more p q more all (right (p join) _ holds)) refl

all_ended : (r : ℕ) (p q l : Join → Bool) → ((join : Join) → ((join.region == r) ≡ true → l join ≡ true) → p join ≡ true → q join ≡ true) → (all : List Join)
    → list_all l (filter (λ (join : Join). join.region == r) all) ≡ true → list_all p all ≡ true → list_all q all ≡ true
all_ended r p q l more [] gone holds = refl
all_ended r p q l more (join ∷ all) gone holds =
    rw (more join (λ same. head (join.region == r) same gone) (left (p join) _ holds), all_ended r p q l more all (tail (join.region == r) gone) (right (p join) _ holds)) refl
  where
    head : (b : Bool) → b ≡ true → list_all l (cond b (join ∷ filter (λ (other : Join). other.region == r) all) (filter (λ (other : Join). other.region == r) all)) ≡ true → l join ≡ true
    head true is holds = left (l join) _ holds
    head false is holds = absurd (cc)

    tail : (b : Bool) → list_all l (cond b (join ∷ filter (λ (other : Join). other.region == r) all) (filter (λ (other : Join). other.region == r) all)) ≡ true → list_all l (filter (λ (other : Join). other.region == r) all) ≡ true
    tail true holds = right (l join) _ holds
    tail false holds = holds

flip_eq : (a b : ℕ) → (a == b) ≡ true → (b == a) ≡ true
flip_eq a b same = grind (arith, nat_tests)

-- after one more call
abbrev After : List EventRecord → Call → Join → Bool
After past call join =
    ((is_just join.region (region_begun call) || has_begun_region join.region past) && not (is_just join.region (region_ended call) || has_ended_region join.region past))
    || (is_just join.task (left_task call) || has_left join.task past)

pub all_stand : (past : List EventRecord) → Unbroken past → list_all (Stands past) (joins past) ≡ true
all_stand [] unbroken = refl
all_stand (event ∷ past) unbroken =
    let all : KeepsAll past event = keeps_all past event unbroken.0 in
    by-call event.call all.teams (right _ (may_join past (join_of event.call)) all.tasks) (all_stand past unbroken.1)
  where
    second_all : (n : ℕ) (team : List Join) → list_all (λ (join : Join). (join.actual == n) && has_left join.task past) team ≡ true → list_all (λ (join : Join). has_left join.task past) team ≡ true
    second_all n team holds = all_more _ _ (λ join both. right (join.actual == n) (has_left join.task past) both) team holds

    old_joins : (endpoint : ℕ) (task : ℕ) → list_all (Stands past) (joins past) ≡ true
        → list_all (λ (other : Join). (has_begun_region other.region past && not (has_ended_region other.region past)) || (is_just other.task (cond (endpoint == 2) (Some task) None) || has_left other.task past)) (joins past) ≡ true
    old_joins endpoint task stood = all_more _ _ (λ other. keep_open false (has_begun_region other.region past) (has_ended_region other.region past) (is_just other.task (cond (endpoint == 2) (Some task) None)) (has_left other.task past)) (joins past) stood

    by-join : (endpoint : ℕ) (task : ℕ) (join : Option Join) → may_join past join ≡ true → list_all (Stands past) (joins past) ≡ true
        → list_all (λ (other : Join). (has_begun_region other.region past && not (has_ended_region other.region past)) || (is_just other.task (cond (endpoint == 2) (Some task) None) || has_left other.task past)) (and_more join (joins past)) ≡ true
    by-join endpoint task None may stood = old_joins endpoint task stood
    by-join endpoint task (Some join) may stood =
        rw (left (is_open_region join.region past) _ may, old_joins endpoint task stood) refl

    by-call : (call : Call) → keeps_teams past call ≡ true → may_join past (join_of call) ≡ true → list_all (Stands past) (joins past) ≡ true → list_all (After past call) (and_more (join_of call) (joins past)) ≡ true
    by-call (ParallelEnd region task flags codeptr) teams may stood =
        all_ended region.identity (Stands past) _ (λ (join : Join). has_left join.task past)
        (λ join gone. keep_end (region.identity == join.region) (has_begun_region join.region past) (has_ended_region join.region past) (has_left join.task past) (λ same. gone (flip_eq region.identity join.region same)))
        (joins past) (second_all _ _ (right _ _ teams)) stood
    by-call (ParallelBegin task frame region requested flags codeptr) teams may stood =
        all_more _ _ (λ join. keep_open (region.identity == join.region) (has_begun_region join.region past) (has_ended_region join.region past) false (has_left join.task past)) (joins past) stood
    by-call (ImplicitTask endpoint region task actual index flags) teams may stood = by-join endpoint task.identity (join_of (ImplicitTask endpoint region task actual index flags)) may stood
    by-call other teams may stood = stood

-- that of one join
pub one_stands : (past : List EventRecord) (task : ℕ) (all : List Join) (join : Join) → join_in task all ≡ Some join → list_all (Stands past) all ≡ true → has_left join.task past ≡ false → is_open_region join.region past ≡ true
one_stands past task [] join found stood stays = absurd (cc)
one_stands past task (other ∷ all) join found stood stays = by-test (other.task == task) found (left (Stands past other) _ stood) (λ is. one_stands past task all join is (right (Stands past other) _ stood) stays)
  where
    so : (a b : Bool) → (a || b) ≡ true → b ≡ false → a ≡ true
    so true b one no-other = refl
    so false b one no-other = absurd (apart b one no-other)

    by-test : (b : Bool) → cond b (Some other) (join_in task all) ≡ Some join → Stands past other ≡ true → (join_in task all ≡ Some join → is_open_region join.region past ≡ true) → is_open_region join.region past ≡ true
    by-test true is stands rest =
        let e : other ≡ join = cc in
        so (is_open_region join.region past) (has_left join.task past) (subst (λ (j : Join). Stands past j ≡ true) e stands) stays
    by-test false is stands rest = rest is

-- ---- created tasks

abbrev is_number : ℕ → Creation → Bool
is_number k creation = creation.task == k

pub made_below : (k : ℕ) (past : List EventRecord) → is_created k past ≡ true → k ≤ greatest_task past
made_below k [] made = absurd (cc)
made_below k (event ∷ past) made = by-call event.call made (made_below k past)
  where
    by-test : (n g : ℕ) (same : Bool) → (n == k) ≡ same → (same || is_created k past) ≡ true → (is_created k past ≡ true → k ≤ g) → k ≤ max n g
    by-test n g true is made rest = let e : n ≡ k = eqb-true n k is in omega arith
    by-test n g false is made rest = let e : k ≤ g = rest made in omega arith

    by-call : (call : Call) → list_any (is_number k) (and_one (creation_of call) (creations past)) ≡ true → (is_created k past ≡ true → k ≤ greatest_task past) → k ≤ max (task_made call) (greatest_task past)
    by-call (TaskCreate task frame fresh flags has_dependences codeptr) made rest = by-test fresh.identity (greatest_task past) (fresh.identity == k) refl made rest
    by-call (ImplicitTask endpoint region task actual index flags) made rest = let e : k ≤ greatest_task past = rest made in omega arith
    by-call other made rest = let e : k ≤ greatest_task past = rest made in omega arith

-- a created task joins no region
pub created_joined : (k : ℕ) (past : List EventRecord) → Unbroken past → is_created k past ≡ true → join_in k (joins past) ≡ None
created_joined k [] unbroken made = refl
created_joined k (event ∷ past) unbroken made =
    let all : KeepsAll past event = keeps_all past event unbroken.0 in
    by-call event.call made (right _ (may_join past (join_of event.call)) all.tasks) all.creations (created_joined k past unbroken.1)
  where
    by-test : (n : ℕ) (same : Bool) → (n == k) ≡ same → (n == greatest_task past + 1) ≡ true → (same || is_created k past) ≡ true → (is_created k past ≡ true → join_in k (joins past) ≡ None) → join_in k (joins past) ≡ None
    by-test n true is next made rest = not_joined k (greatest_task past) (joins past) (sym (eqb-true n k is) ∙ eqb-true n (greatest_task past + 1) next) (joins_made past)
    by-test n false is next made rest = rest made

    beyond : (n : ℕ) (b : Bool) → (n == k) ≡ b → (n == greatest_task past + 1) ≡ true → is_created k past ≡ true → b ≡ false
    beyond n false is next made = refl
    beyond n true is next made =
        let e : n ≡ k = eqb-true n k is in
        let f : n ≡ greatest_task past + 1 = eqb-true n (greatest_task past + 1) next in
        let g : k ≤ greatest_task past = made_below k past made in
        absurd (omega arith)

    by-join : (join : Option Join) → may_join past join ≡ true → is_created k past ≡ true → (is_created k past ≡ true → join_in k (joins past) ≡ None) → join_in k (and_more join (joins past)) ≡ None
    by-join None may made rest = rest made
    by-join (Some join) may made rest =
        rw (beyond join.task (join.task == k) refl (left _ _ (right (is_open_region join.region past) _ may)) made) (rest made)

    by-call : (call : Call) → list_any (is_number k) (and_one (creation_of call) (creations past)) ≡ true → may_join past (join_of call) ≡ true → keeps_creations past event.thread call ≡ true
        → (is_created k past ≡ true → join_in k (joins past) ≡ None) → join_in k (and_more (join_of call) (joins past)) ≡ None
    by-call (TaskCreate task frame fresh flags has_dependences codeptr) made may keeps rest = by-test fresh.identity (fresh.identity == k) refl (left _ _ keeps) made rest
    by-call (ImplicitTask endpoint region task actual index flags) made may keeps rest = by-join (join_of (ImplicitTask endpoint region task actual index flags)) may made rest
    by-call other made may keeps rest = rest made

-- a task that has started was created
pub started_created : (k : ℕ) (past : List EventRecord) → Unbroken past → has_started k past ≡ true → is_created k past ≡ true
started_created k [] unbroken started = absurd (cc)
started_created k (event ∷ past) unbroken started =
    let all : KeepsAll past event = keeps_all past event unbroken.0 in
    by-call event.call started all.starts (started_created k past unbroken.1)
  where
    more : (creation : Option Creation) → is_created k past ≡ true → list_any (is_number k) (and_one creation (creations past)) ≡ true
    more None made = made
    more (Some creation) made = rw made (or_true (creation.task == k))
      where
        or_true : (b : Bool) → (b || true) ≡ true
        or_true true = refl
        or_true false = refl

    by-test : (b : Bool) (next : ℕ) → (is_just k (cond b (Some next) None) || has_started k past) ≡ true → (not b || (is_created next past && not (has_started next past))) ≡ true
        → (has_started k past ≡ true → is_created k past ≡ true) → is_created k past ≡ true
    by-test false next started keeps rest = rest started
    by-test true next started keeps rest = by-same (next == k) refl started
      where
        by-same : (s : Bool) → (next == k) ≡ s → (s || has_started k past) ≡ true → is_created k past ≡ true
        by-same true is started = subst (λ (n : ℕ). is_created n past ≡ true) (eqb-true next k is) (left (is_created next past) _ keeps)
        by-same false is started = rest started

    by-call : (call : Call) → (is_just k (task_started call) || has_started k past) ≡ true → keeps_starts past call ≡ true → (has_started k past ≡ true → is_created k past ≡ true)
        → list_any (is_number k) (and_one (creation_of call) (creations past)) ≡ true
    by-call (TaskSchedule prior status next) started keeps rest = by-test (status == 7) next.identity started keeps rest
    by-call other started keeps rest = more (creation_of other) (rest started)

-- ---- the current task

lifted_task : (k : ℕ) (brackets : List Bracket) → (1 ≤ marks (of_implicit k) brackets) ⊎ (1 ≤ marks (of_explicit k) brackets) → (1 ≤ 0 + marks (of_implicit k) brackets) ⊎ (1 ≤ 0 + marks (of_explicit k) brackets)
lifted_task k brackets (inl one) = inl (omega arith)
lifted_task k brackets (inr one) = inr (omega arith)

pub marked_task : (k : ℕ) (brackets : List Bracket) → current_in brackets ≡ Some k → (1 ≤ marks (of_implicit k) brackets) ⊎ (1 ≤ marks (of_explicit k) brackets)
marked_task k [] runs = absurd (cc)
marked_task k (Implicit task ∷ brackets) runs = let e : task ≡ k = cc in let one : cond {A = ℕ} (task == k) 1 0 ≡ 1 = rw (eq-eqb task k e) refl in inl (omega (arith, one))
marked_task k (Explicit prior next ∷ brackets) runs = let e : next ≡ k = cc in let one : cond {A = ℕ} (next == k) 1 0 ≡ 1 = rw (eq-eqb next k e) refl in inr (omega (arith, one))
marked_task k (Parallel region ∷ brackets) runs = lifted_task k brackets (marked_task k brackets runs)
marked_task k (Worksharing region task kind count ∷ brackets) runs = lifted_task k brackets (marked_task k brackets runs)
marked_task k (Masking task ∷ brackets) runs = lifted_task k brackets (marked_task k brackets runs)
marked_task k (Syncing task kind ∷ brackets) runs = lifted_task k brackets (marked_task k brackets runs)
marked_task k (Waiting task kind ∷ brackets) runs = lifted_task k brackets (marked_task k brackets runs)

-- a bracket that is there was opened and not closed
pub there : (fits : Bracket → Bool) (past : List EventRecord) (t : ℕ) → Once fits past → 1 ≤ marks fits (opened t past) → (has_opened fits past ≡ true) × (has_closed fits past ≡ false)
there fits past t once some =
    (by-open (has_opened fits past) refl, by-close (has_closed fits past) refl)
  where
    nowhere : open_on fits past ≡ None → ⊥
    nowhere none = let e : share t (open_on fits past) ≡ 0 = ap (share t) none in let c : marks fits (opened t past) ≡ share t (open_on fits past) = once.counts t in absurd (omega (arith, e, c, some))

    by-open : (b : Bool) → has_opened fits past ≡ b → b ≡ true
    by-open true is = refl
    by-open false is = absurd (nowhere (once.before_open is))

    by-close : (b : Bool) → has_closed fits past ≡ b → b ≡ false
    by-close false is = refl
    by-close true is = absurd (nowhere (once.closed is))
