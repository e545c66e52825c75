-- Who waits, creates or leaves was made before, so a task beyond the greatest has done nothing yet.
use Rattle.std.proofs.Common.{◌≡◌, ℕ, ◌+◌, ◌≤◌, ◌<◌, ◌==◌, ◌&&◌, Bool, true, false, cond, not, max, List, [], ◌∷◌, count_by, Option, Some, None, refl, ◌∙◌, ap, subst, arith}
use Rattle.std.specs.Prelude.{nat_le}
use Rattle.std.specs.List.{list_all}
use Rattle.std.proofs.lemmas.Bool.{eqb-true}
use Rattle.std.proofs.lemmas.Bool.Decides.{nat_tests}
use Rattle.std.proofs.lemmas.List.Sums.{sum_by-cons}
use Rattle.ompt_calls.specs.declared.call.Call.{Call}
use Rattle.ompt_calls.specs.declared.call.Call.TheVariants.{TaskCreate, ImplicitTask, SyncRegionWait}
use Rattle.ompt_calls.specs.declared.event.EventRecord.{EventRecord}
use Rattle.trace_check.specs.declared.bracket.Bracket.{Bracket}
use Rattle.trace_check.specs.declared.bracket.Bracket.TheVariants.{Parallel, Implicit, Explicit, Worksharing, Masking, Syncing, Waiting}
use Rattle.trace_check.specs.declared.change.Change.TheVariants.{Opens, Closes, Stays}
use Rattle.trace_check.specs.Brackets.{current_in, is_innermost}
use Rattle.trace_check.specs.Before.{Creation, creation_of, creations, current, greatest_task, has_left, is_barrier, is_complete, is_just, left_task, opened, task_made, waiter, waits_of}
use Rattle.trace_check.specs.Rules.{keeps_brackets, keeps_creations, may_change}
use Rattle.trace_check.specs.Checking.{Unbroken, children_of, creation_in}
use Rattle.trace_check.proofs.Kept12.{KeepsAll, keeps_all}
use Rattle.trace_check.proofs.Creations.{creators_below, current_below, is_below}
use Rattle.trace_check.proofs.Tests.{left, right}

-- ---- who leaves, waits or creates is the current task

runs_so : (n k : ℕ) (found : Option ℕ) → is_just n found ≡ true → n ≡ k → found ≡ Some k
runs_so n k None is same = absurd (cc)
runs_so n k (Some m) is same = ap (λ (v : ℕ). Some v) (eqb-true m n is ∙ same)

innermost_runs : (n : ℕ) (brackets : List Bracket) → is_innermost brackets (Implicit n) ≡ true → current_in brackets ≡ Some n
innermost_runs n [] is = absurd (cc)
innermost_runs n (Implicit task ∷ brackets) is = ap (λ (v : ℕ). Some v) (eqb-true task n is)
innermost_runs n (Parallel region ∷ brackets) is = absurd (cc)
innermost_runs n (Explicit prior next ∷ brackets) is = absurd (cc)
innermost_runs n (Worksharing region task kind count ∷ brackets) is = absurd (cc)
innermost_runs n (Masking task ∷ brackets) is = absurd (cc)
innermost_runs n (Syncing task kind ∷ brackets) is = absurd (cc)
innermost_runs n (Waiting task kind ∷ brackets) is = absurd (cc)

pub left_runs : (past : List EventRecord) (t k : ℕ) (call : Call) → keeps_brackets past t call ≡ true → left_task call ≡ Some k → current t past ≡ Some k
left_runs past t k (ImplicitTask endpoint region task actual index flags) keeps is =
    by-test (endpoint == 1) (endpoint == 2) (one_end endpoint) (left _ _ keeps) is
  where
    one_end : (s : ℕ) → (s == 1) ≡ true → (s == 2) ≡ false
    one_end s one = grind (arith, nat_tests)

    by-test : (a b : Bool) → (a ≡ true → b ≡ false)
        → may_change past t (cond a (Opens (Implicit task.identity)) (cond b (Closes (Implicit task.identity)) Stays)) ≡ true
        → cond b (Some task.identity) None ≡ Some k → current t past ≡ Some k
    by-test true true apart may is = let e : true ≡ false = apart refl in absurd (cc)
    by-test true false apart may is = absurd (cc)
    by-test false true apart may is = innermost_runs task.identity (opened t past) may ∙ is
    by-test false false apart may is = absurd (cc)
left_runs past t k other keeps is = absurd (cc)

pub waiter_runs : (past : List EventRecord) (t k : ℕ) (call : Call) → keeps_brackets past t call ≡ true → waiter call ≡ Some k → current t past ≡ Some k
waiter_runs past t k (SyncRegionWait kind endpoint region task codeptr) keeps is =
    by-test (endpoint == 1) (is_barrier kind) (endpoint == 2) (left _ _ keeps) is
  where
    same : Some task.identity ≡ Some k → task.identity ≡ k
    same e = cc

    by-test : (a b d : Bool) → may_change past t (cond a (Opens (Waiting task.identity kind)) (cond d (Closes (Waiting task.identity kind)) Stays)) ≡ true
        → cond (a && b) (Some task.identity) None ≡ Some k → current t past ≡ Some k
    by-test true true d may is = runs_so task.identity k (current t past) may (same is)
    by-test true false d may is = absurd (cc)
    by-test false b d may is = absurd (cc)
waiter_runs past t k other keeps is = absurd (cc)

pub creator_runs : (past : List EventRecord) (t : ℕ) (creation : Creation) (call : Call) → keeps_creations past t call ≡ true
    → creation_of call ≡ Some creation → current t past ≡ Some creation.creator
creator_runs past t creation (TaskCreate task frame fresh flags has_dependences codeptr) keeps is =
    runs_so task.identity creation.creator (current t past) (right (fresh.identity == greatest_task past + 1) _ keeps) (same is)
  where
    same : Some (record { creator = task.identity; task = fresh.identity }) ≡ Some creation → task.identity ≡ creation.creator
    same e = let f : record { creator = task.identity; task = fresh.identity } ≡ creation = cc in ap (λ (c : Creation). c.creator) f
creator_runs past t creation other keeps is = absurd (cc)

-- ---- a task beyond the greatest has done nothing

before_less : (n g k : ℕ) → max n g < k → g < k
before_less n g k beyond = omega arith

not_just : (k g : ℕ) (found : Option ℕ) → g < k → ((n : ℕ) → found ≡ Some n → n ≤ g) → is_just k found ≡ false
not_just k g None beyond made = refl
not_just k g (Some n) beyond made = differs n (made n refl)
  where
    differs : (m : ℕ) → m ≤ g → (m == k) ≡ false
    differs m below = grind (arith, nat_tests)

pub left_none : (k : ℕ) (past : List EventRecord) → Unbroken past → greatest_task past < k → has_left k past ≡ false
left_none k [] unbroken beyond = refl
left_none k (event ∷ past) unbroken beyond =
    let all : KeepsAll past event = keeps_all past event unbroken.0 in
    let less : greatest_task past < k = before_less (task_made event.call) (greatest_task past) k beyond in
    rw (
      not_just k (greatest_task past) (left_task event.call) less
          (λ n is. current_below n event.thread past unbroken.1 (left_runs past event.thread n event.call all.brackets is)),
      left_none k past unbroken.1 less,
    ) refl

pub waits_cons : (k : ℕ) (event : EventRecord) (past : List EventRecord)
    → waits_of k (event ∷ past) ≡ cond (is_just k (waiter event.call)) 1 0 + waits_of k past
waits_cons k event past = sum_by-cons (λ (x : EventRecord). cond (is_just k (waiter x.call)) 1 0) event past

pub waits_none : (k : ℕ) (past : List EventRecord) → Unbroken past → greatest_task past < k → waits_of k past ≡ 0
waits_none k [] unbroken beyond = refl
waits_none k (event ∷ past) unbroken beyond =
    let all : KeepsAll past event = keeps_all past event unbroken.0 in
    let less : greatest_task past < k = before_less (task_made event.call) (greatest_task past) k beyond in
    waits_cons k event past ∙ rw (
      not_just k (greatest_task past) (waiter event.call) less
          (λ n is. current_below n event.thread past unbroken.1 (waiter_runs past event.thread n event.call all.brackets is)),
      waits_none k past unbroken.1 less,
    ) refl

-- that of one created task
pub creator_made : (g k : ℕ) (all : List Creation) (creation : Creation) → list_all (is_below g) all ≡ true → creation_in k all ≡ Some creation
    → creation.creator ≤ g
creator_made g k [] creation made is = absurd (cc)
creator_made g k (other ∷ all) creation made is =
    by-test (other.task == k) is (left (nat_le other.creator g) _ made) (creator_made g k all creation (right (nat_le other.creator g) _ made))
  where
    below : (n : ℕ) → nat_le n g ≡ true → n ≤ g
    below n is = grind (arith, nat_tests)

    by-test : (b : Bool) → cond b (Some other) (creation_in k all) ≡ Some creation → nat_le other.creator g ≡ true
        → (creation_in k all ≡ Some creation → creation.creator ≤ g) → creation.creator ≤ g
    by-test true is made rest = let e : other ≡ creation = cc in subst (λ (c : Creation). c.creator ≤ g) e (below other.creator made)
    by-test false is made rest = rest is

none_created : (k g : ℕ) (past : List EventRecord) (all : List Creation) → g < k → list_all (is_below g) all ≡ true
    → count_by (λ (creation : Creation). (creation.creator == k) && not (is_complete creation.task past)) all ≡ 0
none_created k g past [] beyond made = refl
none_created k g past (creation ∷ all) beyond made =
    sum_by-cons (λ (x : Creation). cond ((x.creator == k) && not (is_complete x.task past)) 1 0) creation all
    ∙ rw (differs creation.creator (left (nat_le creation.creator g) _ made), none_created k g past all beyond (right (nat_le creation.creator g) _ made)) refl
  where
    differs : (m : ℕ) → nat_le m g ≡ true → (m == k) ≡ false
    differs m below = grind (arith, nat_tests)

pub children_none : (k : ℕ) (past : List EventRecord) → Unbroken past → greatest_task past < k → children_of k past ≡ 0
children_none k past unbroken beyond = none_created k (greatest_task past) past (creations past) beyond (creators_below past unbroken)
