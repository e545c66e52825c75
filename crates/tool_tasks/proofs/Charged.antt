-- The tasks on the stacks were made, so nothing is charged to task 0 or to a task beyond the greatest.
use Rattle.std.proofs.Common.{◌≡◌, ℕ, ◌<◌, ◌≤◌, ◌==◌, ◌&&◌, ◌||◌, Bool, true, false, cond, not, max, drop, List, [], ◌∷◌, Option, Some, None, refl, arith, ◌+◌}
use Rattle.std.specs.List.{list_any}
use Rattle.std.proofs.lemmas.Bool.{eqb-true}
use Rattle.std.proofs.lemmas.Bool.Decides.{nat_tests}
use Rattle.ompt_calls.specs.declared.call.Call.{Call}
use Rattle.ompt_calls.specs.declared.call.Call.TheVariants.{ImplicitTask, TaskSchedule, ThreadBegin}
use Rattle.ompt_calls.specs.declared.event.EventRecord.{EventRecord}
use Rattle.trace_check.specs.Before.{Creation, join_of, and_one, creation_of, creations, is_open_region, events_of, greatest_task, has_started, is_created, is_just, task_made}
use Rattle.trace_check.specs.Checking.{Unbroken}
use Rattle.trace_check.specs.Rules.{first_broken, keeps_starts, keeps_tasks, may_join}
use Rattle.trace_check.proofs.Children.{made_below}
use Rattle.trace_check.proofs.TaskEvents.{creation_keeps}
use Rattle.trace_check.proofs.Kept12.{KeepsAll, keeps_all}
use Rattle.trace_check.proofs.Tests.{left, right}
use Rattle.tool_tasks.specs.declared.stack_step.StackStep.{StackStep}
use Rattle.tool_tasks.specs.declared.stack_step.StackStep.TheVariants.{Push, Pop, Stay}
use Rattle.tool_tasks.specs.Charge.{charge_by, charged_task, charges_of, stack_after, stack_step, tasks_on, top_of}

-- all are at least 1 and at most this
abbrev AllBelow : ℕ → List ℕ → Type 0
AllBelow g [] = Unit {0}
AllBelow g (k ∷ rest) = ((1 ≤ k) × (k ≤ g)) × AllBelow g rest

more : (g h : ℕ) → g ≤ h → (all : List ℕ) → AllBelow g all → AllBelow h all
more g h less [] below = tt
more g h less (k ∷ rest) below = let e : k ≤ g = below.0.1 in ((below.0.0, omega arith), more g h less rest below.1)

behind : (g : ℕ) (all : List ℕ) → AllBelow g all → AllBelow g (drop 1 all)
behind g [] below = tt
behind g (k ∷ rest) below = below.1

-- ---- a task that is pushed was made

abbrev PushBelow : ℕ → StackStep → Type 0
PushBelow g (Push task) = (1 ≤ task) × (task ≤ g)
PushBelow g other = Unit {0}

greatest_one : (past : List EventRecord) → 1 ≤ greatest_task past
greatest_one [] = omega arith
greatest_one (event ∷ past) = let e : 1 ≤ greatest_task past = greatest_one past in omega arith

-- a task that was created isn't task 0
created_some : (k : ℕ) (past : List EventRecord) → Unbroken past → is_created k past ≡ true → 1 ≤ k
created_some k [] unbroken created = absurd (cc)
created_some k (event ∷ past) unbroken created = by-creation (creation_of event.call) refl created (created_some k past unbroken.1)
  where
    by-test : (task : ℕ) (b : Bool) → task ≡ greatest_task past + 1 → (task == k) ≡ b → (b || is_created k past) ≡ true → (is_created k past ≡ true → 1 ≤ k) → 1 ≤ k
    by-test task true next is created rest = let e : task ≡ k = eqb-true task k is in omega arith
    by-test task false next is created rest = rest created

    by-creation : (creation : Option Creation) → creation_of event.call ≡ creation → list_any (λ (one : Creation). one.task == k) (and_one creation (creations past)) ≡ true
        → (is_created k past ≡ true → 1 ≤ k) → 1 ≤ k
    by-creation None is created rest = rest created
    by-creation (Some creation) is created rest =
        let next : creation.task ≡ greatest_task past + 1 = (creation_keeps past event.thread event.call creation is (keeps_all past event unbroken.0).creations).0 in
        by-test creation.task (creation.task == k) next refl created rest

push_below : (past : List EventRecord) (t : ℕ) (call : Call) → Unbroken past → keeps_tasks past t call ≡ true → keeps_starts past call ≡ true
    → PushBelow (max (task_made call) (greatest_task past)) (stack_step call)
push_below past t (ImplicitTask endpoint region task actual index flags) unbroken tasks starts =
    by-test (endpoint == 1) (endpoint == 2) (flags == 1) (left _ _ tasks) (right _ (may_join past (join_of (ImplicitTask endpoint region task actual index flags))) tasks)
  where
    task_is : (a b c d e : Bool) → (a && (b && (c && ((task.identity == 1) && (d && e))))) ≡ true → task.identity ≡ 1
    task_is a b c d e is = eqb-true task.identity 1 (left (task.identity == 1) _ (right c _ (right b _ (right a _ is))))

    by-initial : (a c : Bool) → cond c (a && (true && ((region.identity == 1) && ((task.identity == 1) && ((actual == 1) && (index == 1)))))) (not (a && true)) ≡ true → a ≡ true
        → (1 ≤ task.identity) × (task.identity ≤ max (cond (a && false) task.identity 0) (greatest_task past))
    by-initial true true is begin =
        let e : task.identity ≡ 1 = task_is true true (region.identity == 1) (actual == 1) (index == 1) is in
        let g : 1 ≤ greatest_task past = greatest_one past in
        (omega arith, omega arith)
    by-initial true false is begin = absurd (cc)
    by-initial false c is begin = absurd (cc)

    by-test : (a b f : Bool)
        → cond ((t == 0) && (events_of 0 past == 1)) (a && (f && ((region.identity == 1) && ((task.identity == 1) && ((actual == 1) && (index == 1)))))) (not (a && f)) ≡ true
        → may_join past (cond (a && not f) (Some (record { region = region.identity; task = task.identity; actual = actual; index = index })) None) ≡ true
        → PushBelow (max (cond (a && not f) task.identity 0) (greatest_task past)) (cond a (Push task.identity) (cond b Pop Stay))
    by-test true b true is may = by-initial true ((t == 0) && (events_of 0 past == 1)) is refl
    by-test true b false is may =
        let e : task.identity ≡ greatest_task past + 1 = eqb-true task.identity (greatest_task past + 1) (left _ _ (right (is_open_region region.identity past) _ may)) in
        (omega arith, omega arith)
    by-test false true f is may = tt
    by-test false false f is may = tt
push_below past t (TaskSchedule prior status next) unbroken tasks starts = by-test (status == 7) (status == 1) starts
  where
    by-test : (a b : Bool) → (not a || (is_created next.identity past && not (has_started next.identity past))) ≡ true
        → PushBelow (max 0 (greatest_task past)) (cond a (Push next.identity) (cond b Pop Stay))
    by-test true b is =
        let made : is_created next.identity past ≡ true = left (is_created next.identity past) _ is in
        let e : next.identity ≤ greatest_task past = made_below next.identity past made in
        (created_some next.identity past unbroken made, omega arith)
    by-test false true is = tt
    by-test false false is = tt
push_below past t (ThreadBegin kind thread) unbroken tasks starts = tt
push_below past t other unbroken tasks starts = tt

-- ---- all on a stack were

after : (g : ℕ) (step : StackStep) (tasks : List ℕ) → PushBelow g step → AllBelow g tasks → AllBelow g (stack_after step tasks)
after g (Push task) tasks pushed below = (pushed, below)
after g Pop tasks pushed below = behind g tasks below
after g Stay tasks pushed below = below

step_below : (past : List EventRecord) (event : EventRecord) → Unbroken past → first_broken past event ≡ None → PushBelow (greatest_task (event ∷ past)) (stack_step event.call)
step_below past event unbroken keeps =
    let all : KeepsAll past event = keeps_all past event keeps in
    push_below past event.thread event.call unbroken all.tasks all.starts

greatest_more : (event : EventRecord) (past : List EventRecord) → greatest_task past ≤ greatest_task (event ∷ past)
greatest_more event past = omega arith

stack_below : (t : ℕ) (past : List EventRecord) → Unbroken past → AllBelow (greatest_task past) (tasks_on t past)
stack_below t [] unbroken = tt
stack_below t (event ∷ past) unbroken =
    by-test (event.thread == t) (more (greatest_task past) (greatest_task (event ∷ past)) (greatest_more event past) (tasks_on t past) (stack_below t past unbroken.1))
  where
    by-test : (b : Bool) → AllBelow (greatest_task (event ∷ past)) (tasks_on t past)
        → AllBelow (greatest_task (event ∷ past)) (cond b (stack_after (stack_step event.call) (tasks_on t past)) (tasks_on t past))
    by-test true rest = after (greatest_task (event ∷ past)) (stack_step event.call) (tasks_on t past) (step_below past event unbroken.1 unbroken.0) rest
    by-test false rest = rest

-- ---- what is charged was made

abbrev ChargeBelow : ℕ → Option ℕ → Type 0
ChargeBelow g None = Unit {0}
ChargeBelow g (Some task) = (1 ≤ task) × (task ≤ g)

of_top : (g : ℕ) (tasks : List ℕ) → AllBelow g tasks → ChargeBelow g (top_of tasks)
of_top g [] below = tt
of_top g (task ∷ tasks) below = below.0

of_step : (g : ℕ) (step : StackStep) (tasks : List ℕ) → PushBelow g step → AllBelow g tasks → ChargeBelow g (charge_by step tasks)
of_step g (Push task) tasks pushed below = pushed
of_step g Pop tasks pushed below = of_top g tasks below
of_step g Stay tasks pushed below = of_top g tasks below

charge_below : (past : List EventRecord) (event : EventRecord) → Unbroken past → first_broken past event ≡ None → ChargeBelow (greatest_task (event ∷ past)) (charged_task past event)
charge_below past event unbroken keeps =
    of_step (greatest_task (event ∷ past)) (stack_step event.call) (tasks_on event.thread past) (step_below past event unbroken keeps)
    (more (greatest_task past) (greatest_task (event ∷ past)) (greatest_more event past) (tasks_on event.thread past) (stack_below event.thread past unbroken))

missed : (k g : ℕ) (task : Option ℕ) → g < k → ChargeBelow g task → is_just k task ≡ false
missed k g None less below = refl
missed k g (Some task) less below = differs task below.1
  where
    differs : (n : ℕ) → n ≤ g → (n == k) ≡ false
    differs n is = grind (arith, nat_tests)

pub no_charges : (k : ℕ) (past : List EventRecord) → Unbroken past → greatest_task past < k → charges_of k past ≡ 0
no_charges k [] unbroken beyond = refl
no_charges k (event ∷ past) unbroken beyond =
    let less : greatest_task past < k = omega arith in
    let none : is_just k (charged_task past event) ≡ false = missed k (greatest_task (event ∷ past)) (charged_task past event) beyond (charge_below past event unbroken.1 unbroken.0) in
    rw (no_charges k past unbroken.1 less, none) refl

missed_zero : (g : ℕ) (task : Option ℕ) → ChargeBelow g task → is_just 0 task ≡ false
missed_zero g None below = refl
missed_zero g (Some task) below = differs task below.0
  where
    differs : (n : ℕ) → 1 ≤ n → (n == 0) ≡ false
    differs n is = grind (arith, nat_tests)

pub no_zero_charges : (past : List EventRecord) → Unbroken past → charges_of 0 past ≡ 0
no_zero_charges [] unbroken = refl
no_zero_charges (event ∷ past) unbroken =
    let none : is_just 0 (charged_task past event) ≡ false = missed_zero (greatest_task (event ∷ past)) (charged_task past event) (charge_below past event unbroken.1 unbroken.0) in
    rw (no_zero_charges past unbroken.1, none) refl
