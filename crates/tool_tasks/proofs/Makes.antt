-- What an event makes that breaks no rule.
use Rattle.std.proofs.Common.{◌≡◌, ℕ, ◌+◌, ◌<◌, ◌≤◌, ◌==◌, ◌&&◌, Bool, true, false, cond, not, List, [], ◌∷◌, Option, Some, None, refl, ◌∙◌, arith}
use Rattle.std.proofs.lemmas.Bool.{eqb-true}
use Rattle.std.proofs.lemmas.Bool.Decides.{nat_tests}
use Rattle.ompt_calls.specs.declared.call.Call.{Call}
use Rattle.ompt_calls.specs.declared.call.Call.TheVariants.{ImplicitTask, ParallelBegin, TaskCreate, ThreadBegin}
use Rattle.ompt_calls.specs.declared.event.EventRecord.{EventRecord}
use Rattle.trace_check.specs.Before.{Join, current, greatest_region, greatest_task, is_open_region, task_made}
use Rattle.trace_check.specs.Checking.{Unbroken}
use Rattle.trace_check.specs.Rules.{first_broken, keeps_creations, keeps_regions, keeps_tasks, may_join}
use Rattle.trace_check.proofs.Creations.{current_below, is_current}
use Rattle.trace_check.proofs.Kept12.{KeepsAll, keeps_all}
use Rattle.trace_check.proofs.Tests.{left, right}
use Rattle.tool_tasks.specs.declared.making.Making.{Making}
use Rattle.tool_tasks.specs.declared.making.Making.TheVariants.{Region, Implicit, Explicit, Nothing}
use Rattle.tool_tasks.specs.Tree.{Origin, encountering_task, encounters, making_by, or_else, or_zero, origin_of, originates}

-- the task that is made, or 0
abbrev pub task_of : Making → ℕ
task_of (Implicit task region flags) = task
task_of (Explicit task creator flags) = task
task_of other = 0

-- a task that is made is the next one
abbrev pub IsNext : ℕ → Making → Type 0
IsNext greatest (Implicit task region flags) = task ≡ greatest + 1
IsNext greatest (Explicit task creator flags) = task ≡ greatest + 1
IsNext greatest other = Unit {0}

pub is_next : (past : List EventRecord) (t : ℕ) (call : Call) → keeps_tasks past t call ≡ true → keeps_creations past t call ≡ true → IsNext (greatest_task past) (making_by call)
is_next past t (ImplicitTask endpoint region task actual index flags) tasks creations =
    by-test ((endpoint == 1) && not (flags == 1)) (right _ _ tasks)
  where
    join : Join
    join = record { region = region.identity; task = task.identity; actual = actual; index = index }

    by-test : (b : Bool) → may_join past (cond b (Some join) None) ≡ true → IsNext (greatest_task past) (cond b (Implicit task.identity region.identity flags) Nothing)
    by-test true may = eqb-true task.identity (greatest_task past + 1) (left _ _ (right (is_open_region region.identity past) _ may))
    by-test false may = tt
is_next past t (TaskCreate task frame fresh flags has_dependences codeptr) tasks creations =
    eqb-true fresh.identity (greatest_task past + 1) (left (fresh.identity == greatest_task past + 1) _ creations)
is_next past t (ParallelBegin task frame region requested flags codeptr) tasks creations = tt
is_next past t (ThreadBegin kind thread) tasks creations = tt
is_next past t other tasks creations = tt

pub made_is : (call : Call) → task_made call ≡ task_of (making_by call)
made_is (ImplicitTask endpoint region task actual index flags) = by-test ((endpoint == 1) && not (flags == 1))
  where
    by-test : (b : Bool) → cond b task.identity 0 ≡ task_of (cond b (Implicit task.identity region.identity flags) Nothing)
    by-test true = refl
    by-test false = refl
made_is (TaskCreate task frame fresh flags has_dependences codeptr) = refl
made_is (ParallelBegin task frame region requested flags codeptr) = refl
made_is (ThreadBegin kind thread) = refl
made_is other = refl

pub next_of : (past : List EventRecord) (event : EventRecord) → first_broken past event ≡ None → IsNext (greatest_task past) (making_by event.call)
next_of past event keeps =
    let all : KeepsAll past event = keeps_all past event keeps in
    is_next past event.thread event.call all.tasks all.creations

-- ---- a task beyond the greatest was not made, and there is no task 0

abbrev pub Misses : ℕ → Making → Type 0
Misses k (Implicit task region flags) = (task == k) ≡ false
Misses k (Explicit task creator flags) = (task == k) ≡ false
Misses k other = Unit {0}

pub missed : (k : ℕ) (past : List EventRecord) (making : Making) → Misses k making → originates k past making ≡ None
missed k past (Implicit task region flags) misses = rw misses refl
missed k past (Explicit task creator flags) misses = rw misses refl
missed k past (Region region task) misses = refl
missed k past Nothing misses = refl

above : (k : ℕ) (making : Making) → task_of making < k → Misses k making
above k (Implicit task region flags) less = grind (arith, nat_tests)
above k (Explicit task creator flags) less = grind (arith, nat_tests)
above k (Region region task) less = tt
above k Nothing less = tt

pub no_origin : (k : ℕ) (past : List EventRecord) → greatest_task past < k → origin_of k past ≡ None
no_origin k [] beyond = rw (differs k beyond) refl
  where
    differs : (n : ℕ) → 1 < n → (n == 1) ≡ false
    differs n is = grind (arith, nat_tests)
no_origin k (event ∷ past) beyond =
    let less : greatest_task past < k = omega arith in
    let same : task_made event.call ≡ task_of (making_by event.call) = made_is event.call in
    rw (missed k past (making_by event.call) (above k (making_by event.call) (omega (arith, same))), no_origin k past less) refl

unmade : (g : ℕ) (making : Making) → IsNext g making → Misses 0 making
unmade g (Implicit task region flags) next = grind (arith, nat_tests)
unmade g (Explicit task creator flags) next = grind (arith, nat_tests)
unmade g (Region region task) next = tt
unmade g Nothing next = tt

pub no_zero : (past : List EventRecord) → Unbroken past → origin_of 0 past ≡ None
no_zero [] unbroken = refl
no_zero (event ∷ past) unbroken =
    rw (missed 0 past (making_by event.call) (unmade (greatest_task past) (making_by event.call) (next_of past event unbroken.0)), no_zero past unbroken.1) refl

-- ---- a parent is among the tasks

greatest_more : (event : EventRecord) (past : List EventRecord) → greatest_task past ≤ greatest_task (event ∷ past)
greatest_more event past = omega arith

encounterer_runs : (past : List EventRecord) (t r k : ℕ) (call : Call) → keeps_regions past t call ≡ true → encounters r (making_by call) ≡ Some k → current t past ≡ Some k
encounterer_runs past t r k (ParallelBegin task frame region requested flags codeptr) keeps is = by-test (region.identity == r) is
  where
    by-test : (b : Bool) → cond b (Some task.identity) None ≡ Some k → current t past ≡ Some k
    by-test true is = is_current task.identity (current t past) (right (region.identity == greatest_region past + 1) _ keeps) ∙ is
    by-test false is = absurd (cc)
encounterer_runs past t r k (ImplicitTask endpoint region task actual index flags) keeps is = by-test ((endpoint == 1) && not (flags == 1)) is
  where
    by-test : (b : Bool) → encounters r (cond b (Implicit task.identity region.identity flags) Nothing) ≡ Some k → current t past ≡ Some k
    by-test true is = absurd (cc)
    by-test false is = absurd (cc)
encounterer_runs past t r k (ThreadBegin kind thread) keeps is = absurd (cc)
encounterer_runs past t r k other keeps is = absurd (cc)

pub encountering_below : (r k : ℕ) (past : List EventRecord) → Unbroken past → encountering_task r past ≡ Some k → k ≤ greatest_task past
encountering_below r k [] unbroken is = absurd (cc)
encountering_below r k (event ∷ past) unbroken is =
    by-found (encounters r (making_by event.call)) refl is (encountering_below r k past unbroken.1)
  where
    all : KeepsAll past event
    all = keeps_all past event unbroken.0

    by-found : (found : Option ℕ) → encounters r (making_by event.call) ≡ found → or_else found (encountering_task r past) ≡ Some k
        → (encountering_task r past ≡ Some k → k ≤ greatest_task past) → k ≤ greatest_task (event ∷ past)
    by-found None none is rest = let e : k ≤ greatest_task past = rest is in omega arith
    by-found (Some n) found is rest =
        let e : k ≤ greatest_task past = current_below k event.thread past unbroken.1 (encounterer_runs past event.thread r k event.call all.regions (found ∙ is)) in
        omega arith

abbrev CreatorBelow : ℕ → Making → Type 0
CreatorBelow g (Explicit task creator flags) = creator ≤ g
CreatorBelow g other = Unit {0}

creator_below : (past : List EventRecord) (t : ℕ) (call : Call) → Unbroken past → keeps_creations past t call ≡ true → CreatorBelow (greatest_task past) (making_by call)
creator_below past t (TaskCreate task frame fresh flags has_dependences codeptr) unbroken keeps =
    current_below task.identity t past unbroken (is_current task.identity (current t past) (right (fresh.identity == greatest_task past + 1) _ keeps))
creator_below past t (ImplicitTask endpoint region task actual index flags) unbroken keeps = by-test ((endpoint == 1) && not (flags == 1))
  where
    by-test : (b : Bool) → CreatorBelow (greatest_task past) (cond b (Implicit task.identity region.identity flags) Nothing)
    by-test true = tt
    by-test false = tt
creator_below past t (ParallelBegin task frame region requested flags codeptr) unbroken keeps = tt
creator_below past t (ThreadBegin kind thread) unbroken keeps = tt
creator_below past t other unbroken keeps = tt

-- an origin whose parent is at most this
abbrev pub ParentBelow : ℕ → Option Origin → Type 0
ParentBelow g None = Unit {0}
ParentBelow g (Some origin) = origin.parent ≤ g

parent_more : (g h : ℕ) → g ≤ h → (origin : Option Origin) → ParentBelow g origin → ParentBelow h origin
parent_more g h less None below = tt
parent_more g h less (Some origin) below = omega arith

either : (g : ℕ) (first rest : Option Origin) → ParentBelow g first → ParentBelow g rest → ParentBelow g (or_else first rest)
either g None rest below others = others
either g (Some origin) rest below others = below

of_making : (k : ℕ) (past : List EventRecord) (making : Making) → Unbroken past → CreatorBelow (greatest_task past) making → ParentBelow (greatest_task past) (originates k past making)
of_making k past (Implicit task region flags) unbroken below = by-test (task == k) (encountering_task region past) (λ n is. encountering_below region n past unbroken is)
  where
    by-test : (b : Bool) (found : Option ℕ) → ((n : ℕ) → found ≡ Some n → n ≤ greatest_task past)
        → ParentBelow (greatest_task past) (cond b (Some (record { parent = or_zero found; flags = flags })) None)
    by-test true None each = omega arith
    by-test true (Some n) each = each n refl
    by-test false found each = tt
of_making k past (Explicit task creator flags) unbroken below = by-test (task == k)
  where
    by-test : (b : Bool) → ParentBelow (greatest_task past) (cond b (Some (record { parent = creator; flags = flags })) None)
    by-test true = below
    by-test false = tt
of_making k past (Region region task) unbroken below = tt
of_making k past Nothing unbroken below = tt

pub parent_below : (k : ℕ) (past : List EventRecord) → Unbroken past → ParentBelow (greatest_task past) (origin_of k past)
parent_below k [] unbroken = by-test (k == 1)
  where
    by-test : (b : Bool) → ParentBelow 1 (cond b (Some (record { parent = 0; flags = 1 })) None)
    by-test true = omega arith
    by-test false = tt
parent_below k (event ∷ past) unbroken =
    let less : greatest_task past ≤ greatest_task (event ∷ past) = greatest_more event past in
    let all : KeepsAll past event = keeps_all past event unbroken.0 in
    either (greatest_task (event ∷ past)) (originates k past (making_by event.call)) (origin_of k past)
    (parent_more (greatest_task past) (greatest_task (event ∷ past)) less (originates k past (making_by event.call))
    (of_making k past (making_by event.call) unbroken.1 (creator_below past event.thread event.call unbroken.1 all.creations)))
    (parent_more (greatest_task past) (greatest_task (event ∷ past)) less (origin_of k past) (parent_below k past unbroken.1))

-- ---- a parent was made before

abbrev pub ParentLess : ℕ → Option Origin → Type 0
ParentLess k None = Unit {0}
ParentLess k (Some origin) = origin.parent < k

less_of : (k g : ℕ) (past : List EventRecord) (making : Making) → IsNext g making → ParentBelow g (originates k past making) → ParentLess k (originates k past making)
less_of k g past (Implicit task region flags) next below = by-test (task == k) refl below
  where
    by-test : (b : Bool) → (task == k) ≡ b → ParentBelow g (cond b (Some (record { parent = or_zero (encountering_task region past); flags = flags })) None)
        → ParentLess k (cond b (Some (record { parent = or_zero (encountering_task region past); flags = flags })) None)
    by-test true is below = let e : task ≡ k = eqb-true task k is in omega arith
    by-test false is below = tt
less_of k g past (Explicit task creator flags) next below = by-test (task == k) refl below
  where
    by-test : (b : Bool) → (task == k) ≡ b → ParentBelow g (cond b (Some (record { parent = creator; flags = flags })) None)
        → ParentLess k (cond b (Some (record { parent = creator; flags = flags })) None)
    by-test true is below = let e : task ≡ k = eqb-true task k is in omega arith
    by-test false is below = tt
less_of k g past (Region region task) next below = tt
less_of k g past Nothing next below = tt

either_less : (k : ℕ) (first rest : Option Origin) → ParentLess k first → ParentLess k rest → ParentLess k (or_else first rest)
either_less k None rest less others = others
either_less k (Some origin) rest less others = less

pub parent_less : (k : ℕ) (past : List EventRecord) → Unbroken past → ParentLess k (origin_of k past)
parent_less k [] unbroken = by-test (k == 1) refl
  where
    by-test : (b : Bool) → (k == 1) ≡ b → ParentLess k (cond b (Some (record { parent = 0; flags = 1 })) None)
    by-test true is = let e : k ≡ 1 = eqb-true k 1 is in omega arith
    by-test false is = tt
parent_less k (event ∷ past) unbroken =
    let all : KeepsAll past event = keeps_all past event unbroken.0 in
    either_less k (originates k past (making_by event.call)) (origin_of k past)
    (less_of k (greatest_task past) past (making_by event.call) (next_of past event unbroken.0)
    (of_making k past (making_by event.call) unbroken.1 (creator_below past event.thread event.call unbroken.1 all.creations)))
    (parent_less k past unbroken.1)

-- the initial task has none
beside_initial : (g : ℕ) (making : Making) → 1 ≤ g → IsNext g making → Misses 1 making
beside_initial g (Implicit task region flags) some next = grind (arith, nat_tests)
beside_initial g (Explicit task creator flags) some next = grind (arith, nat_tests)
beside_initial g (Region region task) some next = tt
beside_initial g Nothing some next = tt

pub greatest_some : (past : List EventRecord) → 1 ≤ greatest_task past
greatest_some [] = omega arith
greatest_some (event ∷ past) = let e : 1 ≤ greatest_task past = greatest_some past in omega arith

pub initial_origin : (past : List EventRecord) → Unbroken past → origin_of 1 past ≡ Some (record { parent = 0; flags = 1 })
initial_origin [] unbroken = refl
initial_origin (event ∷ past) unbroken =
    rw (missed 1 past (making_by event.call) (beside_initial (greatest_task past) (making_by event.call) (greatest_some past) (next_of past event unbroken.0)))
    (initial_origin past unbroken.1)
