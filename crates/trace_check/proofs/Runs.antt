-- The tasks that threads run were made before, so their places in teams stay.
use Rattle.std.proofs.Common.{◌≡◌, ℕ, ◌≤◌, ◌==◌, ◌&&◌, ◌||◌, Bool, true, false, cond, not, max, List, [], ◌∷◌, Option, Some, None, refl, ◌∙◌, ap, arith}
use Rattle.std.specs.List.{list_any}
use Rattle.std.proofs.lemmas.Bool.{eqb-true}
use Rattle.ompt_calls.specs.declared.call.Call.{Call}
use Rattle.ompt_calls.specs.declared.call.Call.TheVariants.{ParallelBegin, TaskCreate, TaskSchedule, ImplicitTask, SyncRegionWait, Work, Masked, SyncRegion}
use Rattle.ompt_calls.specs.declared.event.EventRecord.{EventRecord}
use Rattle.trace_check.specs.declared.bracket.Bracket.{Bracket}
use Rattle.trace_check.specs.declared.bracket.Bracket.TheVariants.{Parallel, Implicit, Explicit, Worksharing, Masking, Syncing, Waiting}
use Rattle.trace_check.specs.declared.change.Change.{Change}
use Rattle.trace_check.specs.declared.change.Change.TheVariants.{Opens, Closes, Stays}
use Rattle.trace_check.specs.declared.things.Current.{Current}
use Rattle.trace_check.specs.declared.things.Seat.{Seat}
use Rattle.trace_check.specs.Brackets.{at_endpoint, change_of, changed}
use Rattle.trace_check.specs.Before.{Creation, Join, and_one, creation_of, creations, events_of, greatest_task, has_started, is_created, joins, opened, task_made}
use Rattle.trace_check.specs.Rules.{first_broken, keeps_starts, keeps_tasks}
use Rattle.trace_check.specs.Checking.{Unbroken, bracket_at, running, seat_in}
use Rattle.trace_check.proofs.Kept12.{KeepsAll, keeps_all}
use Rattle.trace_check.proofs.Untouched.{seat_same}
use Rattle.trace_check.proofs.Tests.{left}

-- ---- the tasks of brackets are at most the greatest

-- the task that a bracket starts
abbrev task_in : Bracket → ℕ
task_in (Implicit task) = task
task_in (Explicit prior next) = next
task_in (Parallel region) = 0
task_in (Worksharing region task kind count) = 0
task_in (Masking task) = 0
task_in (Syncing task kind) = 0
task_in (Waiting task kind) = 0

abbrev AreMade : ℕ → List Bracket → Type 0
AreMade greatest [] = Unit {0}
AreMade greatest (bracket ∷ brackets) = (task_in bracket ≤ greatest) × AreMade greatest brackets

abbrev IsMade : ℕ → Change → Type 0
IsMade greatest (Opens bracket) = task_in bracket ≤ greatest
IsMade greatest (Closes bracket) = Unit {0}
IsMade greatest Stays = Unit {0}

made_more : (g h : ℕ) → g ≤ h → (brackets : List Bracket) → AreMade g brackets → AreMade h brackets
made_more g h less [] made = tt
made_more g h less (bracket ∷ brackets) made = (more (task_in bracket) made.0, made_more g h less brackets made.1)
  where
    more : (n : ℕ) → n ≤ g → n ≤ h
    more n below = omega (arith, below, less)

-- task 1 is made from the start
first_made : (past : List EventRecord) → 1 ≤ greatest_task past
first_made [] = let one : 1 ≤ 1 = omega arith in one
first_made (event ∷ past) = more (task_made event.call) (greatest_task past) (first_made past)
  where
    more : (n g : ℕ) → 1 ≤ g → 1 ≤ max n g
    more n g below = omega (arith, below)

-- a created task is at most the greatest
created_made : (k : ℕ) (past : List EventRecord) → is_created k past ≡ true → k ≤ greatest_task past
created_made k [] is = absurd (cc)
created_made k (event ∷ past) is = by-call event.call is (created_made k past)
  where
    more : (n g : ℕ) → k ≤ g → k ≤ max n g
    more n g below = omega (arith, below)

    by-test : (fresh g : ℕ) (same : Bool) → (fresh == k) ≡ same → (same || is_created k past) ≡ true → (is_created k past ≡ true → k ≤ g) → k ≤ max fresh g
    by-test fresh g true is found rest = let e : fresh ≡ k = eqb-true fresh k is in omega (arith, e)
    by-test fresh g false is found rest = more fresh g (rest found)

    by-call : (call : Call) → list_any (λ (creation : Creation). creation.task == k) (and_one (creation_of call) (creations past)) ≡ true
        → (is_created k past ≡ true → k ≤ greatest_task past) → k ≤ max (task_made call) (greatest_task past)
    by-call (TaskCreate task frame fresh flags has_dependences codeptr) is rest = by-test fresh.identity (greatest_task past) (fresh.identity == k) refl is rest
    by-call (ImplicitTask endpoint region task actual index flags) is rest =
        more (task_made (ImplicitTask endpoint region task actual index flags)) (greatest_task past) (rest is)
    by-call other is rest = more 0 (greatest_task past) (rest is)

-- other brackets start none
no_task : (g endpoint : ℕ) (bracket : Bracket) → task_in bracket ≡ 0 → IsMade (max 0 g) (at_endpoint endpoint bracket)
no_task g endpoint bracket none = by-tests (endpoint == 1) (endpoint == 2)
  where
    by-tests : (a b : Bool) → IsMade (max 0 g) (cond a (Opens bracket) (cond b (Closes bracket) Stays))
    by-tests true b = omega (arith, none)
    by-tests false true = tt
    by-tests false false = tt

-- so is the task of a bracket that an event opens
change_made : (past : List EventRecord) (t : ℕ) (call : Call) → keeps_tasks past t call ≡ true → keeps_starts past call ≡ true
    → IsMade (max (task_made call) (greatest_task past)) (change_of call)
change_made past t (ParallelBegin task frame region requested flags codeptr) tasks starts = let none : 0 ≤ max 0 (greatest_task past) = omega arith in none
change_made past t (ImplicitTask endpoint region task actual index flags) tasks starts =
    by-tests (endpoint == 1) (flags == 1) (endpoint == 2) (task.identity == 1) refl (left _ _ tasks)
  where
    not-initial : (first e f s r a i : Bool) → e ≡ true → f ≡ true → cond first (e && (f && (r && (s && (a && i))))) (not (e && f)) ≡ true → s ≡ true
    not-initial true true true true r a i one two keep = refl
    not-initial true true true false true a i one two keep = absurd (cc)
    not-initial true true true false false a i one two keep = absurd (cc)
    not-initial false true true s r a i one two keep = absurd (cc)
    not-initial first false f s r a i one two keep = absurd (cc)
    not-initial first true false s r a i one two keep = absurd (cc)

    one_made : (n g : ℕ) → (n == 1) ≡ true → 1 ≤ g → n ≤ max 0 g
    one_made n g is one = let e : n ≡ 1 = eqb-true n 1 is in omega (arith, e, one)

    by-tests : (e f d s : Bool) → (task.identity == 1) ≡ s → cond ((t == 0) && (events_of 0 past == 1))
        (e && (f && ((region.identity == 1) && (s && ((actual == 1) && (index == 1)))))) (not (e && f)) ≡ true
        → IsMade (max (cond (e && not f) task.identity 0) (greatest_task past))
        (cond e (Opens (Implicit task.identity)) (cond d (Closes (Implicit task.identity)) Stays))
    by-tests true false d s same keep = let more : task.identity ≤ max task.identity (greatest_task past) = omega arith in more
    by-tests true true d s same keep =
        one_made task.identity (greatest_task past)
        (same ∙ not-initial ((t == 0) && (events_of 0 past == 1)) true true s (region.identity == 1) (actual == 1) (index == 1) refl refl keep) (first_made past)
    by-tests false f true s same keep = tt
    by-tests false f false s same keep = tt
change_made past t (TaskSchedule prior status next) tasks starts = by-tests (status == 7) (status == 1) starts
  where
    more : (n g : ℕ) → n ≤ g → n ≤ max 0 g
    more n g below = omega (arith, below)

    by-tests : (a b : Bool) → (not a || (is_created next.identity past && not (has_started next.identity past))) ≡ true
        → IsMade (max 0 (greatest_task past)) (cond a (Opens (Explicit prior.identity next.identity))
        (cond b (Closes (Explicit next.identity prior.identity)) Stays))
    by-tests true b keep = more next.identity (greatest_task past) (created_made next.identity past (left _ (not (has_started next.identity past)) keep))
    by-tests false true keep = tt
    by-tests false false keep = tt
change_made past t (SyncRegionWait kind endpoint region task codeptr) tasks starts = no_task (greatest_task past) endpoint (Waiting task.identity kind) refl
change_made past t (Work kind endpoint region task count codeptr) tasks starts =
    no_task (greatest_task past) endpoint (Worksharing region.identity task.identity kind count) refl
change_made past t (Masked endpoint region task codeptr) tasks starts = no_task (greatest_task past) endpoint (Masking task.identity) refl
change_made past t (SyncRegion kind endpoint region task codeptr) tasks starts = no_task (greatest_task past) endpoint (Syncing task.identity kind) refl
change_made past t other tasks starts = tt

pop : (g : ℕ) (brackets : List Bracket) → AreMade g brackets → AreMade g (changed (Closes (Parallel 0)) brackets)
pop g [] made = tt
pop g (bracket ∷ brackets) made = made.1

-- each task that an open bracket started is at most the greatest
stack_made : (t : ℕ) (past : List EventRecord) → Unbroken past → AreMade (greatest_task past) (opened t past)
stack_made t [] unbroken = tt
stack_made t (event ∷ past) unbroken =
    let all : KeepsAll past event = keeps_all past event unbroken.0 in
    by-thread (event.thread == t) (change_made past event.thread event.call all.tasks all.starts)
    (made_more (greatest_task past) (max (task_made event.call) (greatest_task past))
    (let less : greatest_task past ≤ max (task_made event.call) (greatest_task past) = omega arith in less)
    (opened t past) (stack_made t past unbroken.1))
  where
    by-change : (g : ℕ) (change : Change) → IsMade g change → AreMade g (opened t past) → AreMade g (changed change (opened t past))
    by-change g (Opens bracket) is made = (is, made)
    by-change g (Closes bracket) is made = pop g (opened t past) made
    by-change g Stays is made = made

    by-thread : (b : Bool) → IsMade (max (task_made event.call) (greatest_task past)) (change_of event.call)
        → AreMade (max (task_made event.call) (greatest_task past)) (opened t past)
        → AreMade (max (task_made event.call) (greatest_task past)) (cond b (changed (change_of event.call) (opened t past)) (opened t past))
    by-thread true is made = by-change (max (task_made event.call) (greatest_task past)) (change_of event.call) is made
    by-thread false is made = made

-- ---- what is kept of them stays

abbrev sits : ℕ → Option Seat → Option Current
sits task seat = Some (record { task = task; seat = seat })

-- the task that runs with these brackets has its place still
runs_same : (g : ℕ) (before now : List Join) → ((task : ℕ) → task ≤ g → seat_in task now ≡ seat_in task before) → (brackets : List Bracket)
    → AreMade g brackets
    → running now brackets ≡ running before brackets
runs_same g before now seats [] made = refl
runs_same g before now seats (Implicit task ∷ rest) made = ap (sits task) (seats task made.0)
runs_same g before now seats (Explicit prior next ∷ rest) made = ap (sits next) (seats next made.0)
runs_same g before now seats (Parallel region ∷ rest) made = runs_same g before now seats rest made.1
runs_same g before now seats (Worksharing region task kind count ∷ rest) made = runs_same g before now seats rest made.1
runs_same g before now seats (Masking task ∷ rest) made = runs_same g before now seats rest made.1
runs_same g before now seats (Syncing task kind ∷ rest) made = runs_same g before now seats rest made.1
runs_same g before now seats (Waiting task kind ∷ rest) made = runs_same g before now seats rest made.1

-- and so have those that ran before each bracket
places_same : (g : ℕ) (before now : List Join) → ((task : ℕ) → task ≤ g → seat_in task now ≡ seat_in task before)
    → (place : ℕ) (brackets : List Bracket) → AreMade g brackets
    → bracket_at now place brackets ≡ bracket_at before place brackets
places_same g before now seats place [] made = refl
places_same g before now seats place (bracket ∷ rest) made =
    rw (runs_same g before now seats rest made.1, places_same g before now seats place rest made.1) refl

-- an event leaves the task that the brackets before it tell
pub thread_runs : (t : ℕ) (past : List EventRecord) (event : EventRecord) → Unbroken past → first_broken past event ≡ None
    → running (joins (event ∷ past)) (opened t past) ≡ running (joins past) (opened t past)
thread_runs t past event unbroken keeps =
    runs_same (greatest_task past) (joins past) (joins (event ∷ past)) (λ task made. seat_same task past event keeps made) (opened t past)
    (stack_made t past unbroken)

-- and the brackets themselves
pub thread_places : (t place : ℕ) (past : List EventRecord) (event : EventRecord) → Unbroken past → first_broken past event ≡ None
    → bracket_at (joins (event ∷ past)) place (opened t past) ≡ bracket_at (joins past) place (opened t past)
thread_places t place past event unbroken keeps =
    places_same (greatest_task past) (joins past) (joins (event ∷ past)) (λ task made. seat_same task past event keeps made) place (opened t past)
    (stack_made t past unbroken)
