-- The creation, the start and the completion of a task tell of nothing else.
use Rattle.std.proofs.Common.{◌≡◌, ℕ, ◌+◌, ◌≤◌, ◌==◌, Bool, true, false, cond, List, [], ◌∷◌, Option, Some, None, refl, sym, ◌∙◌, ap, arith}
use Rattle.std.proofs.lemmas.Bool.{eqb-true}
use Rattle.std.proofs.lemmas.Bool.Decides.{nat_tests}
use Rattle.ompt_calls.specs.declared.call.Call.{Call}
use Rattle.ompt_calls.specs.declared.call.Call.TheVariants.{ThreadBegin, TaskCreate, TaskSchedule}
use Rattle.ompt_calls.specs.declared.event.EventRecord.{EventRecord}
use Rattle.trace_check.specs.declared.bracket.Bracket.{Bracket}
use Rattle.trace_check.specs.declared.bracket.Bracket.TheVariants.{Parallel, Implicit, Explicit, Worksharing, Masking, Syncing, Waiting}
use Rattle.trace_check.specs.declared.change.Change.TheVariants.{Opens, Closes, Stays}
use Rattle.trace_check.specs.Brackets.{change_of, is_innermost}
use Rattle.trace_check.specs.Before.{Creation, creation_of, current, greatest_task, held_after, is_complete, is_created, is_just, join_of, left_task, opened, region_begun, region_ended, region_made, task_completed, task_made, task_started, waiter}
use Rattle.trace_check.specs.Checking.{Unbroken}
use Rattle.trace_check.specs.Rules.{first_broken, keeps_creations, may_change}
use Rattle.trace_check.proofs.Kept12.{KeepsAll, keeps_all}
use Rattle.trace_check.proofs.Once.{marks}
use Rattle.trace_check.proofs.Names.{complete_is, of_explicit, once_explicit, started_is}
use Rattle.trace_check.proofs.Children.{started_created, there}
use Rattle.trace_check.proofs.Tests.{left, right}

-- it is of no region, no implicit task, no wait and no wait identifier
pub record OfTask (call : Call) : Type 0 where
  pub begun : region_begun call ≡ None
  pub ended : region_ended call ≡ None
  pub joined : join_of call ≡ None
  pub gone : left_task call ≡ None
  pub waits : waiter call ≡ None
  pub held : (id t : ℕ) (before : Option ℕ) → held_after id t call before ≡ before
  pub region : region_made call ≡ 0

-- ---- a creation

pub record OfCreation (call : Call) (creation : Creation) : Type 0 where
  pub of_task : OfTask call
  pub started : task_started call ≡ None
  pub completed : task_completed call ≡ None
  pub made : task_made call ≡ creation.task

pub of_creation : (call : Call) (creation : Creation) → creation_of call ≡ Some creation → OfCreation call creation
of_creation (TaskCreate task frame fresh flags has_dependences codeptr) creation is =
    let made : Creation = record { creator = task.identity; task = fresh.identity } in
    let e : made ≡ creation = cc in
    record {
      of_task = record { begun = refl; ended = refl; joined = refl; gone = refl; waits = refl; held = λ id t before. refl; region = refl };
      started = refl;
      completed = refl;
      made = ap (λ (c : Creation). c.task) e;
    }
of_creation (ThreadBegin kind thread) creation is = absurd (cc)
of_creation call creation is = absurd (cc)

-- the task is the next one, and its creator is the one that the thread runs
pub creation_keeps : (past : List EventRecord) (t : ℕ) (call : Call) (creation : Creation) → creation_of call ≡ Some creation → keeps_creations past t call ≡ true
    → (creation.task ≡ greatest_task past + 1) × (is_just creation.creator (current t past) ≡ true)
creation_keeps past t (TaskCreate task frame fresh flags has_dependences codeptr) creation is keeps =
    let made : Creation = record { creator = task.identity; task = fresh.identity } in
    let e : made ≡ creation = cc in (
      sym (ap (λ (c : Creation). c.task) e) ∙ eqb-true fresh.identity (greatest_task past + 1) (left (fresh.identity == greatest_task past + 1) _ keeps),
      ap (λ (c : Creation). is_just c.creator (current t past)) (sym e) ∙ right (fresh.identity == greatest_task past + 1) _ keeps,
    )
creation_keeps past t (ThreadBegin kind thread) creation is keeps = absurd (cc)
creation_keeps past t call creation is keeps = absurd (cc)

-- ---- a start

seven : (status : ℕ) → (status == 7) ≡ true → (status == 1) ≡ false
seven status is = grind (arith, nat_tests)

pub record OfStart (call : Call) : Type 0 where
  pub of_task : OfTask call
  pub created : creation_of call ≡ None
  pub completed : task_completed call ≡ None
  pub made : task_made call ≡ 0

pub of_start : (call : Call) (task : ℕ) → task_started call ≡ Some task → OfStart call
of_start (TaskSchedule prior status next) task is =
    record {
      of_task = record { begun = refl; ended = refl; joined = refl; gone = refl; waits = refl; held = λ id t before. refl; region = refl };
      created = refl;
      completed = by-test (status == 7) (status == 1) (seven status) is;
      made = refl;
    }
  where
    by-test : (a b : Bool) → (a ≡ true → b ≡ false) → cond a (Some next.identity) None ≡ Some task → cond b (Some prior.identity) None ≡ None
    by-test true true apart is = let e : true ≡ false = apart refl in absurd (cc)
    by-test true false apart is = refl
    by-test false b apart is = absurd (cc)
of_start (ThreadBegin kind thread) task is = absurd (cc)
of_start call task is = absurd (cc)

-- ---- a completion

pub record OfCompletion (call : Call) : Type 0 where
  pub of_task : OfTask call
  pub created : creation_of call ≡ None
  pub started : task_started call ≡ None
  pub made : task_made call ≡ 0

pub of_completion : (call : Call) (task : ℕ) → task_completed call ≡ Some task → OfCompletion call
of_completion (TaskSchedule prior status next) task is =
    record {
      of_task = record { begun = refl; ended = refl; joined = refl; gone = refl; waits = refl; held = λ id t before. refl; region = refl };
      created = refl;
      started = by-test (status == 7) (status == 1) (seven status) is;
      made = refl;
    }
  where
    by-test : (a b : Bool) → (a ≡ true → b ≡ false) → cond b (Some prior.identity) None ≡ Some task → cond a (Some next.identity) None ≡ None
    by-test true true apart is = let e : true ≡ false = apart refl in absurd (cc)
    by-test true false apart is = absurd (cc)
    by-test false b apart is = refl
of_completion (ThreadBegin kind thread) task is = absurd (cc)
of_completion call task is = absurd (cc)

-- the innermost bracket is the task's
marked : (prior task : ℕ) (brackets : List Bracket) → is_innermost brackets (Explicit prior task) ≡ true → 1 ≤ marks (of_explicit task) brackets
marked prior task [] is = absurd (cc)
marked prior task (Explicit before next ∷ brackets) is =
    let same : (next == task) ≡ true = right (before == prior) _ is in
    let one : cond {A = ℕ} (next == task) 1 0 ≡ 1 = rw same refl in
    omega (arith, one)
marked prior task (Parallel region ∷ brackets) is = absurd (cc)
marked prior task (Implicit other ∷ brackets) is = absurd (cc)
marked prior task (Worksharing region other kind count ∷ brackets) is = absurd (cc)
marked prior task (Masking other ∷ brackets) is = absurd (cc)
marked prior task (Syncing other kind ∷ brackets) is = absurd (cc)
marked prior task (Waiting other kind ∷ brackets) is = absurd (cc)

closing : (past : List EventRecord) (t task : ℕ) (call : Call) → task_completed call ≡ Some task → may_change past t (change_of call) ≡ true → 1 ≤ marks (of_explicit task) (opened t past)
closing past t task (TaskSchedule prior status next) is may = by-test (status == 7) (status == 1) (seven status) is may
  where
    by-test : (a b : Bool) → (a ≡ true → b ≡ false) → cond b (Some prior.identity) None ≡ Some task
        → may_change past t (cond a (Opens (Explicit prior.identity next.identity)) (cond b (Closes (Explicit next.identity prior.identity)) Stays)) ≡ true → 1 ≤ marks (of_explicit task) (opened t past)
    by-test true true apart is may = let e : true ≡ false = apart refl in absurd (cc)
    by-test true false apart is may = absurd (cc)
    by-test false false apart is may = absurd (cc)
    by-test false true apart is may =
        let e : prior.identity ≡ task = cc in
        marked next.identity task (opened t past) (rw (← e) may)
closing past t task (ThreadBegin kind thread) is may = absurd (cc)
closing past t task call is may = absurd (cc)

-- a task that is completed was created, and isn't complete
pub completion_keeps : (past : List EventRecord) (event : EventRecord) (task : ℕ) → task_completed event.call ≡ Some task → Unbroken past → first_broken past event ≡ None
    → (is_created task past ≡ true) × (is_complete task past ≡ false)
completion_keeps past event task is unbroken keeps =
    let all : KeepsAll past event = keeps_all past event keeps in
    let may : may_change past event.thread (change_of event.call) ≡ true = left (may_change past event.thread (change_of event.call)) _ all.brackets in
    let stands = there (of_explicit task) past event.thread (once_explicit task past unbroken) (closing past event.thread task event.call is may) in
    (started_created task past unbroken (sym (started_is task past) ∙ stands.0), sym (complete_is task past) ∙ stands.1)
