-- What the callbacks tell that begin or end a region, or end a wait at a barrier.
use Rattle.std.proofs.Common.{◌≡◌, ℕ, ◌+◌, ◌==◌, ◌&&◌, ◌||◌, Bool, true, false, not, List, Option, Some, None, refl, sym, ◌∙◌, subst}
use Rattle.std.proofs.lemmas.Bool.{eqb-true}
use Rattle.ompt_calls.specs.declared.call.Call.{Call}
use Rattle.ompt_calls.specs.declared.call.Call.TheVariants.{ParallelBegin, ParallelEnd, SyncRegionWait}
use Rattle.ompt_calls.specs.declared.event.EventRecord.{EventRecord}
use Rattle.trace_check.specs.Brackets.{current_in}
use Rattle.trace_check.specs.Before.{creation_of, greatest_region, held_after, is_barrier, is_open_region, join_of, left_task, opened, region_begun, region_ended, region_made, task_completed, task_made, task_started, waiter}
use Rattle.trace_check.specs.Checking.{Unbroken, passes_barrier}
use Rattle.trace_check.specs.Rules.{keeps_brackets, keeps_regions, keeps_waits, may_pass}
use Rattle.trace_check.proofs.Entered.{waiting_current}
use Rattle.trace_check.proofs.Names.{ends_open}
use Rattle.trace_check.proofs.Tests.{left, right}

-- a callback that begins and ends no task, begins no wait at a barrier, and takes and gives up nothing
pub record TellsNoTask (call : Call) : Type 0 where
  pub joins : join_of call ≡ None
  pub leaves : left_task call ≡ None
  pub waits : waiter call ≡ None
  pub creates : creation_of call ≡ None
  pub starts : task_started call ≡ None
  pub completes : task_completed call ≡ None
  pub makes : task_made call ≡ 0
  pub holds : (id t : ℕ) (before : Option ℕ) → held_after id t call before ≡ before

-- the begin of a region, which is the next one
pub record BeginsRegion (r : ℕ) (call : Call) : Type 0 where
  pub tells : TellsNoTask call
  pub ends : region_ended call ≡ None
  pub makes : region_made call ≡ r
  pub next : (past : List EventRecord) (t : ℕ) → keeps_regions past t call ≡ true → r ≡ greatest_region past + 1

pub begins_region : (r : ℕ) (call : Call) → region_begun call ≡ Some r → BeginsRegion r call
begins_region r (ParallelBegin task frame region requested flags codeptr) is =
    let e : region.identity ≡ r = cc in
    record {
      tells = record { joins = refl; leaves = refl; waits = refl; creates = refl; starts = refl; completes = refl; makes = refl; holds = λ id t before. refl };
      ends = refl;
      makes = e;
      next = λ past t keeps. sym e ∙ eqb-true region.identity (greatest_region past + 1) (left (region.identity == greatest_region past + 1) _ keeps);
    }
begins_region r other is = absurd (cc)

-- the end of a region, which is open
pub record EndsRegion (r : ℕ) (call : Call) : Type 0 where
  pub tells : TellsNoTask call
  pub begins : region_begun call ≡ None
  pub makes : region_made call ≡ 0
  pub is_open : (past : List EventRecord) (t : ℕ) → Unbroken past → keeps_brackets past t call ≡ true → is_open_region r past ≡ true

pub ends_region : (r : ℕ) (call : Call) → region_ended call ≡ Some r → EndsRegion r call
ends_region r (ParallelEnd region task flags codeptr) is =
    let e : region.identity ≡ r = cc in
    record {
      tells = record { joins = refl; leaves = refl; waits = refl; creates = refl; starts = refl; completes = refl; makes = refl; holds = λ id t before. refl };
      begins = refl;
      makes = refl;
      is_open = λ past t unbroken keeps. subst (λ (n : ℕ). is_open_region n past ≡ true) e (ends_open region.identity t past _ unbroken keeps);
    }
ends_region r other is = absurd (cc)

-- the end of a wait at a barrier, of the thread's current task, which may pass
pub record PassesBarrier (call : Call) : Type 0 where
  pub task : ℕ
  pub tells : TellsNoTask call
  pub begins : region_begun call ≡ None
  pub ends : region_ended call ≡ None
  pub makes : region_made call ≡ 0
  pub runs : (past : List EventRecord) (t : ℕ) → Unbroken past → keeps_brackets past t call ≡ true → current_in (opened t past) ≡ Some task
  pub may : (past : List EventRecord) → keeps_waits past call ≡ true → may_pass past task ≡ true

pub passes_a_barrier : (call : Call) → passes_barrier call ≡ true → PassesBarrier call
passes_a_barrier (SyncRegionWait kind endpoint region task codeptr) is =
    let e : endpoint ≡ 2 = eqb-true endpoint 2 (left (endpoint == 2) (is_barrier kind) is) in
    let barrier : is_barrier kind ≡ true = right (endpoint == 2) (is_barrier kind) is in
    record {
      task = task.identity;
      tells = record { joins = refl; leaves = refl; waits = rw e refl; creates = refl; starts = refl; completes = refl; makes = refl; holds = λ id t before. refl };
      begins = refl;
      ends = refl;
      makes = refl;
      runs = λ past t unbroken keeps. waiting_current past t task.identity kind endpoint _ unbroken e keeps;
      may = λ past keeps. passing (is_barrier kind) (may_pass past task.identity) _ barrier (rw e at keeps);
    }
  where
    passing : (b may rest : Bool) → b ≡ true → ((not b || may) && rest) ≡ true → may ≡ true
    passing true true rest is keeps = refl
    passing true false rest is keeps = absurd (cc)
    passing false may rest is keeps = absurd (cc)
passes_a_barrier other is = absurd (cc)
