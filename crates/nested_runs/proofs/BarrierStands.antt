-- The barriers and waits of a task by where its code stands.
use Rattle.std.proofs.Common.{ℕ, ◌≡◌, ◌≤◌, ◌+◌, true, List, length, refl, sym, ap, ◌∙◌, subst, arith}
use Rattle.std.specs.Prelude.{Option, Some}
use Rattle.std.proofs.lemmas.Bool.{true≢false}
use Rattle.c_model.specs.declared.point.SyncKind.{SyncKind}
use Rattle.c_model.specs.declared.point.SyncStage.TheVariants as stage
use Rattle.ompt_calls.specs.declared.event.EventRecord.{EventRecord}
use Rattle.task_pool.specs.Tasks.{is_explicit}
use Rattle.team_parts.specs.declared.member.Member.{Member}
use Rattle.omp_model.specs.declared.event.Event.{Event}
use Rattle.omp_model.specs.declared.event.Event.TheVariants.{MemberBegin, MutexAcquire, ParallelBegin, Sync}
use Rattle.omp_model.specs.State.{Task, World, pooled_at}
use Rattle.omp_model.specs.Members.{current}
use Rattle.trace_check.specs.Before.{joins, waits_of}
use Rattle.nested_runs.proofs.Effects.{stand_after, stand_before}
use Rattle.nested_runs.proofs.Known.{AtBarrier, HasNotMet, IsWaiting, owed}
use Rattle.nested_runs.proofs.Standing.{Stand, stand_at, stand_among}
use Rattle.nested_runs.proofs.Standing.Stand.{Free, AtSync}
use Rattle.nested_runs.proofs.PooledTasks.{unmade-task}
use Rattle.nested_runs.proofs.RegionHeads.{Joins}
use Rattle.nested_runs.proofs.TeamMembers.{SameMember, met_by, moves, waits_by}

-- ---- the code of a task and its waits

-- what the code owes the team changes by what the event tells
pub balance : (e : Event) → waits_by e + owed (stand_after e) ≡ owed (stand_before e) + met_by e
balance (Sync which stage.RegionBegin codeptr) = omega arith
balance (Sync which stage.WaitBegin codeptr) = omega arith
balance (Sync which stage.WaitEnd codeptr) = refl
balance (Sync which stage.RegionEnd codeptr) = refl
balance (ParallelBegin r requested codeptr) = refl
balance (MutexAcquire which id codeptr) = refl
balance e = refl

-- what is so of a task at a barrier stays so where it has begun as many waits, or more
pub at-kept : (W after : World) (past longer : List EventRecord) (k : ℕ) (stand : Stand) → (pooled_at after k).kind ≡ (pooled_at W k).kind →
    waits_of k past ≤ waits_of k longer →
    AtBarrier W past k stand → AtBarrier after longer k stand
at-kept W after past longer k (AtSync which stage.WaitEnd) kept more at =
    λ barrier. let known = at barrier in (ap is_explicit kept ∙ known.0, λ implicit. omega (arith, more, known.1 (sym kept ∙ implicit)))
at-kept W after past longer k (AtSync which stage.RegionBegin) kept more at = λ barrier. ap is_explicit kept ∙ at barrier
at-kept W after past longer k (AtSync which stage.WaitBegin) kept more at = λ barrier. ap is_explicit kept ∙ at barrier
at-kept W after past longer k (AtSync which stage.RegionEnd) kept more at = λ barrier. ap is_explicit kept ∙ at barrier
at-kept W after past longer k stand kept more at = tt

-- what is so inside the begin of a wait stays so
pub waiting-kept : (W after : World) (u : ℕ) (within : Option Event) → current after u ≡ current W u →
    (1 ≤ current W u → (which : SyncKind) → stand_at W (current W u) ≡ AtSync which stage.WaitEnd → stand_at after (current W u) ≡ AtSync which stage.WaitEnd) →
    IsWaiting W u within → IsWaiting after u within
waiting-kept W after u (Some (Sync which stage.WaitBegin codeptr)) same stands waiting =
    (subst (λ k. 1 ≤ k) (sym same) waiting.0, ap (stand_at after) same ∙ stands waiting.0 which waiting.1)
waiting-kept W after u within same stands waiting = tt

-- a task that isn't made stands at nothing
pub unmade-stand : (W : World) (k : ℕ) → length W.tasks ≤ k → stand_at W k ≡ Free
unmade-stand W k new = ap (λ (task : Task). stand_among task.code.todo) (unmade-task W k new)

-- a member that has met nothing
pub unmet-kept : (W after : World) (r i : ℕ) → SameMember W after r i → HasNotMet W r i → HasNotMet after r i
unmet-kept W after r i same unmet =
    record {
      met = ap (λ (m : Member). m.met) same ∙ unmet.met;
      barriers = ap (λ (m : Member). m.barriers) same ∙ unmet.barriers;
      begun = ap (λ (m : Member). m.begun) same ∙ unmet.begun;
      passed = ap (λ (m : Member). m.passed) same ∙ unmet.passed;
    }

-- an event that moves a member isn't the begin of one
pub joins-unmoved : (e : Event) (q : ℕ) → Joins e q → moves e ≡ true → ⊥
joins-unmoved (MemberBegin r k) q joins moved = true≢false (sym moved)
joins-unmoved e q joins moved = joins
