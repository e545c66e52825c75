-- In a run each work that a task has open is what its member has met last: so it is at the start, and what is no event and each Back keep it.
use Rattle.std.proofs.Common.{ℕ, zero, suc, ◌≡◌, ◌≤◌, ◌==◌, ◌&&◌, Bool, true, false, if◌then◌else◌, List, [], length, slice_index_or, refl, sym, ap, ap₂, ◌∙◌, subst, subst₂, arith}
use Rattle.std.specs.Prelude.{Option, None}
use Rattle.c_model.specs.declared.point.SyncStage.TheVariants as stage
use Rattle.c_brackets.specs.Opened.{open_task}
use Rattle.task_pool.specs.declared.task.Task.{Task as PoolTask}
use Rattle.task_pool.specs.Tasks.{is_explicit, task_at as pool_task_at}
use Rattle.task_pool.specs.View.{PoolView}
use Rattle.team_parts.specs.declared.meeting.Meeting.{Meeting}
use Rattle.team_parts.specs.declared.member.Member.{Member}
use Rattle.team_parts.specs.Team.{TeamView, member_at, new_member, with_begun}
use Rattle.omp_model.specs.declared.limits.TheConstants.{IMPLICIT_REGION}
use Rattle.omp_model.specs.declared.event.Event.{Event}
use Rattle.omp_model.specs.declared.event.Event.TheVariants.{Sync}
use Rattle.omp_model.proofs.Alike.{AlikeWorld}
use Rattle.omp_model.specs.Gates.{is_barrier}
use Rattle.omp_model.specs.MadeWorld.{IsTask}
use Rattle.omp_model.specs.Members.{current_index, current_region, is_explicit_task, member_index, region_of}
use Rattle.omp_model.specs.State.{Run, World, first_world, fresh_team, pooled_at, region_at, task_at}
use Rattle.omp_model.proofs.Touching.{Returns, team_back}
use Rattle.nested_runs.proofs.Shown.{opens_at}
use Rattle.nested_runs.proofs.Touching.{Alike}
use Rattle.nested_runs.proofs.Codes.{main-open}
use Rattle.nested_runs.proofs.FirstWorlds.{first-tasks, replicated}
use Rattle.nested_runs.proofs.GoCodes.{none-open}
use Rattle.nested_runs.proofs.PooledTasks.{same-back}
use Rattle.nested_runs.proofs.RegionHeads.{back-head}
use Rattle.guard_laws.proofs.LastMeetings.{AllFit, SameMet, begun-met, last_met, none-fit, same-last, same-met, same-within}

-- the number of a task's thread in the team of its region
abbrev pub index_of : World → ℕ → ℕ
index_of W k = member_index W (task_at W k).thread (region_of W k)

-- what the initial task or a member has met last. An explicit task meets nothing
abbrev pub met_at : World → ℕ → Option Meeting
met_at W k = if is_explicit_task W k then None else last_met (region_at W (region_of W k)).team (index_of W k)

-- no member has had more meetings than its team, and what is open was met last
pub record WorksMet (W : World) : Type 0 where
  pub within : (q i : ℕ) → (member_at (region_at W q).team i).met ≤ length (region_at W q).team.meetings
  pub fit : (k : ℕ) → IsTask W k → AllFit (met_at W k) (opens_at W k)

-- ---- a task that is in the same place

pub record SamePlace (W after : World) (k : ℕ) : Type 0 where
  pub explicit : is_explicit_task after k ≡ is_explicit_task W k
  pub region : region_of after k ≡ region_of W k
  pub thread : (task_at after k).thread ≡ (task_at W k).thread
  pub index : (u : ℕ) → member_index after u (region_of W k) ≡ member_index W u (region_of W k)

pub met-placed : (W after : World) (k : ℕ) → SamePlace W after k →
    met_at after k ≡ (if is_explicit_task W k then None else last_met (region_at after (region_of W k)).team (index_of W k))
met-placed W after k same =
    let r = region_of W k in
    let own : last_met (region_at after (region_of after k)).team (index_of after k) ≡ last_met (region_at after r).team (index_of W k) =
    ap (λ (q : ℕ). last_met (region_at after q).team (member_index after (task_at after k).thread q)) same.region
    ∙ ap (λ (i : ℕ). last_met (region_at after r).team i) (same.index (task_at after k).thread ∙ ap (λ (u : ℕ). member_index W u r) same.thread) in
    ap₂ (λ (b : Bool) (met : Option Meeting). if b then None else met) same.explicit own

-- .. and whose team has met the same
pub met-kept : (W after : World) (k : ℕ) → SamePlace W after k → SameMet (region_at W (region_of W k)).team (region_at after (region_of W k)).team →
    met_at after k ≡ met_at W k
met-kept W after k place same =
    met-placed W after k place
    ∙ ap (λ (met : Option Meeting). if is_explicit_task W k then None else met)
    (same-last (region_at W (region_of W k)).team (region_at after (region_of W k)).team same (index_of W k))

-- all tasks, and all teams
works-kept : (W after : World) → length after.tasks ≡ length W.tasks → ((k : ℕ) → SamePlace W after k) →
    ((q : ℕ) → SameMet (region_at W q).team (region_at after q).team) → ((k : ℕ) → opens_at after k ≡ opens_at W k) → WorksMet W → WorksMet after
works-kept W after tasks place same opens works =
    record {
      within = λ q i. same-within (region_at W q).team (region_at after q).team (same q) i (works.within q i);
      fit = λ k made.
          subst₂ AllFit (sym (met-kept W after k (place k) (same (region_of W k)))) (sym (opens k))
          (works.fit k (record { some = made.some; below = omega (arith, made.below, tasks) }));
    }

-- ---- what is no event

pub place-alike : (W after : World) → AlikeWorld W after → (k : ℕ) → SamePlace W after k
place-alike W after alike k =
    let pooled : (j : ℕ) → pooled_at after j ≡ pooled_at W j = λ j. ap (λ (pool : PoolView). pool_task_at pool.tasks j) alike.pool in
    let r = region_of W k in
    record {
      explicit = ap (λ (x : PoolTask). is_explicit x.kind) (pooled k);
      region = ap (λ (x : PoolTask). x.region) (pooled k);
      thread = alike.owner k;
      index = λ u.
          ap (λ (q : ℕ). if q == IMPLICIT_REGION then u else 0)
          (ap (region_of after) (alike.head r).task ∙ ap (λ (x : PoolTask). x.region) (pooled (region_at W r).head.task));
    }

pub works-stays : (W after : World) → Alike W after → WorksMet W → WorksMet after
works-stays W after alike works =
    works-kept W after alike.world.tasks (place-alike W after alike.world)
    (λ q.
    let team = alike.world.team q in
    record { met = λ j. ap (λ (members : List Member). (slice_index_or members j new_member).met) team.members; what = team.met })
    alike.opens works

-- ---- the Back of an event

either-met : (b : Bool) (team one other : TeamView) → SameMet team one → SameMet team other → SameMet team (if b then one else other)
either-met true team one other first second = first
either-met false team one other first second = second

team-returns : (W : World) (t : ℕ) (e : Event) (q : ℕ) → SameMet (region_at W q).team (team_back W t e q)
team-returns W t (Sync which stage.WaitBegin codeptr) q =
    let team = (region_at W q).team in
    either-met (is_barrier which && q == current_region W t) team (with_begun team (current_index W t)) team (begun-met team (current_index W t))
    (same-met team team refl)
team-returns W t e q = same-met (region_at W q).team (region_at W q).team refl

pub place-back : (W after : World) (t : ℕ) (e : Event) → Returns W after t e → (k : ℕ) → SamePlace W after k
place-back W after t e returns k =
    let region : (j : ℕ) → region_of after j ≡ region_of W j = λ j. ap (λ (x : PoolTask). x.region) (returns.pooled j) ∙ (same-back W e j).region in
    let r = region_of W k in
    record {
      explicit = ap (λ (x : PoolTask). is_explicit x.kind) (returns.pooled k) ∙ ap is_explicit (same-back W e k).kind;
      region = region k;
      thread = returns.owner k;
      index = λ u.
          ap (λ (q : ℕ). if q == IMPLICIT_REGION then u else 0)
          (ap (region_of after) (back-head W after t e r (returns.head r)).task ∙ region (region_at W r).head.task);
    }

pub works-back : (W after : World) (t : ℕ) (e : Event) → Returns W after t e → WorksMet W → WorksMet after
works-back W after t e returns works =
    works-kept W after returns.tasks (place-back W after t e returns)
    (λ q. subst (SameMet (region_at W q).team) (sym (returns.team q)) (team-returns W t e q)) (λ k. ap open_task (returns.code k)) works

-- ---- the start

-- a team that has met nothing
pub fresh-within : (size i : ℕ) → (member_at (fresh_team size) i).met ≤ length (fresh_team size).meetings
fresh-within size i = omega (arith, ap (λ (x : Member). x.met) (replicated new_member size i))

first-within : (run : Run) (q i : ℕ) → (member_at (region_at (first_world run) q).team i).met ≤ length (region_at (first_world run) q).team.meetings
first-within run zero i = fresh-within 0 i
first-within run (suc zero) i = fresh-within 1 i
first-within run (suc (suc q)) i = fresh-within 0 i

pub works-first : (run : Run) → WorksMet (first_world run)
works-first run =
    record {
      within = first-within run;
      fit = λ k made. none-fit (met_at (first_world run) k) (opens_at (first_world run) k)
          (first-tasks run (λ task. open_task task.code ≡ []) none-open (main-open run.program) k);
    }
