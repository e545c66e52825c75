-- Where the wait of a member may end, each member of its team has begun to wait at as many barriers.
use Rattle.std.proofs.Common.{ℕ, ◌≡◌, ◌<◌, ◌≤◌, ◌==◌, ◌&&◌, Bool, true, List, length, sym, ap, ap₂, ◌∙◌, subst, inl, inr, arith}
use Rattle.std.specs.List.{list_all}
use Rattle.std.proofs.lemmas.Bool.{and_from, and_parts, cases_eq, eq-eqb, leb-true, or_cases, or_left, or_right, true≢false}
use Rattle.std.proofs.lemmas.List.Folds.{list_any_at}
use Rattle.std.proofs.lemmas.List.Sums.{AllPass-from_list_all}
use Rattle.c_model.specs.declared.point.SyncKind.{SyncKind}
use Rattle.c_model.specs.declared.point.SyncKind.TheVariants as sync
use Rattle.c_model.specs.declared.point.SyncStage.TheVariants as stage
use Rattle.ompt_calls.specs.declared.event.EventRecord.{EventRecord}
use Rattle.task_pool.specs.declared.task.Condition.TheVariants as condition
use Rattle.task_pool.specs.declared.task.TaskKind.TheVariants as kind
use Rattle.task_pool.specs.Tasks.{unfinished}
use Rattle.team_parts.specs.Team.{TeamView, has_begun, has_passed, may_pass, member_at, new_member}
use Rattle.omp_model.specs.declared.limits.TheConstants.{INITIAL_TASK}
use Rattle.omp_model.specs.State.{Run, World, pooled_at, region_at}
use Rattle.omp_model.specs.Gates.{is_barrier, may_end}
use Rattle.omp_model.specs.Members.{current, current_index, current_region, current_team, is_member}
use Rattle.trace_check.specs.Before.{Join, is_open_region, joins, joins_of, waits_of}
use Rattle.trace_check.specs.Rules.{have_waited, may_pass as passes_wait}
use Rattle.nested_runs.proofs.Known.{AtBarrier, TellsMember, owed, task_of_member}
use Rattle.nested_runs.proofs.Knows.{Knows}
use Rattle.nested_runs.proofs.Recorded.{Inside}
use Rattle.nested_runs.proofs.Standing.{stand_at}
use Rattle.nested_runs.proofs.Standing.Stand.{AtSync}
use Rattle.nested_runs.proofs.ListTests.{any-at, any-filter}
use Rattle.nested_runs.proofs.MemberJoins.{has-join, no_join, not-over, open-told, waited-told}
use Rattle.nested_runs.proofs.PooledTasks.{current-under-way}
use Rattle.nested_runs.proofs.RegionHeads.{member-seated, place-within, plain-kinds, region-made}

-- at a barrier the wait may end as the team has it
pub may-end-passes : (W : World) (t : ℕ) (which : SyncKind) → is_barrier which ≡ true → may_end W t which ≡ true →
    may_pass (current_team W t) (current_index W t) (unfinished W.pool.tasks (current_region W t)) ≡ true
may-end-passes W t sync.Taskwait barrier may = absurd (true≢false (sym barrier))
may-end-passes W t sync.Barrier barrier may = (and_parts (is_member W t) _ may).1
may-end-passes W t sync.Worksharing barrier may = (and_parts (is_member W t) _ may).1
may-end-passes W t sync.Parallel barrier may = (and_parts (is_member W t) _ may).1

-- where it may, each member has begun to wait at as many barriers
pub all-begun : (team : TeamView) (i left : ℕ) → may_pass team i left ≡ true →
    ((p j : ℕ) → p < length team.members → j < length team.members → (member_at team p).passed ≤ (member_at team j).begun) → (j : ℕ) → j < length team.members →
    (member_at team i).barriers ≤ (member_at team j).begun
all-begun team i left may passed j within =
    elim (or_cases (list_all (has_begun (member_at team i).barriers) team.members && left == 0) _ may) [
      | inl all ↦
          leb-true _ _
          (AllPass-from_list_all (has_begun (member_at team i).barriers) team.members
          (and_parts (list_all (has_begun (member_at team i).barriers) team.members) _ all).0 j new_member within)
      | inr any ↦
          let at = any-at (has_passed (member_at team i).barriers) team.members new_member any in
          let over : (member_at team i).barriers ≤ (member_at team at.0).passed = leb-true _ _ at.2 in
          omega (arith, over, passed at.0 j at.1 within)
    ]

-- ---- the wait of the current task

-- a join lets the task pass where it is the task's, and all of its team have begun as many waits
abbrev pub passes_by : List EventRecord → ℕ → Join → Bool
passes_by past task join =
    (join.task == task) && (is_open_region join.region past && have_waited past join.region join.actual (waits_of task past))

module _ (run : Run) (W : World) (I : Inside) (past : List EventRecord) (t : ℕ) (knows : Knows run W I past) where
  -- a member that has begun so many waits, one at least, has a task
  begun-told : (r j : ℕ) → 2 ≤ r → r < length W.regions → (n : ℕ) → 1 ≤ n → n ≤ (member_at (region_at W r).team j).begun →
      (1 ≤ task_of_member W r j) × (n ≤ waits_of (task_of_member W r j) past)
  begun-told r j forked made n some begun =
      elim (cases_eq (task_of_member W r j) 0) [
        | inl none ↦ absurd (omega (arith, some, begun, (knows.barriers.unmet r j forked made none).begun))
        | inr other ↦
            let here : 1 ≤ task_of_member W r j = omega (arith, other) in
            (here, omega (arith, begun, (knows.barriers.member r j forked made here).begun))
      ]

  -- the wait of a member ends where each other one has begun as many
  member-passes : (which : SyncKind) → is_barrier which ≡ true → 1 ≤ current W t → stand_at W (current W t) ≡ AtSync which stage.WaitEnd →
      may_end W t which ≡ true →
      (pooled_at W (current W t)).kind ≡ kind.Implicit → passes_wait past (current W t) ≡ true
  member-passes which barrier some stand may implicit =
      let seated = member-seated run W I past t knows some implicit in
      let forked : 2 ≤ current_region W t = seated.0 in
      let is : task_of_member W (current_region W t) (current_index W t) ≡ current W t = seated.1 in
      let here : 1 ≤ task_of_member W (current_region W t) (current_index W t) = subst (λ k. 1 ≤ k) (sym is) some in
      let region = region-made run W I past t knows some in
      let size = (knows.sound.made.regions (current_region W t) region).team in
      let below : current_index W t < (region_at W (current_region W t)).head.size = omega (arith, place-within run W I past t knows some, size) in
      let told : TellsMember W past (current_region W t) (current_index W t) (current W t) =
      subst (TellsMember W past (current_region W t) (current_index W t)) is
      (knows.barriers.member (current_region W t) (current_index W t) forked region.below here) in
      let one : 1 ≤ waits_of (current W t) past =
      (subst (λ at. AtBarrier W past (current W t) at) stand (knows.barriers.at (current W t)) barrier).1 implicit in
      let known = knows.barriers.passed (current_region W t) forked region.below in
      let owes : owed (stand_at W (current W t)) ≡ 0 = ap owed stand in
      let all : (j : ℕ) → j < (region_at W (current_region W t)).head.size →
      waits_of (current W t) past ≤ (member_at (region_at W (current_region W t)).team j).begun =
      λ j second.
      omega (
        arith,
        told.waits,
        owes,
        all-begun (region_at W (current_region W t)).team (current_index W t) (unfinished W.pool.tasks (current_region W t))
            (may-end-passes W t which barrier may)
            (λ p q first other. known p q (omega (arith, first, size)) (omega (arith, other, size))) j (omega (arith, second, size)),
      ) in
      let each : (j : ℕ) → j < (region_at W (current_region W t)).head.size →
      (1 ≤ task_of_member W (current_region W t) j) × (waits_of (current W t) past ≤ waits_of (task_of_member W (current_region W t) j) past) =
      λ j second. begun-told (current_region W t) j forked region.below (waits_of (current W t) past) one (all j second) in
      let join = has-join run W I past knows (current_region W t) forked region.below (current_index W t) here in
      let started : (pooled_at W (task_of_member W (current_region W t) (current_index W t))).condition ≡ condition.Started =
      ap (λ k. (pooled_at W k).condition) is ∙ (current-under-way W t knows.sound.orderly some).started in
      let opened = open-told run W I past knows (current_region W t) forked region.below
      (not-over run W I past knows (current_region W t) forked region.below (current_index W t) below started) in
      let waited = waited-told run W I past knows (current_region W t) forked region.below (waits_of (current W t) past) each in
      or_right (current W t == INITIAL_TASK) _
      (any-filter (λ (other : Join). other.region == current_region W t) (passes_by past (current W t)) (joins past)
      (list_any_at (passes_by past (current W t)) (joins_of (current_region W t) past) join.place no_join join.within
      (and_from _ _ (eq-eqb _ _ (join.task ∙ is))
      (and_from _ _ (ap (λ q. is_open_region q past) join.region ∙ opened)
      (ap₂ (λ q n. have_waited past q n (waits_of (current W t) past)) join.region join.actual ∙ waited)))))

  -- that of the initial task is free
  pub barrier-passes : (which : SyncKind) → is_barrier which ≡ true → 1 ≤ current W t → stand_at W (current W t) ≡ AtSync which stage.WaitEnd →
      may_end W t which ≡ true →
      passes_wait past (current W t) ≡ true
  barrier-passes which barrier some stand may =
      let plain = (subst (λ at. AtBarrier W past (current W t) at) stand (knows.barriers.at (current W t)) barrier).0 in
      elim (plain-kinds (pooled_at W (current W t)).kind plain) [
        | inl initial ↦ or_left (current W t == INITIAL_TASK) _ (eq-eqb _ _ (knows.sound.orderly.alone (current W t) initial))
        | inr implicit ↦ member-passes which barrier some stand may implicit
      ]
