-- What the Go of an event does to the team of a region, as to the last barrier: nothing, or a member of it meets something, or its wait ends.
use Rattle.std.proofs.Common.{ℕ, ◌≡◌, ◌≢◌, ◌<◌, ◌≤◌, ◌==◌, ◌&&◌, ◌||◌, ◌⊎◌, Bool, true, false, if◌then◌else◌, List, length, refl, sym, ap, ◌∙◌, subst, inl, inr, arith}
use Rattle.std.specs.Prelude.{Ok, ◌-◌, slice_index_or}
use Rattle.std.specs.List.{AllPass, list_any}
use Rattle.std.proofs.lemmas.Bool.{and_parts, cases_Bool, cases_eq, cases_lt, cond-false, cond-true, eq-eqb, eqb-true, false≢true, lt-ltb, ne_eqb}
use Rattle.std.proofs.lemmas.List.{get_or_past}
use Rattle.std.proofs.lemmas.List.Folds.{sum_by-zero}
use Rattle.std.proofs.lemmas.List.Sums.{AllPass-from_list_all}
use Rattle.ompt_calls.specs.declared.event.EventRecord.{EventRecord}
use Rattle.c_model.specs.declared.point.SyncKind.{SyncKind}
use Rattle.c_model.specs.declared.point.SyncKind.TheVariants as sync
use Rattle.c_model.specs.declared.point.SyncStage.{SyncStage}
use Rattle.c_model.specs.declared.point.SyncStage.TheVariants as stage
use Rattle.c_model.specs.declared.point.WorkKind.{WorkKind}
use Rattle.task_pool.specs.declared.task.Task.{Task as PoolTask}
use Rattle.task_pool.specs.Tasks.{is_open, is_open_in, no_task as no_pooled, unfinished}
use Rattle.team_parts.specs.declared.meeting.Meeting.{Meeting}
use Rattle.team_parts.specs.declared.meeting.Meeting.TheVariants as meeting
use Rattle.team_parts.specs.declared.member.Member.{Member}
use Rattle.team_parts.specs.Meetings.{is_barrier as meets_at_barrier}
use Rattle.team_parts.specs.Team.{TeamView, after_meeting, answer_to_meet, may_pass, member_at, with_passed}
use Rattle.omp_model.specs.declared.event.Endpoint.TheVariants.{Begin, End}
use Rattle.omp_model.specs.declared.event.Event.{Event}
use Rattle.omp_model.specs.declared.event.Event.TheVariants.{Dispatch, InitialTaskBegin, InitialTaskEnd, MemberBegin, MemberEnd, ParallelBegin, Sync, TaskBegin, TaskEnd, ThreadBegin, ThreadEnd, Work}
use Rattle.omp_model.specs.State.{Run, World, pooled_at, region_at, task_at}
use Rattle.omp_model.specs.Members.{current, current_index, current_region, current_team, is_explicit_task, is_member}
use Rattle.omp_model.specs.Gates.{is_barrier, may_end}
use Rattle.omp_model.specs.EventEffects.{barrier_met, meeting_at}
use Rattle.omp_model.proofs.Touching.{AtBarrierElse, Meets, MeetsWork, SameTeam, is_of_code}
use Rattle.nested_runs.proofs.Coming.{Comes, ComesInCode}
use Rattle.nested_runs.proofs.Effects.{behind_after, is_at_region_barrier, is_in_region_barrier}
use Rattle.nested_runs.proofs.Recorded.{Inside}
use Rattle.nested_runs.proofs.Standing.{has_begun, is_behind}
use Rattle.nested_runs.proofs.Known.{AtBarrier, HasNoTasks, HasPassed, IsMemberTask, has_met_last, is_last, task_of_member}
use Rattle.nested_runs.proofs.Knows.{Goes}
use Rattle.nested_runs.proofs.LastSteps.{KeepsTeam, ThroughLast, counted-of, has-passed, passed-in}
use Rattle.nested_runs.proofs.SeatedMembers.{IsOwn, here-plain, own-member}
use Rattle.nested_runs.proofs.TeamsMet.{IsCounted, PassedIn, counted-met, counted-passed, has-met, has_last_in, last-met, may-pass-last, met-alike, passed-alike, passed-moved, passed-other, passed-own, unpassed-met}

-- an event of the code has the thread come so far in its task
pub in-code : (W : World) (t : ℕ) (e : Event) → Comes W t e → is_of_code e ≡ true → ComesInCode W t e
in-code W t ThreadBegin comes code = cc
in-code W t ThreadEnd comes code = cc
in-code W t InitialTaskBegin comes code = cc
in-code W t InitialTaskEnd comes code = cc
in-code W t (MemberBegin r k) comes code = cc
in-code W t (MemberEnd r k) comes code = cc
in-code W t (TaskBegin prior task) comes code = cc
in-code W t (TaskEnd task) comes code = cc
in-code W t (Dispatch share) comes code = cc
in-code W t other comes code = comes.0

-- ---- what it does, by the event

-- an event of a region's barrier that leaves the team is none of its first ones
pub record LeavesTeam (W after : World) (t : ℕ) (e : Event) (q : ℕ) : Type 0 where
  pub team : (region_at after q).team ≡ (region_at W q).team
  pub within : is_at_region_barrier e ≡ true → current_region W t ≡ q → is_in_region_barrier e ≡ true

-- the thread's task, a member, meets something, which is the region's barrier where the event is the first of that
pub record MeetsHere (W after : World) (t : ℕ) (e : Event) : Type 0 where
  pub code : is_of_code e ≡ true
  pub plain : is_explicit_task W (current W t) ≡ false
  pub ahead : is_in_region_barrier e ≡ false
  pub what : Meeting
  pub last : is_last what ≡ is_at_region_barrier e
  pub first : Bool
  pub answer : meeting_at W t what ≡ Ok first
  pub team : (region_at after (current_region W t)).team ≡ after_meeting (current_team W t) (current_index W t) what

-- its wait ends
pub record PassesHere (W after : World) (t : ℕ) (e : Event) : Type 0 where
  pub code : is_of_code e ≡ true
  pub plain : is_explicit_task W (current W t) ≡ false
  pub which : SyncKind
  pub barrier : is_barrier which ≡ true
  pub may : may_end W t which ≡ true
  pub within : is_at_region_barrier e ≡ true → is_in_region_barrier e ≡ true
  pub team : (region_at after (current_region W t)).team ≡ with_passed (current_team W t) (current_index W t)

-- one of the three
pub data TeamGoes (W after : World) (t : ℕ) (e : Event) (q : ℕ) : Type 0 where
  Left : LeavesTeam W after t e q → TeamGoes W after t e q
  Met : current_region W t ≡ q → MeetsHere W after t e → TeamGoes W after t e q
  Passed : current_region W t ≡ q → PassesHere W after t e → TeamGoes W after t e q

-- a worksharing construct is no barrier
work-last : (what : Meeting) → meets_at_barrier what ≡ false → is_last what ≡ false
work-last (meeting.Barrier codeptr which) is = cc
work-last (meeting.Loop at start count step schedule) is = refl
work-last (meeting.Sections at count) is = refl
work-last (meeting.Single at) is = refl

-- the first event of a barrier meets it: the region's is the last
barrier-last : (which : SyncKind) (codeptr : ℕ) → is_last (barrier_met codeptr which) ≡ is_at_region_barrier (Sync which stage.RegionBegin codeptr)
barrier-last sync.Barrier codeptr = refl
barrier-last sync.Taskwait codeptr = refl
barrier-last sync.Worksharing codeptr = refl
barrier-last sync.Parallel codeptr = refl

begins-ahead : (which : SyncKind) (codeptr : ℕ) → is_in_region_barrier (Sync which stage.RegionBegin codeptr) ≡ false
begins-ahead sync.Barrier codeptr = refl
begins-ahead sync.Taskwait codeptr = refl
begins-ahead sync.Worksharing codeptr = refl
begins-ahead sync.Parallel codeptr = refl

-- of the region's barrier the events behind the first one, and a taskwait is none
begun-within : (which : SyncKind) (at : SyncStage) (codeptr : ℕ) → has_begun at ≡ true → is_at_region_barrier (Sync which at codeptr) ≡ true →
    is_in_region_barrier (Sync which at codeptr) ≡ true
begun-within sync.Barrier at codeptr begun is = is
begun-within sync.Taskwait at codeptr begun is = is
begun-within sync.Worksharing at codeptr begun is = is
begun-within sync.Parallel at codeptr begun is = begun

taskwait-apart : (which : SyncKind) (at : SyncStage) (codeptr : ℕ) → is_barrier which ≡ false → is_at_region_barrier (Sync which at codeptr) ≡ false
taskwait-apart sync.Barrier at codeptr is = cc
taskwait-apart sync.Taskwait at codeptr is = refl
taskwait-apart sync.Worksharing at codeptr is = cc
taskwait-apart sync.Parallel at codeptr is = cc

-- what is so at a barrier, and elsewhere
at-barrier-else : (is : Bool) (P Q : Type 0) → is ≡ true → AtBarrierElse is P Q → P
at-barrier-else true P Q same holds = holds
at-barrier-else false P Q same holds = cc

at-else : (is : Bool) (P Q : Type 0) → is ≡ false → AtBarrierElse is P Q → Q
at-else true P Q same holds = cc
at-else false P Q same holds = holds

-- which of the three an event does
module _ (run : Run) (W after : World) (I J : Inside) (past : List EventRecord) (t : ℕ) where
  team-goes-begin : (which : SyncKind) (codeptr q : ℕ) → Goes run W after I J past t (Sync which stage.RegionBegin codeptr)
      → TeamGoes W after t (Sync which stage.RegionBegin codeptr) q
  team-goes-begin which codeptr q goes =
      let e : Event = Sync which stage.RegionBegin codeptr in
      elim (cases_Bool (is_barrier which)) [
        | inl barrier ↦ elim (cases_eq (current_region W t) q) [
          | inl same ↦
              let meets : Meets W after t (current_region W t) (barrier_met codeptr which) =
              at-barrier-else (is_barrier which) _ (SameTeam W after (current_region W t)) barrier (goes.touches.world.team (current_region W t)) in
              Met same (record {
                code = refl;
                plain = goes.comes.1 barrier;
                ahead = begins-ahead which codeptr;
                what = barrier_met codeptr which;
                last = barrier-last which codeptr;
                first = meets.first;
                answer = meets.answer;
                team = meets.team ∙ cond-true (current_region W t == current_region W t) _ _ (eq-eqb _ _ refl);
              })
          | inr other ↦
              let meets : Meets W after t q (barrier_met codeptr which) =
              at-barrier-else (is_barrier which) _ (SameTeam W after q) barrier (goes.touches.world.team q) in
              Left (record {
                team = meets.team ∙ cond-false (q == current_region W t) _ _ (ne_eqb q (current_region W t) (λ is. other (sym is)));
                within = λ is here. absurd (other here);
              })
        ]
        | inr not ↦ Left (record {
          team = at-else (is_barrier which) (Meets W after t q (barrier_met codeptr which)) (SameTeam W after q) not (goes.touches.world.team q);
          within = λ is here. absurd (false≢true (sym (taskwait-apart which stage.RegionBegin codeptr not) ∙ is));
        })
      ]

  team-goes-end : (which : SyncKind) (codeptr q : ℕ) → Goes run W after I J past t (Sync which stage.WaitEnd codeptr)
      → TeamGoes W after t (Sync which stage.WaitEnd codeptr) q
  team-goes-end which codeptr q goes =
      elim (cases_Bool (is_barrier which)) [
        | inl barrier ↦ elim (cases_eq (current_region W t) q) [
          | inl same ↦
              let at = subst (AtBarrier W past (current W t)) goes.comes.0.stand (goes.knows.barriers.at (current W t)) in
              Passed same (record {
                code = refl;
                plain = (at barrier).0;
                which = which;
                barrier = barrier;
                may = goes.comes.1;
                within = begun-within which stage.WaitEnd codeptr refl;
                team = goes.touches.world.team (current_region W t) ∙ cond-true (is_barrier which) _ _ barrier
                    ∙ cond-true (current_region W t == current_region W t) _ _ (eq-eqb _ _ refl);
              })
          | inr other ↦ Left (record {
            team = goes.touches.world.team q ∙ cond-true (is_barrier which) _ _ barrier
                ∙ cond-false (q == current_region W t) _ _ (ne_eqb q (current_region W t) (λ is. other (sym is)));
            within = λ is here. absurd (other here);
          })
        ]
        | inr not ↦ Left (record {
          team = goes.touches.world.team q ∙ cond-false (is_barrier which) _ _ not;
          within = λ is here. begun-within which stage.WaitEnd codeptr refl is;
        })
      ]

  team-goes-work : (which : WorkKind) (count codeptr q : ℕ) → Goes run W after I J past t (Work Begin which count codeptr)
      → TeamGoes W after t (Work Begin which count codeptr) q
  team-goes-work which count codeptr q goes =
      elim (cases_eq (current_region W t) q) [
        | inl same ↦
            let work : MeetsWork W after t (current_region W t) = goes.touches.world.team (current_region W t) in
            Met same (record {
              code = refl;
              plain = goes.comes.1;
              ahead = refl;
              what = work.what;
              last = work-last work.what work.work;
              first = work.meets.first;
              answer = work.meets.answer;
              team = work.meets.team ∙ cond-true (current_region W t == current_region W t) _ _ (eq-eqb _ _ refl);
            })
        | inr other ↦
            let work : MeetsWork W after t q = goes.touches.world.team q in
            Left (record {
              team = work.meets.team ∙ cond-false (q == current_region W t) _ _ (ne_eqb q (current_region W t) (λ is. other (sym is)));
              within = λ is here. absurd (other here);
            })
      ]

  pub team-goes : (e : Event) (q : ℕ) → Goes run W after I J past t e → q < length W.regions → TeamGoes W after t e q
  team-goes (ParallelBegin r requested codeptr) q goes below =
      let new : q ≡ r → ⊥ = λ is. omega (arith, is, below, goes.comes.1.region) in
      Left (record { team = goes.touches.world.team q ∙ cond-false (q == r) _ _ (ne_eqb q r new); within = λ is here. cc })
  team-goes (Work Begin which count codeptr) q goes below = team-goes-work which count codeptr q goes
  team-goes (Work End which count codeptr) q goes below = Left (record { team = goes.touches.world.team q; within = λ is here. cc })
  team-goes (Sync which stage.RegionBegin codeptr) q goes below = team-goes-begin which codeptr q goes
  team-goes (Sync which stage.WaitBegin codeptr) q goes below =
      Left (record { team = goes.touches.world.team q; within = λ is here. begun-within which stage.WaitBegin codeptr refl is })
  team-goes (Sync which stage.WaitEnd codeptr) q goes below = team-goes-end which codeptr q goes
  team-goes (Sync which stage.RegionEnd codeptr) q goes below =
      Left (record { team = goes.touches.world.team q; within = λ is here. begun-within which stage.RegionEnd codeptr refl is })
  team-goes other q goes below = Left (record { team = goes.touches.world.team q; within = λ is here. cc })

-- ---- what that does to the last barrier

-- a wait at a barrier ends as the team has it
may-passes : (W : World) (t : ℕ) (which : SyncKind) → is_barrier which ≡ true → may_end W t which ≡ true →
    may_pass (current_team W t) (current_index W t) (unfinished W.pool.tasks (current_region W t)) ≡ true
may-passes W t sync.Barrier is may = (and_parts (is_member W t) _ may).1
may-passes W t sync.Taskwait is may = cc
may-passes W t sync.Worksharing is may = (and_parts (is_member W t) _ may).1
may-passes W t sync.Parallel is may = (and_parts (is_member W t) _ may).1

-- where none is counted, no explicit task of the region is unfinished
shut-at : (q : ℕ) (task : PoolTask) → ((if is_open_in q task then 1 else 0) == 0) ≡ true → task.region ≡ q → is_open task ≡ false
shut-at q task none region = shut-if (is_open task) (rw (sym (ap (λ x. x && is_open task) (eq-eqb task.region q region))) none)
  where
    shut-if : (is : Bool) → ((if is then 1 else 0) == 0) ≡ true → is ≡ false
    shut-if true none = cc
    shut-if false none = refl

-- .. at no identity
pub none-unfinished : (W : World) (q : ℕ) → unfinished W.pool.tasks q ≡ 0 → HasNoTasks W q
none-unfinished W q none k region =
    elim (cases_eq k 0) [
      | inl zeroth ↦ ap (λ (task : PoolTask). is_open task) (cond-true (k == 0) _ _ (eq-eqb k 0 zeroth))
      | inr some ↦
          let at : pooled_at W k ≡ slice_index_or W.pool.tasks (k - 1) no_pooled = cond-false (k == 0) _ _ (ne_eqb k 0 some) in
          elim (cases_lt (k - 1) (length W.pool.tasks)) [
            | inl within ↦ shut-at q (pooled_at W k)
                (subst (λ (task : PoolTask). ((if is_open_in q task then 1 else 0) == 0) ≡ true) (sym at) (all (k - 1) no_pooled within)) region
            | inr past ↦ ap (λ (task : PoolTask). is_open task) (at ∙ get_or_past W.pool.tasks (k - 1) no_pooled past)
          ]
    ]
  where
    all : AllPass (λ (task : PoolTask). (if is_open_in q task then 1 else 0) == 0) W.pool.tasks
    all =
        AllPass-from_list_all (λ (task : PoolTask). (if is_open_in q task then 1 else 0) == 0) W.pool.tasks
        (sym (sum_by-zero (λ (task : PoolTask). if is_open_in q task then 1 else 0) W.pool.tasks) ∙ eq-eqb (unfinished W.pool.tasks q) 0 none)

-- a code that is behind already, or isn't the thread's, is so after the event
absorbed : (is behind : Bool) → (is ≡ true → behind ≡ true) → behind ≡ (is || behind)
absorbed true behind so = so refl
absorbed false behind so = refl

apart-behind : (is own behind : Bool) → own ≡ false → behind ≡ ((is && own) || behind)
apart-behind true true behind apart = cc
apart-behind true false behind apart = refl
apart-behind false own behind apart = refl

own-behind : (is own : Bool) → own ≡ true → (is || false) ≡ ((is && own) || false)
own-behind true own same = rw same refl
own-behind false own same = refl

-- the events of a region's barrier are of the code
pub barrier-code : (e : Event) → is_at_region_barrier e ≡ true → is_of_code e ≡ true
barrier-code (Sync which at codeptr) is = refl
barrier-code other is = cc

-- which members have met the last barrier, by whose codes are behind
pub record GoesTeam (W after : World) (t : ℕ) (e : Event) (q : ℕ) : Type 0 where
  pub keeps : KeepsTeam W after q
  pub last : (i : ℕ) → 1 ≤ task_of_member W q i → has_met_last after q i ≡ behind_after W t e (task_of_member W q i) (has_met_last W q i)

-- the Go of an event
module _ (run : Run) (W after : World) (I J : Inside) (past : List EventRecord) (t : ℕ) (e : Event) (goes : Goes run W after I J past t e) where
  -- a member that is the thread's task has its number
  pub own-is : (q i : ℕ) → 2 ≤ q → q < length W.regions → 1 ≤ task_of_member W q i → task_of_member W q i ≡ current W t → IsOwn W t q i
  own-is q i forked below some is =
      own-member run W I past goes.knows t (subst (λ k. 1 ≤ k) is some) q i
      (subst (IsMemberTask W q i) is ((goes.knows.members.region q forked below).implicit i some))

  -- its code is behind as its event says
  pub own-behind-is : (q i : ℕ) → 2 ≤ q → q < length W.regions → 1 ≤ task_of_member W q i → task_of_member W q i ≡ current W t → is_of_code e ≡ true →
      has_met_last W q i ≡ is_in_region_barrier e
  own-behind-is q i forked below some is code =
      let member : IsMemberTask W q i (current W t) = subst (IsMemberTask W q i) is ((goes.knows.members.region q forked below).implicit i some) in
      sym ((goes.knows.lasts.region q forked below).behind i some)
      ∙ ap (λ k. is_behind (task_at W k).code) is
      ∙ (in-code W t e goes.comes code).course member.kind

  -- where it leaves what members have met, their codes are behind as before
  stays-behind : (q i : ℕ) → 2 ≤ q → q < length W.regions → 1 ≤ task_of_member W q i →
      (is_at_region_barrier e ≡ true → current_region W t ≡ q → is_in_region_barrier e ≡ true) →
      has_met_last W q i ≡ behind_after W t e (task_of_member W q i) (has_met_last W q i)
  stays-behind q i forked below some within =
      absorbed (is_at_region_barrier e && task_of_member W q i == current W t) (has_met_last W q i) (λ both.
      let parts = and_parts (is_at_region_barrier e) (task_of_member W q i == current W t) both in
      let is = eqb-true (task_of_member W q i) (current W t) parts.1 in
      own-behind-is q i forked below some is (barrier-code e parts.0) ∙ within parts.0 (own-is q i forked below some is).region)

  -- the team is as it was
  left-team : (q : ℕ) → 2 ≤ q → q < length W.regions → LeavesTeam W after t e q → GoesTeam W after t e q
  left-team q forked below left =
      let last = goes.knows.lasts.region q forked below in
      record {
        keeps = record {
          counted = subst IsCounted (sym left.team) (counted-of W q last);
          kept = λ i passed. has-passed after q i (subst (λ (x : TeamView). PassedIn x i) (sym left.team) (passed-in W q i passed));
          fresh = λ i passed. inl (i, has-passed W q i (subst (λ (x : TeamView). PassedIn x i) left.team (passed-in after q i passed)));
          met = λ i has. ap (λ (x : TeamView). has_last_in x i) left.team ∙ has;
        };
        last = λ i some. ap (λ (x : TeamView). has_last_in x i) left.team ∙ stays-behind q i forked below some left.within;
      }

  -- the current task meets something: it was ahead, so that no one had met the region's barrier but by now
  met-team : MeetsHere W after t e → 2 ≤ current_region W t → GoesTeam W after t e (current_region W t)
  met-team meets forked =
      let incode = in-code W t e goes.comes meets.code in
      let here = here-plain run W I past goes.knows t incode.within.some meets.plain forked in
      let q : ℕ = current_region W t in
      let n : ℕ = current_index W t in
      let team : TeamView = current_team W t in
      let last = goes.knows.lasts.region q forked here.made in
      let counted = counted-of W q last in
      let answer : answer_to_meet team n meets.what ≡ Ok meets.first =
      sym (cond-true (is_member W t) _ _ (lt-ltb n (length team.members) here.within)) ∙ meets.answer in
      let some : 1 ≤ task_of_member W q n = subst (λ k. 1 ≤ k) (sym here.member) incode.within.some in
      let unmet : has_last_in team n ≡ false = own-behind-is q n forked here.made some here.member meets.code ∙ meets.ahead in
      let met = has-met team n meets.what meets.first counted here.within answer in
      let now : TeamView = after_meeting team n meets.what in
      let back : (i : ℕ) → i ≢ n → PassedIn now i → PassedIn team i = λ i other.
      passed-moved now team i (ap (λ (x : Member). x.passed) (sym (met.other_member i other)))
      (ap (λ (x : Member). x.barriers) (sym (met.other_member i other)))
      (sym (met.other i other)) in
      let forth : (i : ℕ) → i ≢ n → PassedIn team i → PassedIn now i = λ i other.
      passed-moved team now i (ap (λ (x : Member). x.passed) (met.other_member i other)) (ap (λ (x : Member). x.barriers) (met.other_member i other))
      (met.other i other) in
      let had : (i : ℕ) → has_last_in team i ≡ true → i ≡ n → ⊥ = λ i has same. false≢true (sym unmet ∙ ap (has_last_in team) (sym same) ∙ has) in
      record {
        keeps = record {
          counted = subst IsCounted (sym meets.team) (counted-met team n meets.what meets.first counted here.within answer unmet);
          kept = λ i passed. has-passed after q i (subst (λ (x : TeamView). PassedIn x i) (sym meets.team)
              (forth i (had i passed.met) (passed-in W q i passed)));
          fresh = λ i passed.
              let into : PassedIn now i = subst (λ (x : TeamView). PassedIn x i) meets.team (passed-in after q i passed) in
              inl (
                i,
                has-passed W q i (back i (λ same. unpassed-met team n meets.what meets.first counted here.within answer unmet
                    (subst (PassedIn now) same into)) into),
              );
          met = λ i has. ap (λ (x : TeamView). has_last_in x i) meets.team ∙ ap (λ (xs : List Meeting). list_any is_last xs) (met.other i (had i has)) ∙ has;
        };
        last = λ i one.
            ap (λ (x : TeamView). has_last_in x i) meets.team
            ∙ elim (cases_eq i n) [
              | inl same ↦
                  let task : task_of_member W q i ≡ current W t = ap (task_of_member W q) same ∙ here.member in
                  let none : has_last_in team i ≡ false = ap (has_last_in team) same ∙ unmet in
                  ap (has_last_in now) same
                  ∙ last-met team n meets.what meets.first counted here.within answer
                  ∙ ap (λ b. b || (is_last meets.what || false)) unmet
                  ∙ ap (λ b. b || false) meets.last
                  ∙ own-behind (is_at_region_barrier e) (task_of_member W q i == current W t) (eq-eqb _ _ task)
                  ∙ ap (λ b. (is_at_region_barrier e && task_of_member W q i == current W t) || b) (sym none)
              | inr other ↦
                  ap (λ (xs : List Meeting). list_any is_last xs) (met.other i other)
                  ∙ apart-behind (is_at_region_barrier e) (task_of_member W q i == current W t) (has_met_last W q i)
                  (ne_eqb _ _ (λ is. other (own-is q i forked here.made one is).index))
            ];
      }

  -- no member has begun to wait at a barrier that it hasn't met
  begun-most : (q : ℕ) → 2 ≤ q → q < length W.regions → (i : ℕ) → (member_at (region_at W q).team i).begun ≤ (member_at (region_at W q).team i).barriers
  begun-most q forked below i =
      elim (cases_lt 0 (task_of_member W q i)) [
        | inl some ↦ let member = goes.knows.barriers.member q i forked below (omega (arith, some)) in omega (arith, member.waits, member.begun)
        | inr none ↦ let unmet = goes.knows.barriers.unmet q i forked below (omega (arith, none)) in omega (arith, unmet.begun)
      ]

  -- the wait of the current task ends
  passed-team : PassesHere W after t e → 2 ≤ current_region W t → GoesTeam W after t e (current_region W t)
  passed-team passes forked =
      let incode = in-code W t e goes.comes passes.code in
      let here = here-plain run W I past goes.knows t incode.within.some passes.plain forked in
      let q : ℕ = current_region W t in
      let n : ℕ = current_index W t in
      let team : TeamView = current_team W t in
      let last = goes.knows.lasts.region q forked here.made in
      let counted = counted-of W q last in
      let now : TeamView = with_passed team n in
      let alike = passed-alike team n here.within in
      let same_met : (i : ℕ) → has_last_in now i ≡ has_last_in team i = λ i. ap (λ (xs : List Meeting). list_any is_last xs) (met-alike team now alike i) in
      let through : has_last_in team n ≡ true → ((j : ℕ) × HasPassed W q j) ⊎ ThroughLast W q = λ has.
      elim (may-pass-last team n (unfinished W.pool.tasks q) counted (begun-most q forked here.made) has
      (may-passes W t passes.which passes.barrier passes.may)) [
        | inl all ↦ inr (record {
          met = λ j below. all.met j (subst (λ m. j < m)
              (sym (goes.knows.sound.made.regions q (record { some = omega (arith, forked); below = here.made })).team) below);
          tasks = none-unfinished W q all.none;
        })
        | inr some ↦ inl (some.0, has-passed W q some.0 some.1)
      ] in
      record {
        keeps = record {
          counted = subst IsCounted (sym passes.team) (counted-passed team n here.within counted);
          kept = λ i passed. has-passed after q i (subst (λ (x : TeamView). PassedIn x i) (sym passes.team) (
              elim (cases_eq i n) [
                | inl same ↦ subst (PassedIn now) (sym same) (passed-own team n here.within (ap (has_last_in team) (sym same) ∙ passed.met))
                | inr other ↦ passed-moved team now i (passed-other team n here.within i other) (alike.barriers i) (met-alike team now alike i)
                    (passed-in W q i passed)
              ]));
          fresh = λ i passed.
              let into : PassedIn now i = subst (λ (x : TeamView). PassedIn x i) passes.team (passed-in after q i passed) in
              elim (cases_eq i n) [
                | inl same ↦ through (ap (has_last_in team) (sym same) ∙ sym (same_met i) ∙ into.met)
                | inr other ↦ inl (
                  i,
                  has-passed W q i
                      (passed-moved now team i (sym (passed-other team n here.within i other)) (sym (alike.barriers i))
                      (sym (met-alike team now alike i)) into),
                )
              ];
          met = λ i has. ap (λ (x : TeamView). has_last_in x i) passes.team ∙ same_met i ∙ has;
        };
        last = λ i some. ap (λ (x : TeamView). has_last_in x i) passes.team ∙ same_met i ∙ stays-behind q i forked here.made some (λ is here. passes.within is);
      }

  -- any of the three
  goes-team-by : (q : ℕ) → 2 ≤ q → q < length W.regions → TeamGoes W after t e q → GoesTeam W after t e q
  goes-team-by q forked below (Left left) = left-team q forked below left
  goes-team-by q forked below (Met here meets) = subst (λ r. GoesTeam W after t e r) here (met-team meets (subst (λ r. 2 ≤ r) (sym here) forked))
  goes-team-by q forked below (Passed here passes) = subst (λ r. GoesTeam W after t e r) here (passed-team passes (subst (λ r. 2 ≤ r) (sym here) forked))

  pub goes-team : (q : ℕ) → 2 ≤ q → q < length W.regions → GoesTeam W after t e q
  goes-team q forked below = goes-team-by q forked below (team-goes run W after I J past t e q goes below)
