-- What the Go of an event leaves of what is told of a region's last barrier: all of it, for the regions that were made before.
use Rattle.std.proofs.Common.{ℕ, ◌≡◌, ◌<◌, ◌≤◌, ◌==◌, ◌&&◌, ◌⊎◌, Bool, true, false, if◌then◌else◌, List, length, take, slice_index_or, refl, sym, ap, ◌∙◌, subst, inl, inr, arith}
use Rattle.std.specs.List.{list_any}
use Rattle.std.proofs.lemmas.Bool.{and_parts, cases_Bool, cases_eq, cases_lt, cond-false, cond-true, eq-eqb, eqb-true, false≢true, ne_eqb, or_cases, true≢false}
use Rattle.std.proofs.lemmas.List.{get_or-set_other, get_or-set_same, set_past}
use Rattle.c_model.specs.declared.point.SyncKind.TheVariants as sync
use Rattle.c_model.specs.declared.point.SyncStage.TheVariants as stage
use Rattle.ompt_calls.specs.declared.event.EventRecord.{EventRecord}
use Rattle.task_pool.specs.Tasks.{is_explicit}
use Rattle.team_parts.specs.Team.{TeamView, with_passed}
use Rattle.omp_model.specs.declared.limits.TheConstants.{IMPLICIT_REGION}
use Rattle.omp_model.specs.declared.parts.RegionHead.{RegionHead}
use Rattle.omp_model.specs.declared.event.Event.{Event}
use Rattle.omp_model.specs.declared.event.Event.TheVariants.{InitialTaskBegin, MemberBegin, ParallelBegin, ParallelEnd, Sync, TaskCreate}
use Rattle.omp_model.specs.State.{Run, World, pooled_at, region_at, task_at, thread_at}
use Rattle.omp_model.specs.Members.{current, current_index, current_region, current_team, is_explicit_task, member_index}
use Rattle.omp_model.proofs.Touching.{head_after, is_of_code, joined_by}
use Rattle.omp_model.proofs.Alike.{what_met}
use Rattle.nested_runs.proofs.Coming.{Comes}
use Rattle.nested_runs.proofs.Effects.{behind_after, is_at_region_barrier, is_in_region_barrier, stand_after, stand_before}
use Rattle.nested_runs.proofs.Recorded.{Inside}
use Rattle.nested_runs.proofs.Standing.{is_behind, stand_at}
use Rattle.nested_runs.proofs.Touching.{Touches}
use Rattle.nested_runs.proofs.Known.{HasPassed, IsMemberTask, IsOpenRegion, TellsLast, has_met_last, is_last, is_past_wait, task_of_member}
use Rattle.nested_runs.proofs.Knows.{Goes}
use Rattle.nested_runs.proofs.LastSteps.{KeepsMembers, ThroughLast, has-passed, kept-last}
use Rattle.nested_runs.proofs.LastTeams.{GoesTeam, barrier-code, goes-team, in-code, own-behind-is, own-is}
use Rattle.nested_runs.proofs.OpenTasks.{CreatesNone, no-tasks-go}
use Rattle.nested_runs.proofs.SeatedMembers.{IsOwn, current-open, here-plain}
use Rattle.nested_runs.proofs.TeamsMet.{PassedIn, has_last_in, passed-own}

-- ---- the region's head

-- the member that begins
pub record Joins (W after : World) (t : ℕ) (e : Event) (q i : ℕ) : Type 0 where
  pub task : ℕ
  pub is : e ≡ MemberBegin q task
  pub index : i ≡ member_index W t q
  pub there : task_of_member after q i ≡ task

-- the size stays, who has left stays, and the members but for one that begins
pub record KeepsHead (W after : World) (t : ℕ) (e : Event) (q : ℕ) : Type 0 where
  pub size : (region_at after q).head.size ≡ (region_at W q).head.size
  pub left : (region_at after q).head.left ≡ (region_at W q).head.left
  pub member : (i : ℕ) → (task_of_member after q i ≡ task_of_member W q i) ⊎ Joins W after t e q i

-- the head is as it was, or is marked as ended, or has one more member
module _ (W after : World) (t q : ℕ) where
  same-head : (e : Event) → (region_at after q).head ≡ (region_at W q).head → KeepsHead W after t e q
  same-head e is =
      record {
        size = ap (λ (head : RegionHead). head.size) is;
        left = ap (λ (head : RegionHead). head.left) is;
        member = λ i. inl (ap (λ (head : RegionHead). slice_index_or head.members i 0) is);
      }

  ended-head : (e : Event) (ends : Bool) → (region_at after q).head ≡ (if ends then record (region_at W q).head { ended = true } else (region_at W q).head)
      → KeepsHead W after t e q
  ended-head e true is =
      record {
        size = ap (λ (head : RegionHead). head.size) is;
        left = ap (λ (head : RegionHead). head.left) is;
        member = λ i. inl (ap (λ (head : RegionHead). slice_index_or head.members i 0) is);
      }
  ended-head e false is = same-head e is

  joined-head : (r k : ℕ) (joins : Bool) → (q == r) ≡ joins →
      (region_at after q).head ≡ (if joins then joined_by (region_at W q).head (member_index W t r) k else (region_at W q).head)
      → KeepsHead W after t (MemberBegin r k) q
  joined-head r k true same is =
      let own : q ≡ r = eqb-true q r same in
      let members : List ℕ = (region_at W q).head.members in
      record {
        size = ap (λ (head : RegionHead). head.size) is;
        left = ap (λ (head : RegionHead). head.left) is;
        member = λ i. elim (cases_eq i (member_index W t r)) [
          | inr other ↦ inl (ap (λ (head : RegionHead). slice_index_or head.members i 0) is ∙ get_or-set_other members (member_index W t r) i k 0 other)
          | inl here ↦ elim (cases_lt (member_index W t r) (length members)) [
            | inl within ↦ inr (record {
              task = k;
              is = ap (λ (p : ℕ). MemberBegin p k) (sym own);
              index = here ∙ ap (member_index W t) (sym own);
              there = ap (λ (head : RegionHead). slice_index_or head.members i 0) is
                  ∙ ap (λ n. slice_index_or (joined_by (region_at W q).head (member_index W t r) k).members n 0) here
                  ∙ get_or-set_same members (member_index W t r) k 0 within;
            })
            | inr past ↦ inl (ap (λ (head : RegionHead). slice_index_or head.members i 0) is ∙ ap (λ (xs : List ℕ). slice_index_or xs i 0)
                (set_past members (member_index W t r) k past))
          ]
        ];
      }
  joined-head r k false same is = same-head (MemberBegin r k) is

  -- .. by the event, for a forked region that was made before
  pub keeps-head : (e : Event) → Comes W t e → 2 ≤ q → q < length W.regions → (region_at after q).head ≡ head_after W t e q → KeepsHead W after t e q
  keeps-head (ParallelBegin r requested codeptr) comes forked below is =
      same-head (ParallelBegin r requested codeptr) (is ∙ cond-false (q == r) _ _ (ne_eqb q r (λ same. omega (arith, same, below, comes.1.region))))
  keeps-head (ParallelEnd r codeptr) comes forked below is = ended-head (ParallelEnd r codeptr) (q == r) is
  keeps-head InitialTaskBegin comes forked below is =
      same-head InitialTaskBegin (is ∙ cond-false (q == IMPLICIT_REGION) _ _ (ne_eqb q IMPLICIT_REGION (λ same. omega (arith, same, forked))))
  keeps-head (MemberBegin r k) comes forked below is = joined-head r k (q == r) refl is
  keeps-head other comes forked below is = same-head other is

-- ---- where codes stand

-- the events of the region's barrier behind its first one are events of it
within-at : (e : Event) → is_in_region_barrier e ≡ true → is_at_region_barrier e ≡ true
within-at (Sync sync.Parallel at codeptr) is = refl
within-at other is = is

-- behind an event of the region's barrier its wait is over only where it ends with it, or was over before
pub data PastWait (e : Event) : Type 0 where
  Now : (codeptr : ℕ) → e ≡ Sync sync.Parallel stage.WaitEnd codeptr → PastWait e
  Was : is_in_region_barrier e ≡ true → is_past_wait (stand_before e) ≡ true → PastWait e

-- .. by the event
past-wait : (e : Event) → is_at_region_barrier e ≡ true → is_past_wait (stand_after e) ≡ true → PastWait e
past-wait (Sync sync.Parallel stage.RegionBegin codeptr) is past = cc
past-wait (Sync sync.Parallel stage.WaitBegin codeptr) is past = cc
past-wait (Sync sync.Parallel stage.WaitEnd codeptr) is past = Now codeptr refl
past-wait (Sync sync.Parallel stage.RegionEnd codeptr) is past = Was refl refl
past-wait other is past = cc

-- the Go of an event
module _ (run : Run) (W after : World) (I J : Inside) (past : List EventRecord) (t : ℕ) (e : Event) (goes : Goes run W after I J past t e) where
  -- who has passed the last barrier creates no task
  creates-none-by : (e : Event) (q : ℕ) → Goes run W after I J past t e → 2 ≤ q → q < length W.regions → ThroughLast W q → CreatesNone W t e q
  creates-none-by (TaskCreate task undeferred codeptr) q now forked below through = λ here.
      let some = now.comes.0.within.some in
      elim (cases_Bool (is_explicit_task W (current W t))) [
        | inl explicit ↦ true≢false (sym (current-open run W I past now.knows t some explicit) ∙ through.tasks (current W t) here)
        | inr plain ↦
            let is = here-plain run W I past now.knows t some plain (subst (λ r. 2 ≤ r) (sym here) forked) in
            let met = through.met (current_index W t) (subst (λ r. current_index W t < (region_at W r).head.size) here is.below) in
            let member : task_of_member W q (current_index W t) ≡ current W t = ap (λ r. task_of_member W r (current_index W t)) (sym here) ∙ is.member in
            false≢true (sym (own-behind-is run W after I J past t (TaskCreate task undeferred codeptr) now q (current_index W t) forked below
            (subst (λ k. 1 ≤ k) (sym member) some) member refl) ∙ met)
      ]
  creates-none-by other q now forked below through = tt

  -- a forked region that was made before
  module _ (q : ℕ) (forked : 2 ≤ q) (below : q < length W.regions) where
    last : TellsLast W q
    last = goes.knows.lasts.region q forked below

    team : GoesTeam W after t e q
    team = goes-team run W after I J past t e goes q forked below

    head : KeepsHead W after t e q
    head = keeps-head W after t q e goes.comes forked below (goes.touches.world.head q)

    -- the member that begins is ahead of the barrier
    record Begins (i : ℕ) : Type 0 where
      behind : is_behind (task_at after (task_of_member after q i)).code ≡ false
      unmet : has_met_last after q i ≡ false

    -- .. since its region's task stands at the end of the region still, and it has met nothing
    begins : (i : ℕ) → Joins W after t e q i → Begins i
    begins i joins =
        let k : ℕ = joins.task in
        let comes = subst (Comes W t) joins.is goes.comes in
        let touches = subst (Touches W after t) joins.is goes.touches in
        let some : 1 ≤ (thread_at W t).invited = omega (arith, comes.region, forked) in
        let is_open : IsOpenRegion W q = subst (IsOpenRegion W) comes.region (goes.knows.seats.invited t some).region in
        let room : task_of_member W q (member_index W t q) ≡ 0 =
        ap (λ r. task_of_member W r (member_index W t r)) (sym comes.region) ∙ goes.knows.members.room t some in
        let unmet = goes.knows.barriers.unmet q (member_index W t q) forked below room in
        record {
          behind = ap (λ j. is_behind (task_at after j).code) joins.there ∙ touches.begins_ahead (goes.knows.seats.holds q is_open).stand;
          unmet = ap (λ (x : TeamView). has_last_in x i) (touches.world.team q) ∙ ap (λ n. has_last_in (region_at W q).team n) joins.index
              ∙ ap (λ n. list_any is_last (take n (what_met (region_at W q).team))) unmet.met;
        }

    -- a member that has begun before
    behind-old : (i : ℕ) → 1 ≤ task_of_member W q i → is_behind (task_at after (task_of_member W q i)).code ≡ has_met_last after q i
    behind-old i some =
        let member = (goes.knows.members.region q forked below).implicit i some in
        goes.touches.behind (task_of_member W q i) member.made.below member.kind
        ∙ ap (λ b. behind_after W t e (task_of_member W q i) b) (last.behind i some)
        ∙ sym (team.last i some)

    -- its wait is over, where it wasn't before, by its event
    over-own : (i : ℕ) → 1 ≤ task_of_member W q i → task_of_member W q i ≡ current W t → is_of_code e ≡ true → is_at_region_barrier e ≡ true →
        is_past_wait (stand_after e) ≡ true → HasPassed after q i
    over-own i some is code at waited = by (past-wait e at waited)
      where
        own : IsOwn W t q i
        own = own-is run W after I J past t e goes q i forked below some is

        met : has_met_last W q i ≡ is_in_region_barrier e
        met = own-behind-is run W after I J past t e goes q i forked below some is code

        by : PastWait e → HasPassed after q i
        by (Was within was) =
            team.keeps.kept i (last.over i some (last.behind i some ∙ met ∙ within)
            (ap is_past_wait (ap (stand_at W) is ∙ (in-code W t e goes.comes code).stand) ∙ was))
        by (Now codeptr same) =
            let incode = in-code W t e goes.comes code in
            let explicit : is_explicit_task W (current W t) ≡ false =
            ap (λ j. is_explicit (pooled_at W j).kind) (sym is) ∙ ap is_explicit ((goes.knows.members.region q forked below).implicit i some).kind in
            let here = here-plain run W I past goes.knows t incode.within.some explicit (subst (λ r. 2 ≤ r) (sym own.region) forked) in
            let touches = subst (Touches W after t) same goes.touches in
            let now : (region_at after (current_region W t)).team ≡ with_passed (current_team W t) (current_index W t) =
            touches.world.team (current_region W t) ∙ cond-true (current_region W t == current_region W t) _ _ (eq-eqb _ _ refl) in
            let has : has_last_in (current_team W t) (current_index W t) ≡ true =
            ap (λ r. has_last_in (region_at W r).team (current_index W t)) own.region ∙ ap (has_met_last W q) (sym own.index) ∙ met
            ∙ ap is_in_region_barrier same in
            let passed : PassedIn (region_at after (current_region W t)).team (current_index W t) =
            subst (λ (x : TeamView). PassedIn x (current_index W t)) (sym now) (passed-own (current_team W t) (current_index W t) here.within has) in
            subst (λ n. HasPassed after q n) (sym own.index)
            (subst (λ r. HasPassed after r (current_index W t)) own.region (has-passed after (current_region W t) (current_index W t) passed))

    -- the wait of a member that has begun before is over
    over-old : (i : ℕ) → 1 ≤ task_of_member W q i → is_behind (task_at after (task_of_member W q i)).code ≡ true →
        is_past_wait (stand_at after (task_of_member W q i)) ≡ true → HasPassed after q i
    over-old i some behind waited =
        elim (cases_eq (task_of_member W q i) (current W t)) [
          | inl is ↦ elim (cases_Bool (is_of_code e)) [
            | inl code ↦ over-own i some is code (at is code) (ap is_past_wait (sym (goes.touches.stand_own code) ∙ ap (stand_at after) (sym is)) ∙ waited)
            | inr beside ↦ apart (λ code same. true≢false (sym code ∙ beside))
          ]
          | inr other ↦ apart (λ code same. other same)
        ]
      where
        member : IsMemberTask W q i (task_of_member W q i)
        member = (goes.knows.members.region q forked below).implicit i some

        was : behind_after W t e (task_of_member W q i) (is_behind (task_at W (task_of_member W q i)).code) ≡ true
        was = sym (goes.touches.behind (task_of_member W q i) member.made.below member.kind) ∙ behind

        at : task_of_member W q i ≡ current W t → is_of_code e ≡ true → is_at_region_barrier e ≡ true
        at is code =
            elim (or_cases (is_at_region_barrier e && task_of_member W q i == current W t) _ was) [
              | inl both ↦ (and_parts (is_at_region_barrier e) _ both).0
              | inr old ↦ within-at e (sym (own-behind-is run W after I J past t e goes q i forked below some is code) ∙ sym (last.behind i some) ∙ old)
            ]

        apart : (is_of_code e ≡ true → task_of_member W q i ≡ current W t → ⊥) → HasPassed after q i
        apart other =
            elim (or_cases (is_at_region_barrier e && task_of_member W q i == current W t) _ was) [
              | inl both ↦
                  let parts = and_parts (is_at_region_barrier e) (task_of_member W q i == current W t) both in
                  absurd (other (barrier-code e parts.0) (eqb-true (task_of_member W q i) (current W t) parts.1))
              | inr old ↦ team.keeps.kept i (last.over i some old (ap is_past_wait (sym (goes.touches.stands (task_of_member W q i) other)) ∙ waited))
            ]

    -- all of it
    pub members-go : KeepsMembers W after q
    members-go =
        record {
          size = head.size;
          tasks = λ through. no-tasks-go W t q goes.knows.sound.orderly through.tasks after e goes.comes
              (creates-none-by e q goes forked below through) goes.touches;
          behind = λ i some. elim (head.member i) [
            | inl same ↦ ap (λ j. is_behind (task_at after j).code) same ∙ behind-old i (subst (λ k. 1 ≤ k) same some)
            | inr joins ↦ (begins i joins).behind ∙ sym (begins i joins).unmet
          ];
          over = λ i some behind waited. elim (head.member i) [
            | inl same ↦ over-old i (subst (λ k. 1 ≤ k) same some) (ap (λ j. is_behind (task_at after j).code) (sym same) ∙ behind)
                (ap (λ j. is_past_wait (stand_at after j)) (sym same) ∙ waited)
            | inr joins ↦ absurd (true≢false (sym behind ∙ (begins i joins).behind))
          ];
          gone = λ i left. team.keeps.kept i (last.gone i (ap (λ (xs : List Bool). slice_index_or xs i false) (sym head.left) ∙ left));
        }

    pub last-go : TellsLast after q
    last-go = kept-last W after q last team.keeps members-go

    pub kept-go : (i : ℕ) → HasPassed W q i → HasPassed after q i
    kept-go = team.keeps.kept
