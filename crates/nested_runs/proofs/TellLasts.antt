-- Behind the last barrier of a region no task of it is unfinished (rule 13).
use Rattle.std.proofs.Common.{ℕ, ◌≡◌, ◌<◌, ◌≤◌, ◌==◌, ◌⊎◌, Bool, true, false, if◌then◌else◌, List, [], length, take, slice_index_or, refl, sym, ap, ◌∙◌, subst, inl, inr, arith}
use Rattle.std.specs.Prelude.{Option, Some, count_by}
use Rattle.std.specs.List.{list_any}
use Rattle.std.proofs.lemmas.Bool.{cases_Bool, cases_eq, cases_lt, cond-true, eq-eqb, eqb-true, false≢true, true≢false}
use Rattle.std.proofs.lemmas.List.{get_or_past}
use Rattle.ompt_calls.specs.declared.event.EventRecord.{EventRecord}
use Rattle.task_pool.specs.declared.task.Condition.{Condition}
use Rattle.task_pool.specs.declared.task.Condition.TheVariants as condition
use Rattle.task_pool.specs.declared.task.Task.{Task as PoolTask}
use Rattle.task_pool.specs.declared.task.TaskKind.{TaskKind}
use Rattle.task_pool.specs.declared.task.TaskKind.TheVariants as kind
use Rattle.task_pool.specs.Tasks.{is_explicit, unfinished}
use Rattle.team_parts.specs.declared.meeting.Meeting.TheVariants as meeting
use Rattle.team_parts.specs.declared.member.Member.{Member}
use Rattle.team_parts.specs.Meetings.{is_barrier as meets_at_barrier}
use Rattle.team_parts.specs.Team.{TeamView, member_at, new_member}
use Rattle.omp_model.specs.declared.limits.TheConstants.{IMPLICIT_REGION, INITIAL_TASK}
use Rattle.omp_model.specs.declared.parts.RegionHead.{RegionHead}
use Rattle.omp_model.specs.declared.event.Event.{Event}
use Rattle.omp_model.specs.declared.event.Event.TheVariants.{InitialTaskBegin, InitialTaskEnd, MemberBegin, MemberEnd, ParallelBegin, TaskBegin, TaskCreate, TaskEnd}
use Rattle.omp_model.specs.State.{Run, World, first, first_world, fresh_head, fresh_team, pooled_at, region_at, task_at}
use Rattle.omp_model.specs.Members.{current, current_index, current_region, is_explicit_task, member_index, region_of}
use Rattle.omp_model.specs.Conditions.{AreOrderly}
use Rattle.omp_model.proofs.Touching.{come_to, pooled_after, pooled_back, regions_after}
use Rattle.omp_model.proofs.Alike.{what_met}
use Rattle.nested_runs.proofs.Coming.{Comes}
use Rattle.nested_runs.proofs.Recorded.{Inside, inside}
use Rattle.nested_runs.proofs.Standing.{is_behind, stand_at}
use Rattle.nested_runs.proofs.Knows.{ComesBack, Goes, IsWholeRun, Knows, Stays}
use Rattle.nested_runs.proofs.Touching.{Touches}
use Rattle.nested_runs.proofs.Known.{HasNoTasks, HasPassed, IsGoing, IsLeaving, TellsLast, TellsLasts, has_left_region, has_met_last, is_last, is_past_wait, task_of_member}
use Rattle.nested_runs.proofs.Chains.{Grown, outermost-grown}
use Rattle.nested_runs.proofs.FirstWorlds.{first-inside, replicated}
use Rattle.nested_runs.proofs.GoFrames.{grown-go}
use Rattle.nested_runs.proofs.LastGoes.{kept-go, last-go}
use Rattle.nested_runs.proofs.LastReturns.{back-head, going-own, kept-back, kept-stays, last-back, last-stays, no-tasks-stays, pooled-stays}
use Rattle.nested_runs.proofs.LastTeams.{none-unfinished}
use Rattle.nested_runs.proofs.OpenTasks.{CreatesNone, no-tasks-back, no-tasks-go}
use Rattle.nested_runs.proofs.SeatedMembers.{current-of, current-open, current-way, here-implicit}

-- ---- a region that begins

-- no member has begun, and nothing was met
module _ (W : World) (q task size most : ℕ) (head : (region_at W q).head ≡ fresh_head task size) (team : (region_at W q).team ≡ fresh_team most) where
  fresh-member : (i : ℕ) → member_at (region_at W q).team i ≡ new_member
  fresh-member i = ap (λ (x : TeamView). member_at x i) team ∙ replicated new_member most i

  fresh-met : (i : ℕ) → has_met_last W q i ≡ false
  fresh-met i = ap (λ (x : Member). list_any is_last (take x.met (what_met (region_at W q).team))) (fresh-member i)

  fresh-task : (i : ℕ) → task_of_member W q i ≡ 0
  fresh-task i = ap (λ (x : RegionHead). slice_index_or x.members i 0) head ∙ replicated 0 16 i

  fresh-left : (i : ℕ) → has_left_region W q i ≡ false
  fresh-left i = ap (λ (x : RegionHead). slice_index_or x.left i false) head ∙ replicated false 16 i

  no-meeting : (n : ℕ) → slice_index_or (what_met (region_at W q).team) n (meeting.Single 0) ≡ meeting.Single 0
  no-meeting n = ap (λ (x : TeamView). slice_index_or (what_met x) n (meeting.Single 0)) team ∙ get_or_past [] n (meeting.Single 0) (omega arith)

  fresh-last : TellsLast W q
  fresh-last =
      record {
        met = λ i. omega (arith, ap (λ (x : Member). x.met) (fresh-member i));
        barriers = λ i. ap (λ (x : Member). x.barriers) (fresh-member i)
            ∙ sym (ap (λ (x : Member). count_by meets_at_barrier (take x.met (what_met (region_at W q).team))) (fresh-member i));
        passed = λ i. omega (arith, ap (λ (x : Member). x.passed) (fresh-member i));
        last = λ n codeptr is. let none = sym (no-meeting n) ∙ is in cc;
        behind = λ i some. absurd (omega (arith, some, fresh-task i));
        over = λ i some behind past. absurd (omega (arith, some, fresh-task i));
        gone = λ i left. absurd (false≢true (sym (fresh-left i) ∙ left));
        all_met = λ i j passed below. absurd (false≢true (sym (fresh-met i) ∙ passed.met));
        no_tasks = λ i passed. absurd (false≢true (sym (fresh-met i) ∙ passed.met));
      }

-- ---- what threads are inside

-- an end that a thread is inside stays told
going-moved : (W after : World) (u : ℕ) (event : Option Event) →
    ((r k : ℕ) → event ≡ Some (MemberEnd r k) → HasPassed W r (member_index W u r) → HasPassed after r (member_index after u r)) →
    ((k : ℕ) → event ≡ Some (TaskEnd k) → is_explicit_task W k ≡ true → is_explicit_task after k ≡ true) → IsGoing W u event → IsGoing after u event
going-moved W after u (Some (MemberEnd r k)) members tasks going = members r k refl going
going-moved W after u (Some (TaskEnd task)) members tasks going = tasks task refl going
going-moved W after u other members tasks going = tt

-- the end of a member that a thread is inside is that of a forked region
record IsEnding (W : World) (r : ℕ) : Type 0 where
  forked : 2 ≤ r
  made : r < length W.regions

-- .. of all threads, where regions and kinds stay, and who has passed a last barrier
module _ (run : Run) (W after : World) (I : Inside) (past : List EventRecord) (knows : Knows run W I past) (grown : Grown W after)
    (kept : (q i : ℕ) → 2 ≤ q → q < length W.regions → HasPassed W q i → HasPassed after q i) where
  ending : (u r k : ℕ) → I u ≡ Some (MemberEnd r k) → IsEnding W r
  ending u r k is =
      let leaving = subst (IsLeaving W past u) is (knows.members.leaving u) in
      record { forked = leaving.1.0; made = (knows.sound.events u (MemberEnd r k) is).occurred.named.region.below }

  index-grown : (u r : ℕ) → 2 ≤ r → r < length W.regions → member_index after u r ≡ member_index W u r
  index-grown u r forked below =
      ap (λ b. if b then u else 0) (outermost-grown W after r knows.sound.made grown (record { some = omega (arith, forked); below = below }))

  going-kept : (u : ℕ) → IsGoing after u (I u)
  going-kept u =
      going-moved W after u (I u)
      (λ r k is passed. let end = ending u r k is in
      subst (HasPassed after r) (sym (index-grown u r end.forked end.made)) (kept r (member_index W u r) end.forked end.made passed))
      (λ k is explicit. ap is_explicit (grown.kind k (knows.sound.events u (TaskEnd k) is).occurred.named.below) ∙ explicit)
      (knows.lasts.going u)

-- ---- the initial task

-- of a task that an event may have changed
either-finished : (is : Bool) (task other : PoolTask) → (is ≡ true → other.condition ≡ condition.Finished → task.condition ≡ condition.Finished) →
    (if is then other else task).condition ≡ condition.Finished → task.condition ≡ condition.Finished
either-finished true task other new is = new refl is
either-finished false task other new is = is

-- it ends only by its end
initial-go : (W : World) (t : ℕ) (e : Event) → AreOrderly W → Comes W t e → (pooled_after W t e INITIAL_TASK).condition ≡ condition.Finished →
    (e ≡ InitialTaskEnd) ⊎ ((pooled_at W INITIAL_TASK).condition ≡ condition.Finished)
initial-go W t InitialTaskBegin orderly comes is = let none : condition.Started ≡ condition.Finished = is in cc
initial-go W t InitialTaskEnd orderly comes is = inl refl
initial-go W t (MemberBegin r task) orderly comes is = inr (either-finished (INITIAL_TASK == task) (pooled_at W INITIAL_TASK) _ (λ same finished. cc) is)
initial-go W t (MemberEnd r task) orderly comes is =
    inr (either-finished (INITIAL_TASK == task) (pooled_at W INITIAL_TASK) _
    (λ same finished.
    let implicit : (pooled_at W INITIAL_TASK).kind ≡ kind.Implicit = ap (λ k. (pooled_at W k).kind) (eqb-true INITIAL_TASK task same) ∙ comes.kind in
    let initial = orderly.initial in
    cc)
    is)
initial-go W t (TaskCreate task undeferred codeptr) orderly comes is =
    inr (either-finished (INITIAL_TASK == task) (pooled_at W INITIAL_TASK) _ (λ same finished. cc) is)
initial-go W t (TaskBegin prior task) orderly comes is = inr (either-finished (INITIAL_TASK == task) (pooled_at W INITIAL_TASK) _ (λ same finished. cc) is)
initial-go W t other orderly comes is = inr is

-- .. and not by a Back
initial-back : (W : World) (t : ℕ) (e : Event) → AreOrderly W → IsGoing W t (Some e) → (pooled_back W e INITIAL_TASK).condition ≡ condition.Finished →
    (pooled_at W INITIAL_TASK).condition ≡ condition.Finished
initial-back W t (TaskCreate task false codeptr) orderly going is = either-finished (INITIAL_TASK == task) (pooled_at W INITIAL_TASK) _ (λ same finished. cc) is
initial-back W t (TaskEnd task) orderly going is =
    either-finished (INITIAL_TASK == task) (pooled_at W INITIAL_TASK) _
    (λ same finished. absurd (false≢true (sym (ap is_explicit orderly.initial) ∙ ap (is_explicit_task W) (eqb-true INITIAL_TASK task same) ∙ going))) is
initial-back W t other orderly going is = is

-- the Go of an event behind its end
module _ (run : Run) (W after : World) (I J : Inside) (past : List EventRecord) (t : ℕ) where
  -- in a thread of the initial task's region none is created where that task has finished
  plain-none : (found : TaskKind) → Knows run W I past → 1 ≤ current W t → (pooled_at W INITIAL_TASK).condition ≡ condition.Finished
      → current_region W t ≡ IMPLICIT_REGION →
      (pooled_at W (current W t)).kind ≡ found → is_explicit found ≡ false → ⊥
  plain-none kind.Initial knows some finished here is plain =
      let started : (pooled_at W INITIAL_TASK).condition ≡ condition.Started =
      ap (λ k. (pooled_at W k).condition) (sym (knows.sound.orderly.alone (current W t) is)) ∙ (current-way run W I past knows t some).started in
      cc
  plain-none kind.Implicit knows some finished here is plain = let forked = (here-implicit run W I past knows t some is).forked in omega (arith, forked, here)
  plain-none kind.Explicit knows some finished here is plain = true≢false plain
  plain-none kind.Undeferred knows some finished here is plain = true≢false plain

  creates-none-initial : (e : Event) → Goes run W after I J past t e → (pooled_at W INITIAL_TASK).condition ≡ condition.Finished
      → CreatesNone W t e IMPLICIT_REGION
  creates-none-initial (TaskCreate task undeferred codeptr) goes finished = λ here.
      let some = goes.comes.0.within.some in
      elim (cases_Bool (is_explicit_task W (current W t))) [
        | inl explicit ↦ true≢false (sym (current-open run W I past goes.knows t some explicit) ∙ goes.knows.lasts.initial finished (current W t) here)
        | inr plain ↦ plain-none (pooled_at W (current W t)).kind goes.knows some finished here refl plain
      ]
  creates-none-initial other goes finished = tt

-- ---- all

-- at the start
pub lasts-first : (run : Run) → IsWholeRun run → TellsLasts (first_world run) (inside (first run))
lasts-first run whole =
    record {
      region = λ r forked below. let few : r < 2 = below in absurd (omega (arith, forked, few));
      going = λ t. subst (IsGoing (first_world run) t) (sym (first-inside run t)) tt;
      initial = λ is. let none : condition.Made ≡ condition.Finished = is in cc;
    }

-- after what is no event
pub lasts-stays : (run : Run) (W after : World) (I J : Inside) (past : List EventRecord) → Stays run W after I J past → TellsLasts after J
lasts-stays run W after I J past stays =
    record {
      region = λ r forked below. last-stays run W after I J past stays r forked (subst (λ n. r < n) stays.alike.world.regions below);
      going = λ u. subst (IsGoing after u) (sym (stays.same u)) (going-kept run W after I past stays.knows grown (kept-stays run W after I J past stays) u);
      initial = λ is. no-tasks-stays run W after I J past stays IMPLICIT_REGION
          (stays.knows.lasts.initial (ap (λ (task : PoolTask). task.condition) (sym (pooled-stays run W after I J past stays INITIAL_TASK)) ∙ is));
    }
  where
    grown : Grown W after
    grown =
        record {
          tasks = omega (arith, stays.alike.world.tasks);
          regions = omega (arith, stays.alike.world.regions);
          kind = λ k below. ap (λ (task : PoolTask). task.kind) (pooled-stays run W after I J past stays k);
          region = λ k below. ap (λ (task : PoolTask). task.region) (pooled-stays run W after I J past stays k);
          task = λ q below. (stays.alike.world.head q).task;
        }

-- the region that is new behind an event is the one that it begins
new-region : (W : World) (t : ℕ) (e : Event) (q : ℕ) → Comes W t e → q < regions_after e (length W.regions) → length W.regions ≤ q →
    (requested : ℕ) × (codeptr : ℕ) × (e ≡ ParallelBegin q requested codeptr)
new-region W t (ParallelBegin r requested codeptr) q comes below new =
    (requested, codeptr, ap (λ (p : ℕ). ParallelBegin p requested codeptr) (omega (arith, comes.1.region, below, new)))
new-region W t other q comes below new = absurd (omega (arith, below, new))

-- after the Go of an event
pub lasts-go : (run : Run) (W after : World) (I J : Inside) (past : List EventRecord) (t position : ℕ) (e : Event) → Goes run W after I J past t e →
    TellsLasts after J
lasts-go run W after I J past t position e goes =
    record {
      region = λ q forked below. elim (cases_lt q (length W.regions)) [
        | inl old ↦ last-go run W after I J past t e goes q forked old
        | inr new ↦
            let is = new-region W t e q goes.comes (subst (λ n. q < n) goes.touches.world.regions below) new in
            let touches = subst (Touches W after t) is.2 goes.touches in
            fresh-last after q _ _ _ (touches.world.head q ∙ cond-true (q == q) _ _ (eq-eqb q q refl)) (touches.world.team q ∙ cond-true (q == q) _ _ (eq-eqb q q refl))
      ];
      going = λ u. elim (cases_eq u t) [
        | inl same ↦ subst (IsGoing after u) (sym (ap J same ∙ goes.enters.own)) (subst (λ v. IsGoing after v (Some e)) (sym same) (own e goes))
        | inr other ↦ subst (IsGoing after u) (sym (goes.enters.others u other))
            (going-kept run W after I past goes.knows grown (λ q i forked below. kept-go run W after I J past t e goes q forked below i) u)
      ];
      initial = λ is.
          elim (initial-go W t e goes.knows.sound.orderly goes.comes (ap (λ (task : PoolTask). task.condition) (sym (goes.touches.world.pooled INITIAL_TASK)) ∙ is)) [
            | inl ends ↦
                let comes = subst (Comes W t) ends goes.comes in
                let region : current_region W t ≡ IMPLICIT_REGION = ap (region_of W) comes.task ∙ goes.knows.seats.initial in
                let none = none-unfinished W (current_region W t) (eqb-true (unfinished W.pool.tasks (current_region W t)) 0 comes.tasks) in
                no-tasks-go W t IMPLICIT_REGION goes.knows.sound.orderly (subst (HasNoTasks W) region none) after e goes.comes
                (subst (λ (x : Event). CreatesNone W t x IMPLICIT_REGION) (sym ends) tt) goes.touches
            | inr finished ↦
                no-tasks-go W t IMPLICIT_REGION goes.knows.sound.orderly (goes.knows.lasts.initial finished) after e goes.comes
                (creates-none-initial run W after I J past t e goes finished) goes.touches
          ];
    }
  where
    grown : Grown W after
    grown = grown-go W after t e goes.comes goes.touches

    own : (e : Event) → Goes run W after I J past t e → IsGoing after t (Some e)
    own (MemberEnd r k) now =
        let some = now.comes.within.some in
        let implicit = ap (λ j. (pooled_at W j).kind) (sym now.comes.task) ∙ now.comes.kind in
        let here = here-implicit run W I past now.knows t some implicit in
        let one : 1 ≤ task_of_member W (current_region W t) (current_index W t) = subst (λ j. 1 ≤ j) (sym here.member) some in
        let task : task_of_member W (current_region W t) (current_index W t) ≡ k = here.member ∙ sym now.comes.task in
        let passed = (now.knows.lasts.region (current_region W t) here.forked here.made).over (current_index W t) one
        (ap (λ j. is_behind (task_at W j).code) task ∙ now.comes.behind) (ap (λ j. is_past_wait (stand_at W j)) task ∙ ap is_past_wait now.comes.stand) in
        let kept = kept-go run W after I J past t (MemberEnd r k) now (current_region W t) here.forked here.made (current_index W t) passed in
        let region : current_region W t ≡ r = ap (region_of W) (sym now.comes.task) ∙ sym now.comes.region in
        let index : member_index after t (current_region W t) ≡ current_index W t =
        index-grown run W after I past now.knows (grown-go W after t (MemberEnd r k) now.comes now.touches)
        (λ q i forked below. kept-go run W after I J past t (MemberEnd r k) now q forked below i) t (current_region W t) here.forked here.made in
        subst (λ p. HasPassed after p (member_index after t p)) region (subst (HasPassed after (current_region W t)) (sym index) kept)
    own (TaskEnd task) now =
        let grows = grown-go W after t (TaskEnd task) now.comes now.touches in
        let made = current-of run W I past now.knows t now.comes.within.some in
        ap is_explicit (grows.kind task (subst (λ k. k < length W.tasks) (sym now.comes.task) made.made.below)) ∙ now.comes.explicit
    own other now = tt

-- a Back leaves the kinds and regions of tasks
either-kind : (is : Bool) (task : PoolTask) (now : Condition) → (if is then come_to task now else task).kind ≡ task.kind
either-kind true task now = refl
either-kind false task now = refl

either-region : (is : Bool) (task : PoolTask) (now : Condition) → (if is then come_to task now else task).region ≡ task.region
either-region true task now = refl
either-region false task now = refl

back-kind : (W : World) (e : Event) (k : ℕ) → (pooled_back W e k).kind ≡ (pooled_at W k).kind
back-kind W (TaskCreate task false codeptr) k = either-kind (k == task) (pooled_at W k) condition.Ready
back-kind W (TaskEnd task) k = either-kind (k == task) (pooled_at W k) condition.Finished
back-kind W other k = refl

back-region : (W : World) (e : Event) (k : ℕ) → (pooled_back W e k).region ≡ (pooled_at W k).region
back-region W (TaskCreate task false codeptr) k = either-region (k == task) (pooled_at W k) condition.Ready
back-region W (TaskEnd task) k = either-region (k == task) (pooled_at W k) condition.Finished
back-region W other k = refl

-- after its Back
pub lasts-back : (run : Run) (W after : World) (I J : Inside) (past : List EventRecord) (t : ℕ) (e : Event) → ComesBack run W after I J past t e
    → TellsLasts after J
lasts-back run W after I J past t e back =
    record {
      region = λ q forked below. last-back run W after I J past t e back q forked (subst (λ n. q < n) back.returns.regions below);
      going = λ u. elim (cases_eq u t) [
        | inl same ↦ subst (IsGoing after u) (sym (ap J same ∙ back.enters.own)) tt
        | inr other ↦ subst (IsGoing after u) (sym (back.enters.others u other))
            (going-kept run W after I past back.knows grown (kept-back run W after I J past t e back) u)
      ];
      initial = λ is. no-tasks-back W t IMPLICIT_REGION back.knows.sound.orderly
          (back.knows.lasts.initial (initial-back W t e back.knows.sound.orderly (going-own run W after I J past t e back)
          (ap (λ (task : PoolTask). task.condition) (sym (back.returns.pooled INITIAL_TASK)) ∙ is)))
          after e (back.knows.sound.events t e back.within).orderly back.returns;
    }
  where
    grown : Grown W after
    grown =
        record {
          tasks = omega (arith, back.returns.tasks);
          regions = omega (arith, back.returns.regions);
          kind = λ k below. ap (λ (task : PoolTask). task.kind) (back.returns.pooled k) ∙ back-kind W e k;
          region = λ k below. ap (λ (task : PoolTask). task.region) (back.returns.pooled k) ∙ back-region W e k;
          task = λ q below. (back-head W after t q e (back.returns.head q)).task;
        }
