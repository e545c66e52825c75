-- Each word of change keeps what is named made.
use Rattle.std.proofs.Common.{◌≡◌, ℕ, zero, suc, ◌+◌, ◌-◌, ◌<◌, ◌≤◌, ◌==◌, Bool, true, false, if◌then◌else◌, List, [], ◌∷◌, ◌++◌, filter, slice_set, slice_index_or, length, refl, sym, ap, ◌∙◌, subst, ◌⊎◌, inl, inr, arith}
use Rattle.std.specs.Prelude.{All}
use Rattle.std.proofs.lemmas.List.{length-set, length_push, get_or_append_left, get_or_push}
use Rattle.std.proofs.lemmas.List.Elements.{All-weaker, All-filter, All-push, All-cons, All-drop}
use Rattle.std.proofs.lemmas.Bool.{cases_lt, ne_eqb}
use Rattle.c_model.specs.Task.{Store, Task as Code}
use Rattle.task_pool.specs.declared.task.Condition.{Condition}
use Rattle.task_pool.specs.declared.task.Condition.TheVariants as condition
use Rattle.task_pool.specs.declared.task.Task.{Task as PoolTask}
use Rattle.task_pool.specs.declared.task.TaskKind.{TaskKind}
use Rattle.task_pool.specs.Tasks.{is_finished, task_at as pool_task_at, no_task as no_pool_task, with_condition, with_task as with_pool_task}
use Rattle.task_pool.specs.View.{PoolView, fresh_task, is_other, with_finished, with_ready, with_started}
use Rattle.team_parts.specs.Team.{TeamView}
use Rattle.sync_objects.specs.View.{LocksView}
use Rattle.omp_model.specs.declared.limits.TheConstants.{IMPLICIT_REGION, INITIAL_TASK}
use Rattle.omp_model.specs.declared.parts.RegionHead.{RegionHead}
use Rattle.omp_model.specs.declared.parts.ThreadStage.{ThreadStage}
use Rattle.omp_model.specs.declared.parts.ThreadStage.TheVariants as stage
use Rattle.omp_model.specs.State.{Region, Task, Thread, World, is_under_way, no_region, no_task, pooled_at, region_at, task_at, task_with, thread_at, unmade, with_region, with_task, with_thread}
use Rattle.omp_model.specs.Members.{is_outermost, region_of}
use Rattle.omp_model.specs.Words.{is_made_thread}
use Rattle.omp_model.specs.Changes.{with_invitations, with_undeferred, with_finished_task, is_fresh, stage_once_made, with_members_invited, without_current_task, with_ready_task, region_made, with_started_task, with_invitation, taken_up, task_made, with_current_task, with_code, with_head, with_team}
use Rattle.omp_model.specs.MadeWorld.{IsTask, IsRegion, IsForkedRegion, IsThread, IsRegionOf, IsTaskOf, MadeThread, MadeRegion, IsMadeWorld}
use Rattle.omp_model.proofs.Later.{at-set, SameTeam, same-team, Later, later-same, later-then, task-later, region-later, thread-later, made-region-later}

-- a later world in which all that is named was made
pub record MadeAfter (W after : World) : Type 0 where
  pub world : IsMadeWorld after
  pub later : Later W after

pub after-same : (W : World) → IsMadeWorld W → MadeAfter W W
after-same W made = record { world = made; later = later-same W }

pub after-then : (W between after : World) → IsMadeWorld W → MadeAfter W between → MadeAfter between after → MadeAfter W after
after-then W between after made first next =
    record {
      world = next.world;
      later = later-then W between after (omega (arith, made.pooled, first.world.pooled, first.later.tasks)) first.later next.later;
    }

-- one of two
pub after-either : (W one other : World) (b : Bool) → MadeAfter W one → MadeAfter W other → MadeAfter W (if b then one else other)
after-either W one other true first second = first
after-either W one other false first second = second

-- a region that is new
record NewRegion (W : World) (r : ℕ) : Type 0 where
  region : MadeRegion (length W.tasks) (length W.threads) (region_at W r)
  encountered : 1 ≤ (region_at W r).head.task

-- tasks and regions are made: what is so of the new ones
after-grown : (W after : World) → IsMadeWorld W → Later W after → length after.tasks ≡ length after.pool.tasks + 1 → ((t : ℕ) → MadeThread W t (thread_at after t)) → ((k : ℕ) → (task_at after k).forked < length after.regions) → ((k : ℕ) → IsTask after k → IsTask W k ⊎ IsRegion after (region_of after k)) → ((r : ℕ) → IsRegion after r → (r < length W.regions) ⊎ NewRegion after r) → All (IsTask W) after.pool.ready → MadeAfter W after
after-grown W after made later pooled threads forks placed regions ready =
    record {
      later = later;
      world = record {
        pooled = pooled;
        initial = task-later W after made later INITIAL_TASK made.initial;
        implicit = region-later W after made later IMPLICIT_REGION made.implicit;
        threads = λ t. thread-later W after made later t (thread_at after t) (threads t);
        forked = forks;
        placed = λ k one. elim (placed k one) [
          | inl before ↦ subst (IsRegion after) (sym (later.placed k (omega (arith, before.below, made.pooled)))) (region-later W after made later (region_of W k) (made.placed k before))
          | inr new ↦ new
        ];
        regions = λ r one. elim (regions r one) [
          | inl before ↦ made-region-later W after made later r (record { some = one.some; below = before })
          | inr new ↦ new.region
        ];
        unencountered = (later.teams IMPLICIT_REGION made.implicit.below).task ∙ made.unencountered;
        encountered = λ r two below. elim (regions r (record { some = omega arith; below = below })) [
          | inl before ↦ rw (later.teams r before).task (made.encountered r two before)
          | inr new ↦ new.encountered
        ];
        ready = All-weaker (IsTask W) (IsTask after) (task-later W after made later) after.pool.ready ready;
      };
    }

-- as many tasks and regions
pub record SameCounts (W after : World) : Type 0 where
  pub tasks : length after.tasks ≡ length W.tasks
  pub pool : length after.pool.tasks ≡ length W.pool.tasks
  pub regions : length after.regions ≡ length W.regions

pub after-kept : (W after : World) → IsMadeWorld W → Later W after → SameCounts W after → ((t : ℕ) → MadeThread W t (thread_at after t)) → ((k : ℕ) → (task_at after k).forked < length W.regions) → All (IsTask W) after.pool.ready → MadeAfter W after
after-kept W after made later same threads forks ready =
    after-grown W after made later (omega (arith, same.tasks, same.pool, made.pooled)) threads (λ k. omega (arith, forks k, same.regions))
    (λ k one. inl (record { some = one.some; below = omega (arith, one.below, same.tasks) })) (λ r one. inl (omega (arith, one.below, same.regions))) ready

-- a thread is changed
pub after-thread : (W : World) (t : ℕ) (thread : Thread) → IsMadeWorld W → MadeThread W t thread → (IsThread W t → is_made_thread thread.stage ≡ true) → MadeAfter W (with_thread W t thread)
after-thread W t thread made one stages =
    let later : Later W (with_thread W t thread) = record {
      threads = length-set W.threads t thread;
      stages = λ u there. at-set (λ (x : Thread). is_made_thread x.stage ≡ true) unmade W.threads t u thread there (λ is. stages (subst (IsThread W) is there));
      tasks = omega arith;
      regions = omega arith;
      placed = λ k below. refl;
      teams = λ r below. same-team (region_at W r);
    } in
    after-kept W (with_thread W t thread) made later (record { tasks = refl; pool = refl; regions = refl })
    (λ u. at-set (MadeThread W u) unmade W.threads t u thread (made.threads u) (λ is. subst (λ v. MadeThread W v thread) (sym is) one)) made.forked made.ready

-- a task is changed
pub after-task : (W : World) (k : ℕ) (task : Task) → IsMadeWorld W → task.forked < length W.regions → MadeAfter W (with_task W k task)
after-task W k task made below =
    let later : Later W (with_task W k task) = record {
      threads = refl;
      stages = λ u there. there;
      tasks = simp length-set (omega arith);
      regions = omega arith;
      placed = λ j within. refl;
      teams = λ r within. same-team (region_at W r);
    } in
    after-kept W (with_task W k task) made later (record { tasks = length-set W.tasks k task; pool = refl; regions = refl }) made.threads
    (λ j. at-set (λ (x : Task). x.forked < length W.regions) no_task W.tasks k j task (made.forked j) (λ is. below)) made.ready

-- a region is changed, and not its team
pub after-region : (W : World) (r : ℕ) (region : Region) → IsMadeWorld W → SameTeam (region_at W r) region → MadeAfter W (with_region W r region)
after-region W r region made same =
    let later : Later W (with_region W r region) = record {
      threads = refl;
      stages = λ u there. there;
      tasks = omega arith;
      regions = simp length-set (omega arith);
      placed = λ k within. refl;
      teams = λ q within. at-set (λ x. SameTeam (region_at W q) x) no_region W.regions r q region (same-team (region_at W q)) (λ is. subst (λ p. SameTeam (region_at W p) region) (sym is) same);
    } in
    after-kept W (with_region W r region) made later (record { tasks = refl; pool = refl; regions = length-set W.regions r region }) made.threads made.forked made.ready

-- the cells, the printed text and the locks are changed
pub after-store : (W : World) (store : Store) (locks : LocksView) → IsMadeWorld W → MadeAfter W (record W { store = store; locks = locks })
after-store W store locks made =
    let after : World = record W { store = store; locks = locks } in
    let later : Later W after = record { threads = refl; stages = λ u there. there; tasks = omega arith; regions = omega arith; placed = λ k within. refl; teams = λ r within. same-team (region_at W r) } in
    after-kept W after made later (record { tasks = refl; pool = refl; regions = refl }) made.threads made.forked made.ready

-- the pool is changed, and not how many tasks it has, nor their regions
after-pool : (W : World) (pool : PoolView) → IsMadeWorld W → length pool.tasks ≡ length W.pool.tasks → ((k : ℕ) → (pool_task_at pool.tasks k).region ≡ region_of W k) → All (IsTask W) pool.ready → MadeAfter W (record W { pool = pool })
after-pool W pool made count regions ready =
    let after : World = record W { pool = pool } in
    let later : Later W after = record { threads = refl; stages = λ u there. there; tasks = omega arith; regions = omega arith; placed = λ k within. regions k; teams = λ r within. same-team (region_at W r) } in
    after-kept W after made later (record { tasks = refl; pool = count; regions = refl }) made.threads made.forked ready

-- the places of tasks in the pool's list
at-some : (k : ℕ) → (suc k == 0) ≡ false
at-some k = ne_eqb (suc k) 0 (λ is. omega arith)

one-before : (k : ℕ) → suc k - 1 ≡ k
one-before k = omega arith

pub pool-at : (tasks : List PoolTask) (k : ℕ) → pool_task_at tasks (suc k) ≡ slice_index_or tasks k no_pool_task
pool-at tasks k = rw (at-some k, one-before k) refl

pub pool-set : (tasks : List PoolTask) (k : ℕ) (task : PoolTask) → with_pool_task tasks (suc k) task ≡ slice_set tasks k task
pool-set tasks k task = rw (at-some k, one-before k) refl

-- the condition of a task is changed
condition-count : (tasks : List PoolTask) (k : ℕ) (now : Condition) → length (with_condition tasks k now) ≡ length tasks
condition-count tasks zero now = refl
condition-count tasks (suc k) now = ap length (pool-set tasks k _) ∙ length-set tasks k _

condition-region : (tasks : List PoolTask) (k : ℕ) (now : Condition) (j : ℕ) → (pool_task_at (with_condition tasks k now) j).region ≡ (pool_task_at tasks j).region
condition-region tasks zero now j = refl
condition-region tasks (suc k) now zero = refl
condition-region tasks (suc k) now (suc j) =
    let changed : PoolTask = record (pool_task_at tasks (suc k)) { condition = now } in
    let same : changed.region ≡ (slice_index_or tasks k no_pool_task).region = ap (λ (x : PoolTask). x.region) (pool-at tasks k) in
    ap (λ (x : PoolTask). x.region) (pool-at (with_condition tasks (suc k) now) j)
    ∙ ap (λ xs. (slice_index_or xs j no_pool_task).region) (pool-set tasks k changed)
    ∙ at-set (λ (x : PoolTask). x.region ≡ (slice_index_or tasks j no_pool_task).region) no_pool_task tasks k j changed refl (λ is. same ∙ ap (λ i. (slice_index_or tasks i no_pool_task).region) (sym is))
    ∙ ap (λ (x : PoolTask). x.region) (sym (pool-at tasks j))

after-condition : (W : World) (k : ℕ) (now : Condition) (ready : List ℕ) → IsMadeWorld W → All (IsTask W) ready → MadeAfter W (record W { pool = record W.pool { tasks = with_condition W.pool.tasks k now; ready = ready } })
after-condition W k now ready made all =
    after-pool W (record W.pool { tasks = with_condition W.pool.tasks k now; ready = ready }) made (condition-count W.pool.tasks k now) (condition-region W.pool.tasks k now) all

pub after-readied : (W : World) (k : ℕ) → IsMadeWorld W → IsTask W k → MadeAfter W (with_ready_task W k)
after-readied W k made one =
    after-either W (record W { pool = with_ready W.pool k }) W (is_fresh (pooled_at W k).condition)
    (after-condition W k condition.Ready (W.pool.ready ++ k ∷ []) made (All-push (IsTask W) W.pool.ready k made.ready one)) (after-same W made)

pub after-started : (W : World) (k : ℕ) → IsMadeWorld W → MadeAfter W (with_started_task W k)
after-started W k made =
    after-either W W (record W { pool = with_started W.pool k }) (is_finished (pooled_at W k).condition) (after-same W made)
    (after-condition W k condition.Started (filter (is_other k) W.pool.ready) made (All-filter (is_other k) (IsTask W) W.pool.ready made.ready))

pub after-finished : (W : World) (k : ℕ) → IsMadeWorld W → MadeAfter W (with_finished_task W k)
after-finished W k made =
    after-either W (record W { pool = with_finished W.pool k }) W (is_under_way (pooled_at W k).condition)
    (after-condition W k condition.Finished W.pool.ready made made.ready) (after-same W made)

-- what is so of each element, and of one more, is so where that one is put behind them
pub at-push : {A : Type 0} (P : A → Type 0) (d : A) (xs : List A) (x : A) (k : ℕ) → P (slice_index_or xs k d) → P x → P (slice_index_or (xs ++ x ∷ []) k d)
at-push P d [] x zero old new = new
at-push P d [] x (suc k) old new = old
at-push P d (y ∷ ys) x zero old new = old
at-push P d (y ∷ ys) x (suc k) old new = at-push P d ys x k old new

added-region : (tasks : List PoolTask) (task : PoolTask) (k : ℕ) → k ≤ length tasks → (pool_task_at (tasks ++ task ∷ []) k).region ≡ (pool_task_at tasks k).region
added-region tasks task zero within = refl
added-region tasks task (suc k) within =
    ap (λ (x : PoolTask). x.region) (pool-at (tasks ++ task ∷ []) k ∙ get_or_append_left tasks (task ∷ []) no_pool_task k (omega arith) ∙ sym (pool-at tasks k))

-- the task that was made last
pub added-last : (tasks : List PoolTask) (task : PoolTask) (k : ℕ) → k ≡ length tasks + 1 → pool_task_at (tasks ++ task ∷ []) k ≡ task
added-last tasks task zero is = absurd (omega arith)
added-last tasks task (suc k) is = pool-at (tasks ++ task ∷ []) k ∙ get_or_push tasks task no_pool_task k (omega arith)

pub last-region : (W : World) (parent r : ℕ) (kind : TaskKind) (code : Code) (k : ℕ) → IsMadeWorld W → k ≡ length W.tasks → region_of (task_made W parent r kind code) k ≡ r
last-region W parent r kind code k made is = ap (λ (x : PoolTask). x.region) (added-last W.pool.tasks _ k (omega (arith, is, made.pooled)))

-- a task is made in a region that was made
pub after-task_made : (W : World) (parent r : ℕ) (kind : TaskKind) (code : Code) → IsMadeWorld W → IsRegion W r → MadeAfter W (task_made W parent r kind code)
after-task_made W parent r kind code made one =
    let after = task_made W parent r kind code in
    let grows : length after.tasks ≡ length W.tasks + 1 = length_push W.tasks (task_with code) in
    let later : Later W after = record {
      threads = refl;
      stages = λ u there. there;
      tasks = omega (arith, grows);
      regions = omega arith;
      placed = λ k within. added-region W.pool.tasks _ k within;
      teams = λ q within. same-team (region_at W q);
    } in
    after-grown W after made later (omega (arith, grows, made.pooled, length_push W.pool.tasks (fresh_task parent r kind))) made.threads
    (λ k. at-push (λ (x : Task). x.forked < length W.regions) no_task W.tasks (task_with code) k (made.forked k) (omega (arith, made.implicit.below)))
    (λ k is. elim (cases_lt k (length W.tasks)) [
      | inl before ↦ inl (record { some = is.some; below = before })
      | inr past ↦ inr (subst (IsRegion after) (sym (last-region W parent r kind code k made (omega (arith, is.below, grows)))) one)
    ])
    (λ q is. inl is.below) made.ready

-- a region is made, of a task that was made
pub after-region_made : (W : World) (region : Region) → IsMadeWorld W → MadeRegion (length W.tasks) (length W.threads) region → 1 ≤ region.head.task → MadeAfter W (region_made W region)
after-region_made W region made one some =
    let after = region_made W region in
    let grows : length after.regions ≡ length W.regions + 1 = length_push W.regions region in
    let later : Later W after = record {
      threads = refl;
      stages = λ u there. there;
      tasks = omega arith;
      regions = omega (arith, grows);
      placed = λ k within. refl;
      teams = λ q within. subst (SameTeam (region_at W q)) (sym (get_or_append_left W.regions (region ∷ []) no_region q within)) (same-team (region_at W q));
    } in
    after-grown W after made later made.pooled made.threads (λ k. omega (arith, made.forked k, grows)) (λ k is. inl is)
    (λ q is. elim (cases_lt q (length W.regions)) [
      | inl before ↦ inl before
      | inr past ↦ let last : region_at after q ≡ region = get_or_push W.regions region no_region q (omega (arith, is.below, grows)) in
          inr (record { region = rw last one; encountered = rw last some })
    ]) made.ready

-- threads are to join a region
pub at-summoned : (P : Thread → Type 0) (r size : ℕ) (threads : List Thread) (u : ℕ) → P (slice_index_or threads u unmade) → (u < size → P (with_invitation r (slice_index_or threads u unmade))) → P (slice_index_or (with_invitations r size threads) u unmade)
unfolding with_invitations
at-summoned P r zero threads u old new = old
at-summoned P r (suc size) [] u old new = old
at-summoned P r (suc size) (thread ∷ threads) zero old new = new (omega arith)
at-summoned P r (suc size) (thread ∷ threads) (suc u) old new = at-summoned P r size threads u old (λ within. new (omega arith))

pub length-summoned : (r size : ℕ) (threads : List Thread) → length (with_invitations r size threads) ≡ length threads
unfolding with_invitations
length-summoned r zero threads = refl
length-summoned r (suc size) [] = refl
length-summoned r (suc size) (thread ∷ threads) = ap suc (length-summoned r size threads)

made-stage : (now : ThreadStage) → is_made_thread (stage_once_made now) ≡ true
made-stage stage.Unmade = refl
made-stage stage.Made = refl
made-stage stage.Begun = refl
made-stage stage.Ended = refl

thread-summoned : (W : World) (u r : ℕ) (thread : Thread) → MadeThread W u thread → IsRegionOf W u r → 2 ≤ r → MadeThread W u (with_invitation r thread)
thread-summoned W u r thread one joins two = record { stacked = one.stacked; joins = λ some. joins; forks = λ some. two; starts = one.starts }

after-all_summoned : (W : World) (r : ℕ) → IsMadeWorld W → 2 ≤ r → ((u : ℕ) → u < (region_at W r).head.size → IsRegionOf W u r) → MadeAfter W (record W { threads = with_invitations r (region_at W r).head.size W.threads })
after-all_summoned W r made two joins =
    let size = (region_at W r).head.size in
    let after : World = record W { threads = with_invitations r size W.threads } in
    let later : Later W after = record {
      threads = length-summoned r size W.threads;
      stages = λ u there. at-summoned (λ (x : Thread). is_made_thread x.stage ≡ true) r size W.threads u there (λ within. made-stage (thread_at W u).stage);
      tasks = omega arith;
      regions = omega arith;
      placed = λ k within. refl;
      teams = λ q within. same-team (region_at W q);
    } in
    after-kept W after made later (record { tasks = refl; pool = refl; regions = refl })
    (λ u. at-summoned (MadeThread W u) r size W.threads u (made.threads u) (λ within. thread-summoned W u r (thread_at W u) (made.threads u) (joins u within) two)) made.forked made.ready

pub after-opened : (W : World) (t r : ℕ) → IsMadeWorld W → IsForkedRegion W r → MadeAfter W (with_members_invited W t r)
after-opened W t r made one =
    let region = made.regions r one.made in
    elim (is_outermost W r) as (λ b. is_outermost W r ≡ b → MadeAfter W (if b then record W { threads = with_invitations r (region_at W r).head.size W.threads } else with_thread W t (with_invitation r (thread_at W t)))) [
      | true ↦ λ is. after-all_summoned W r made one.forked (λ u within. record { made = one.made; member = rw (is, region.team) within })
      | false ↦ λ is. after-thread W t (with_invitation r (thread_at W t)) made (thread-summoned W t r (thread_at W t) (made.threads t) (record { made = one.made; member = rw (is, region.team) region.some }) one.forked) (λ there. made-stage (thread_at W t).stage)
    ] refl

-- a thread takes a task up
pub after-taken_up : (W : World) (t k : ℕ) → IsMadeWorld W → IsTaskOf W t k → MadeAfter W (taken_up W t k)
after-taken_up W t k made one =
    let thread = made.threads t in
    let up : MadeAfter W (with_current_task W t k) =
    after-thread W t _ made (record { stacked = All-cons (IsTaskOf W t) k (thread_at W t).stack one thread.stacked; joins = λ some. absurd (omega arith); forks = λ some. absurd (omega arith); starts = λ some. absurd (omega arith) }) (λ there. there) in
    after-then W (with_current_task W t k) (taken_up W t k) made up (after-task (with_current_task W t k) k _ up.world (made.forked k))

pub after-popped : (W : World) (t : ℕ) → IsMadeWorld W → MadeAfter W (without_current_task W t)
after-popped W t made =
    let thread = made.threads t in
    after-thread W t _ made (record { stacked = All-drop (IsTaskOf W t) 1 (thread_at W t).stack thread.stacked; joins = thread.joins; forks = thread.forks; starts = thread.starts }) (λ there. there)

pub after-detained : (W : World) (t k : ℕ) → IsMadeWorld W → IsTaskOf W t k → MadeAfter W (with_undeferred W t k)
after-detained W t k made one =
    let thread = made.threads t in after-thread W t _ made (record { stacked = thread.stacked; joins = thread.joins; forks = thread.forks; starts = λ some. one }) (λ there. there)

-- a thread's own parts are changed, and nothing that it names
pub after-own : (W : World) (t : ℕ) (thread : Thread) → IsMadeWorld W → thread.stack ≡ (thread_at W t).stack → thread.invited ≡ (thread_at W t).invited → thread.undeferred ≡ (thread_at W t).undeferred → (IsThread W t → is_made_thread thread.stage ≡ true) → MadeAfter W (with_thread W t thread)
after-own W t thread made stack invited undeferred stages =
    let before = made.threads t in
    after-thread W t thread made
    (record { stacked = rw stack before.stacked; joins = rw invited before.joins; forks = rw invited before.forks; starts = rw undeferred before.starts }) stages

pub after-code : (W : World) (k : ℕ) (code : Code) → IsMadeWorld W → MadeAfter W (with_code W k code)
after-code W k code made = after-task W k _ made (made.forked k)

pub after-head : (W : World) (r : ℕ) (head : RegionHead) → IsMadeWorld W → head.task ≡ (region_at W r).head.task → head.size ≡ (region_at W r).head.size → MadeAfter W (with_head W r head)
after-head W r head made task size = after-region W r _ made (record { task = task; size = size; members = refl })

pub after-team : (W : World) (r : ℕ) (team : TeamView) → IsMadeWorld W → length team.members ≡ length (region_at W r).team.members → MadeAfter W (with_team W r team)
after-team W r team made members = after-region W r _ made (record { task = refl; size = refl; members = members })
