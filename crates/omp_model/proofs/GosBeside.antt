-- What the Go of an event beside all code changes of the world, but for the code of tasks.
use Rattle.std.proofs.Common.{◌≡◌, ℕ, ◌<◌, ◌≤◌, ◌==◌, if◌then◌else◌, List, slice_set, slice_index_or, length, refl, sym, ap, ◌∙◌, subst, arith}
use Rattle.std.specs.Prelude.{None}
use Rattle.std.proofs.lemmas.List.{get_or-set_other, get_or-set_same, length-set, length_push}
use Rattle.c_model.specs.Begin.{blank_task}
use Rattle.c_model.specs.Task.{Task as Code}
use Rattle.task_pool.specs.declared.task.Condition.TheVariants as condition
use Rattle.task_pool.specs.declared.task.Task.{Task as PoolTask}
use Rattle.task_pool.specs.declared.task.TaskKind.TheVariants as kind
use Rattle.task_pool.specs.Tasks.{is_finished}
use Rattle.task_pool.specs.View.{fresh_task, with_started}
use Rattle.omp_model.specs.declared.limits.TheConstants.{IMPLICIT_REGION, INITIAL_TASK}
use Rattle.omp_model.specs.declared.event.Event.{Event}
use Rattle.omp_model.specs.declared.event.Event.TheVariants as event
use Rattle.omp_model.specs.declared.event.Share.{Share}
use Rattle.omp_model.specs.declared.parts.ThreadStage.TheVariants as thread_stage
use Rattle.omp_model.specs.State.{Region, Task, Thread, World, no_region, no_task, pooled_at, region_at, task_at, task_with, thread_at, unmade}
use Rattle.omp_model.specs.Members.{current, member_index}
use Rattle.omp_model.specs.Changes.{without_code, member_begun, without_current_task, with_started_task, taken_up, task_made}
use Rattle.omp_model.specs.EventEffects.{effect_of, member_code}
use Rattle.omp_model.specs.MadeWorld.{IsMadeWorld, IsTask, IsThread}
use Rattle.omp_model.specs.Conditions.{AreOrderly, IsUnderWay, member_made}
use Rattle.omp_model.proofs.Touching.{TouchesWorld, come_to, ended_on, joined_by, started_on}
use Rattle.omp_model.proofs.Arriving.{AtEnd, AtInitialEnd, AtMember, AtSwitch, Reached}
use Rattle.omp_model.proofs.Conditions.{pooled-added, pooled-other, pooled-same}
use Rattle.omp_model.proofs.MadeEvents.{coming, current-made, first-of}
use Rattle.omp_model.proofs.Moves.{finished-is, fresh-is, started-is}
use Rattle.omp_model.proofs.OrderlyEvents.{begins-unstarted, unfinished-yet}
use Rattle.omp_model.proofs.Reading.{at-place, read-changed, read-more, read-same, read-set}
use Rattle.omp_model.proofs.Rewrites.{either-head, read-pool, thread-below}

-- what all of these change of a thread
module _ (W : World) (t : ℕ) (there : IsThread W t) (thread : Thread) where
  own-thread : slice_index_or (slice_set W.threads t thread) t unmade ≡ thread
  own-thread = get_or-set_same W.threads t thread unmade (thread-below W t there)

  other-thread : (u : ℕ) → (u ≡ t → ⊥) → slice_index_or (slice_set W.threads t thread) u unmade ≡ thread_at W u
  other-thread u other = get_or-set_other W.threads t u thread unmade other

begun-beside : (W : World) (t : ℕ) → IsThread W t → TouchesWorld W (effect_of W t event.ThreadBegin) t event.ThreadBegin
unfolding effect_of
begun-beside W t there =
    let thread : Thread = record (thread_at W t) { stage = thread_stage.Begun } in
    record {
      own = own-thread W t there thread;
      others = other-thread W t there thread;
      threads = length-set W.threads t thread;
      tasks = refl;
      owner = λ k. refl;
      forked = λ k. refl;
      pooled = λ k. refl;
      regions = refl;
      head = λ q. refl;
      team = λ q. refl;
      locks = refl;
    }

dispatched-beside : (W : World) (t : ℕ) (share : Share) → IsThread W t → TouchesWorld W (effect_of W t (event.Dispatch share)) t (event.Dispatch share)
unfolding effect_of
dispatched-beside W t share there =
    let thread : Thread = record (thread_at W t) { taken = None } in
    record {
      own = own-thread W t there thread;
      others = other-thread W t there thread;
      threads = length-set W.threads t thread;
      tasks = refl;
      owner = λ k. refl;
      forked = λ k. refl;
      pooled = λ k. refl;
      regions = refl;
      head = λ q. refl;
      team = λ q. refl;
      locks = refl;
    }

ended-beside : (W : World) (t : ℕ) → TouchesWorld W (effect_of W t event.ThreadEnd) t event.ThreadEnd
unfolding effect_of
ended-beside W t =
    record {
      own = refl;
      others = λ u other. refl;
      threads = refl;
      tasks = refl;
      owner = λ k. refl;
      forked = λ k. refl;
      pooled = λ k. refl;
      regions = refl;
      head = λ q. refl;
      team = λ q. refl;
      locks = refl;
    }

-- A task begins.

module _ (W : World) (t k : ℕ) (there : IsThread W t) (made : IsMadeWorld W) (one : IsTask W k) where
  abbrev taken-task : Task
  taken-task = record (task_at W k) { thread = t }

  -- .. with these regions
  abbrev beginning : List Region → World
  beginning regions = record (taken_up W t k) { pool = with_started W.pool k; regions = regions }

  beginning-thread : thread_at (taken_up W t k) t ≡ started_on (thread_at W t) k
  beginning-thread = own-thread W t there (started_on (thread_at W t) k)

  beginning-owner : (j : ℕ) → (task_at (taken_up W t k) j).thread ≡ (if j == k then t else (task_at W j).thread)
  beginning-owner j = read-set (λ (x : Task). x.thread) no_task W.tasks k j taken-task one.below

  task-beside : (prior : ℕ) → TouchesWorld W (beginning W.regions) t (event.TaskBegin prior k)
  task-beside prior =
      record {
        own = beginning-thread;
        others = other-thread W t there (started_on (thread_at W t) k);
        threads = length-set W.threads t (started_on (thread_at W t) k);
        tasks = length-set W.tasks k taken-task;
        owner = beginning-owner;
        forked = λ j. read-same (λ (x : Task). x.forked) no_task W.tasks k j taken-task refl;
        pooled = λ j. read-pool W k condition.Started j made one;
        regions = refl;
        head = λ q. refl;
        team = λ q. refl;
        locks = refl;
      }

initial-beside : (W : World) (t : ℕ) → IsThread W t → IsMadeWorld W → (pooled_at W INITIAL_TASK).condition ≡ condition.Made →
    TouchesWorld W (effect_of W t event.InitialTaskBegin) t event.InitialTaskBegin
unfolding effect_of
initial-beside W t there made fresh =
    let e = event.InitialTaskBegin in
    let k = INITIAL_TASK in
    let join : Region → Region = λ (region : Region). record region { head = joined_by region.head 0 INITIAL_TASK } in
    subst (λ X. TouchesWorld W (member_begun X IMPLICIT_REGION 0 INITIAL_TASK) t e) (sym (started-is (taken_up W t k) k (ap is_finished fresh)))
    (record {
      own = beginning-thread W t k there made made.initial;
      others = other-thread W t there (started_on (thread_at W t) k);
      threads = length-set W.threads t (started_on (thread_at W t) k);
      tasks = length-set W.tasks k (taken-task W t k there made made.initial);
      owner = beginning-owner W t k there made made.initial;
      forked = λ j. read-same (λ (x : Task). x.forked) no_task W.tasks k j (taken-task W t k there made made.initial) refl;
      pooled = λ j. read-pool W k condition.Started j made made.initial;
      regions = length-set W.regions IMPLICIT_REGION (join (region_at W IMPLICIT_REGION));
      head = λ q. ap (λ (region : Region). region.head) (read-changed join no_region W.regions IMPLICIT_REGION q made.implicit.below) ∙ either-head
          (q == IMPLICIT_REGION) (join (region_at W q)) (region_at W q);
      team = λ q. read-same (λ (region : Region). region.team) no_region W.regions IMPLICIT_REGION q (join (region_at W IMPLICIT_REGION)) refl;
      locks = refl;
    })

-- A task ends.

-- the current task is under way
pub current-started : (W : World) (t k : ℕ) → AreOrderly W → k ≡ current W t → 1 ≤ current W t → (pooled_at W k).condition ≡ condition.Started
current-started W t k all is some = rw is (first-of (IsUnderWay W t) (thread_at W t).stack (all.stacked t) some).started

initial-end-beside : (W : World) (t : ℕ) → IsThread W t → IsMadeWorld W → AreOrderly W → INITIAL_TASK ≡ current W t →
    TouchesWorld W (effect_of W t event.InitialTaskEnd) t event.InitialTaskEnd
unfolding effect_of
initial-end-beside W t there made all is =
    let e = event.InitialTaskEnd in
    let k = INITIAL_TASK in
    let thread = ended_on (thread_at W t) in
    subst (λ X. TouchesWorld W X t e) (sym (finished-is (without_current_task W t) k (current-started W t k all is (rw (← is) (omega arith)))))
    (record {
      own = own-thread W t there thread;
      others = other-thread W t there thread;
      threads = length-set W.threads t thread;
      tasks = refl;
      owner = λ j. refl;
      forked = λ j. refl;
      pooled = λ j. read-pool W k condition.Finished j made made.initial;
      regions = refl;
      head = λ q. refl;
      team = λ q. refl;
      locks = refl;
    })

pub current-task : (W : World) (t k : ℕ) → IsMadeWorld W → k ≡ current W t → 1 ≤ current W t → IsTask W k
current-task W t k made is some = subst (IsTask W) (sym is) (current-made W t made some).made

member-end-beside : (W : World) (t r k : ℕ) → IsThread W t → IsMadeWorld W → AreOrderly W → AtEnd W t k →
    TouchesWorld W (effect_of W t (event.MemberEnd r k)) t (event.MemberEnd r k)
unfolding effect_of
member-end-beside W t r k there made all at =
    let e = event.MemberEnd r k in
    let thread = ended_on (thread_at W t) in
    let some : 1 ≤ current W t = rw (← at.task) at.some in
    let one = current-task W t k made at.task some in
    let blank : Task = record (task_at W k) { code = blank_task } in
    subst (λ X. TouchesWorld W (without_code X k) t e) (sym (finished-is (without_current_task W t) k (current-started W t k all at.task some)))
    (record {
      own = own-thread W t there thread;
      others = other-thread W t there thread;
      threads = length-set W.threads t thread;
      tasks = length-set W.tasks k blank;
      owner = λ j. read-same (λ (x : Task). x.thread) no_task W.tasks k j blank refl;
      forked = λ j. read-same (λ (x : Task). x.forked) no_task W.tasks k j blank refl;
      pooled = λ j. read-pool W k condition.Finished j made one;
      regions = refl;
      head = λ q. refl;
      team = λ q. refl;
      locks = refl;
    })

task-end-beside : (W : World) (t k : ℕ) → IsThread W t → TouchesWorld W (effect_of W t (event.TaskEnd k)) t (event.TaskEnd k)
unfolding effect_of
task-end-beside W t k there =
    let thread = ended_on (thread_at W t) in
    let blank : Task = record (task_at W k) { code = blank_task } in
    record {
      own = own-thread W t there thread;
      others = other-thread W t there thread;
      threads = length-set W.threads t thread;
      tasks = length-set W.tasks k blank;
      owner = λ j. read-same (λ (x : Task). x.thread) no_task W.tasks k j blank refl;
      forked = λ j. read-same (λ (x : Task). x.forked) no_task W.tasks k j blank refl;
      pooled = λ j. refl;
      regions = refl;
      head = λ q. refl;
      team = λ q. refl;
      locks = refl;
    }

-- A member's task is made, and begins.

pub implicit-differs : kind.Implicit ≡ kind.Initial → ⊥
implicit-differs is = cc

module _ (W : World) (t r : ℕ) (there : IsThread W t) (made : IsMadeWorld W) (all : AreOrderly W) (below : r < length W.regions) where
  abbrev parent : ℕ
  parent = (region_at W r).head.task

  abbrev new-code : Code
  new-code = member_code (task_at W parent).code

  abbrev new-task : Task
  new-task = task_with new-code

  abbrev fresh : World
  fresh = task_made W parent r kind.Implicit new-code

  abbrev k : ℕ
  k = length W.tasks

  abbrev begun-task : Task
  begun-task = record (task_at fresh k) { thread = t }

  abbrev joined : Region → Region
  joined region = record region { head = joined_by region.head (member_index W t r) k }

  abbrev member-after : World
  member-after = member_begun (taken_up (record fresh { pool = with_started fresh.pool k }) t k) r (member_index W t r) k

  fresh-task-is : pooled_at fresh k ≡ fresh_task parent r kind.Implicit
  fresh-task-is = fresh-is W parent r kind.Implicit new-code all made implicit-differs

  within-fresh : k < length fresh.tasks
  within-fresh = omega (arith, length_push W.tasks new-task)

  member-pooled : (j : ℕ) → pooled_at member-after j ≡ (if j == k then come_to (fresh_task parent r kind.Implicit) condition.Started else pooled_at W j)
  member-pooled j =
      at-place k j (pooled_at member-after j) (come_to (fresh_task parent r kind.Implicit) condition.Started) (pooled_at W j)
      (λ is. subst (λ i. pooled_at member-after i ≡ come_to (fresh_task parent r kind.Implicit) condition.Started) (sym is)
      (pooled-same fresh.pool.tasks k condition.Started (omega (arith, made.initial.below))
      (omega (arith, made.pooled, length_push W.pool.tasks (fresh_task parent r kind.Implicit)))
      ∙ ap (λ (x : PoolTask). come_to x condition.Started) fresh-task-is))
      (λ other. pooled-other fresh.pool.tasks k condition.Started j other ∙ pooled-added W.pool.tasks (fresh_task parent r kind.Implicit) j
      (λ is. other (is ∙ sym made.pooled)))

  member-touches : TouchesWorld W member-after t (event.MemberBegin r k)
  member-touches =
      record {
        own = own-thread W t there (started_on (thread_at W t) k);
        others = other-thread W t there (started_on (thread_at W t) k);
        threads = length-set W.threads t (started_on (thread_at W t) k);
        tasks = length-set fresh.tasks k begun-task ∙ length_push W.tasks new-task;
        owner = λ j. read-set (λ (x : Task). x.thread) no_task fresh.tasks k j begun-task within-fresh
            ∙ ap (λ n. if j == k then t else n) (read-more (λ (x : Task). x.thread) no_task W.tasks j new-task refl);
        forked = λ j. read-same (λ (x : Task). x.forked) no_task fresh.tasks k j begun-task refl ∙ read-more
            (λ (x : Task). x.forked) no_task W.tasks j new-task refl;
        pooled = member-pooled;
        regions = length-set W.regions r (joined (region_at W r));
        head = λ q. ap (λ (region : Region). region.head) (read-changed joined no_region W.regions r q below) ∙ either-head (q == r) (joined (region_at W q))
            (region_at W q);
        team = λ q. read-same (λ (region : Region). region.team) no_region W.regions r q (joined (region_at W r)) refl;
        locks = refl;
      }

-- the region that a member joins
pub joins-below : (W : World) (t r k : ℕ) → IsMadeWorld W → AtMember W t r k → r < length W.regions
joins-below W t r k made at = subst (λ q. q < length W.regions) (sym at.region) ((made.threads t).joins (rw (← at.region) at.some)).made.below

-- its task starts, since it was made just now
pub member-starts : (W : World) (r : ℕ) → IsMadeWorld W → AreOrderly W → let fresh = member_made W r in
    with_started_task fresh (length W.tasks) ≡ record fresh { pool = with_started fresh.pool (length W.tasks) }
member-starts W r made all =
    let parent = (region_at W r).head.task in
    let new-code = member_code (task_at W parent).code in
    started-is (member_made W r) (length W.tasks)
    (ap (λ (x : PoolTask). is_finished x.condition) (fresh-is W parent r kind.Implicit new-code all made implicit-differs))

member-beside : (W : World) (t r k : ℕ) → IsThread W t → IsMadeWorld W → AreOrderly W → AtMember W t r k →
    TouchesWorld W (effect_of W t (event.MemberBegin r k)) t (event.MemberBegin r k)
unfolding effect_of
member-beside W t r k there made all at =
    subst (λ j. TouchesWorld W (effect_of W t (event.MemberBegin r j)) t (event.MemberBegin r j)) (sym at.task)
    (subst (λ X. TouchesWorld W (member_begun (taken_up X t (length W.tasks)) r (member_index W t r) (length W.tasks)) t (event.MemberBegin r (length W.tasks)))
    (sym (member-starts W r made all))
    (member-touches W t r there made all (joins-below W t r k made at)))

-- a task that is ready, or undeferred, starts
pub task-starts : (W : World) (t prior k : ℕ) → AreOrderly W → AtSwitch W t prior k →
    with_started_task (taken_up W t k) k ≡ record (taken_up W t k) { pool = with_started W.pool k }
task-starts W t prior k all at = started-is (taken_up W t k) k (unfinished-yet (pooled_at W k).condition (begins-unstarted W t k all at.task))

-- the initial task ends where it is the current one
pub at-initial-end : (W : World) (t : ℕ) → AreOrderly W → AtInitialEnd W t → INITIAL_TASK ≡ current W t
at-initial-end W t all at = sym (all.alone (current W t) at.kind)

-- an event beside all code
pub touches-effect : (W : World) (t : ℕ) (e : Event) → IsThread W t → IsMadeWorld W → AreOrderly W → Reached W t e →
    TouchesWorld W (effect_of W t e) t e
unfolding effect_of
touches-effect W t event.ThreadBegin there made all at = begun-beside W t there
touches-effect W t event.ThreadEnd there made all at = ended-beside W t
touches-effect W t event.InitialTaskBegin there made all at = initial-beside W t there made at.condition
touches-effect W t event.InitialTaskEnd there made all at = initial-end-beside W t there made all (at-initial-end W t all at)
touches-effect W t (event.MemberBegin r k) there made all at = member-beside W t r k there made all at
touches-effect W t (event.MemberEnd r k) there made all at = member-end-beside W t r k there made all at.end
touches-effect W t (event.TaskBegin prior k) there made all at =
    subst (λ X. TouchesWorld W X t (event.TaskBegin prior k)) (sym (task-starts W t prior k all at))
    (task-beside W t k there made (coming W t made (event.TaskBegin prior k) at).task.made prior)
touches-effect W t (event.TaskEnd k) there made all at = task-end-beside W t k there
touches-effect W t (event.Dispatch share) there made all at = dispatched-beside W t share there
touches-effect W t other there made all at = absurd at
