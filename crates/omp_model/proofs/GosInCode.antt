-- What the Go of an event of the code changes of the world, but for the code of tasks.
use Rattle.std.proofs.Common.{◌≡◌, ℕ, ◌<◌, ◌≤◌, ◌==◌, nat_abs, Bool, true, false, if◌then◌else◌, List, slice_set, slice_index_or, length, Result, Ok, Err, refl, sym, ap, ◌∙◌, subst}
use Rattle.std.specs.Prelude.{Some, None}
use Rattle.std.proofs.lemmas.Bool.{true≢false}
use Rattle.std.proofs.lemmas.List.{length-set, length_push}
use Rattle.c_model.specs.declared.point.Point.{Point}
use Rattle.c_model.specs.declared.point.Point.TheVariants as point
use Rattle.c_model.specs.declared.point.SyncKind.{SyncKind}
use Rattle.c_model.specs.declared.point.SyncKind.TheVariants as sync
use Rattle.c_model.specs.declared.point.SyncStage.{SyncStage}
use Rattle.c_model.specs.declared.point.SyncStage.TheVariants as stage
use Rattle.c_model.specs.declared.point.Work.{Work}
use Rattle.c_model.specs.declared.point.Work.TheVariants as work
use Rattle.c_model.specs.declared.point.WorkKind.{WorkKind}
use Rattle.c_model.specs.declared.point.WorkKind.TheVariants as work_kind
use Rattle.c_model.specs.Begin.{explicit_task}
use Rattle.c_model.specs.AfterEvents.{after_event}
use Rattle.c_model.specs.Task.{Task as Code}
use Rattle.sync_objects.specs.View.{LocksView}
use Rattle.task_pool.specs.declared.task.Task.{Task as PoolTask}
use Rattle.task_pool.specs.View.{fresh_task}
use Rattle.team_parts.specs.declared.meeting.Meeting.{Meeting}
use Rattle.team_parts.specs.declared.meeting.Mismatch.{Mismatch}
use Rattle.team_parts.specs.Team.{after_meeting, with_passed}
use Rattle.omp_model.specs.declared.limits.TheConstants.{NESTING}
use Rattle.omp_model.specs.declared.event.Endpoint.TheVariants.{Begin}
use Rattle.omp_model.specs.declared.event.Event.{Event}
use Rattle.omp_model.specs.declared.event.Event.TheVariants as event
use Rattle.omp_model.specs.declared.event.Halt.TheVariants.{Trap}
use Rattle.omp_model.specs.State.{Region, Run, Task, Thread, World, fresh_region, no_region, no_task, pooled_at, region_at, task_at, task_with, thread_at}
use Rattle.omp_model.specs.Members.{current, current_index, current_region, view_of}
use Rattle.omp_model.specs.Changes.{with_member_meeting, with_code}
use Rattle.omp_model.specs.EventEffects.{after_creation, after_fork, after_meeting_at, after_sync, barrier_met, effect_of_point, event_of_point, executes_point, executes_work, fault_of_meeting, fault_of_point, kind_of_task, meeting_at, past_point, single_kind, team_size, told, work_met}
use Rattle.omp_model.specs.MadeWorld.{IsMadeWorld}
use Rattle.omp_model.proofs.Touching.{TouchesWorld, Meets, TeamAfter, forked_after, head_after, locks_after, owner_after, pooled_after, regions_after, tasks_after, thread_after}
use Rattle.omp_model.proofs.Conditions.{pooled-added}
use Rattle.omp_model.proofs.Guards.{member-made}
use Rattle.omp_model.proofs.MadeWords.{added-last}
use Rattle.omp_model.proofs.Reading.{at-place, read-changed, read-more, read-push, read-same, read-set}
use Rattle.omp_model.proofs.Rewrites.{either-head, either-team, region-below}

-- an event that makes no task and no region, and leaves threads and the pool
record IsPlain (W : World) (t : ℕ) (e : Event) : Type 0 where
  thread : (thread : Thread) → thread_after e thread ≡ thread
  tasks : (count : ℕ) → tasks_after e count ≡ count
  owner : (k owner : ℕ) → owner_after t e k owner ≡ owner
  forked : (k forked : ℕ) → forked_after W t e k forked ≡ forked
  pooled : (k : ℕ) → pooled_after W t e k ≡ pooled_at W k
  regions : (count : ℕ) → regions_after e count ≡ count

abbrev pub is_plain : Point → Bool
is_plain (point.ParallelBegin codeptr requested) = false
is_plain (point.TaskCreate codeptr undeferred) = false
is_plain other = true

plain-work : (W : World) (t : ℕ) (which : WorkKind) (count codeptr : ℕ) → IsPlain W t (event.Work Begin which count codeptr)
plain-work W t which count codeptr =
    record {
      thread = λ thread. refl;
      tasks = λ n. refl;
      owner = λ k owner. refl;
      forked = λ k f. refl;
      pooled = λ k. refl;
      regions = λ n. refl;
    }

plain-point : (W : World) (t : ℕ) (what : Point) → is_plain what ≡ true → IsPlain W t (event_of_point W t what)
plain-point W t (point.ParallelBegin codeptr requested) is = absurd (true≢false (sym is))
plain-point W t (point.TaskCreate codeptr undeferred) is = absurd (true≢false (sym is))
plain-point W t (point.WorkBegin codeptr (work.Loop start count step how)) is = plain-work W t work_kind.Loop count codeptr
plain-point W t (point.WorkBegin codeptr (work.Sections count)) is = plain-work W t work_kind.Sections count codeptr
plain-point W t (point.WorkBegin codeptr work.Single) is = plain-work W t (single_kind (executes_work W t codeptr work.Single)) 1 codeptr
plain-point W t other is =
    record {
      thread = λ thread. refl;
      tasks = λ n. refl;
      owner = λ k owner. refl;
      forked = λ k f. refl;
      pooled = λ k. refl;
      regions = λ n. refl;
    }

-- what is changed then are regions and locks alone, beside the code
abbrev changed : World → List Region → LocksView → World
changed W regions locks = record W { regions = regions; locks = locks }

touches-plain : (W : World) (t : ℕ) (e : Event) (regions : List Region) (locks : LocksView) (code : Code) →
    let after = with_code (changed W regions locks) (current W t) code in
    IsPlain W t e → length regions ≡ length W.regions → ((q : ℕ) → (region_at after q).head ≡ head_after W t e q) →
    ((q : ℕ) → TeamAfter W after t e q) → locks.locks ≡ locks_after W t e W.locks.locks → TouchesWorld W after t e
touches-plain W t e regions locks code plain count head team owned =
    let task : Task = record (task_at W (current W t)) { code = code } in
    record {
      own = sym (plain.thread (thread_at W t));
      others = λ u other. refl;
      threads = refl;
      tasks = length-set W.tasks (current W t) task ∙ sym (plain.tasks (length W.tasks));
      owner = λ k. read-same (λ (x : Task). x.thread) no_task W.tasks (current W t) k task refl ∙ sym (plain.owner k (task_at W k).thread);
      forked = λ k. read-same (λ (x : Task). x.forked) no_task W.tasks (current W t) k task refl ∙ sym (plain.forked k (task_at W k).forked);
      pooled = λ k. sym (plain.pooled k);
      regions = count ∙ sym (plain.regions (length W.regions));
      head = head;
      team = team;
      locks = owned;
    }

-- what is met is the first of the team, or the same that the others met
met-first : (explicit exclusive : Bool) (answer : Result Bool Mismatch) → (if explicit then Some (Trap NESTING) else fault_of_meeting exclusive answer) ≡ None →
    (first : Bool) × (answer ≡ Ok first)
met-first true exclusive answer fine = cc
met-first false exclusive (Ok first) fine = (first, refl)
met-first false exclusive (Err mismatch) fine = cc

module _ (run : Run) (W : World) (t : ℕ) (made : IsMadeWorld W) (some : 1 ≤ current W t) (below : current W t < length W.tasks) where
  abbrev code-behind : Point → Code
  code-behind what = after_event (view_of W t) what (executes_point W t what) (told W t).task

  -- the region of the thread's task, its team changed
  abbrev teamed : (Region → Region) → List Region
  teamed change = slice_set W.regions (current_region W t) (change (region_at W (current_region W t)))

  abbrev touched : Point → World → Type 0
  touched what between = TouchesWorld W (past_point W between t (told W t) what) t (event_of_point W t what)

  -- nothing but the code, or locks too
  only-locks : (what : Point) (locks : LocksView) → is_plain what ≡ true →
      ((q : ℕ) → (region_at W q).head ≡ head_after W t (event_of_point W t what) q) →
      ((q : ℕ) → TeamAfter W (with_code (changed W W.regions locks) (current W t) (code-behind what)) t (event_of_point W t what) q) →
      locks.locks ≡ locks_after W t (event_of_point W t what) W.locks.locks → touched what (changed W W.regions locks)
  only-locks what locks is head team owned =
      touches-plain W t (event_of_point W t what) W.regions locks (code-behind what) (plain-point W t what is) refl head team owned

  -- a member meets this
  abbrev meeting : Meeting → Region → Region
  meeting what region = record region { team = after_meeting region.team (current_index W t) what }

  abbrev passing : Region → Region
  passing region = record region { team = with_passed region.team (current_index W t) }

  head-teamed : (change : Region → Region) → ((region : Region) → (change region).head ≡ region.head) → (q : ℕ) →
      (slice_index_or (teamed change) q no_region).head ≡ (region_at W q).head
  head-teamed change same q = read-same (λ (region : Region). region.head) no_region W.regions (current_region W t) q
      (change (region_at W (current_region W t))) (same (region_at W (current_region W t)))

  team-teamed : (change : Region → Region) (q : ℕ) → (slice_index_or (teamed change) q no_region).team ≡
      (if q == current_region W t then (change (region_at W q)).team else (region_at W q).team)
  team-teamed change q =
      ap (λ (region : Region). region.team) (read-changed change no_region W.regions (current_region W t) q (region-below W t made)) ∙ either-team
      (q == current_region W t) (change (region_at W q)) (region_at W q)

  meets-it : (what : Meeting) (explicit exclusive : Bool) (code : Code) (q : ℕ) →
      (if explicit then Some (Trap NESTING) else fault_of_meeting exclusive (meeting_at W t what)) ≡ None →
      Meets W (with_code (changed W (teamed (meeting what)) W.locks) (current W t) code) t q what
  meets-it what explicit exclusive code q fine =
      let first = met-first explicit exclusive (meeting_at W t what) fine in
      record { first = first.0; answer = first.1; team = team-teamed (meeting what) q }

  -- .. which it does, since it is one
  meets-is : (what : Meeting) → after_meeting_at W t what ≡ changed W (teamed (meeting what)) W.locks
  meets-is what = ap (λ b. if b then with_member_meeting W (current_region W t) (current_index W t) what else W) (member-made W t made some)

  in-region : (what : Point) (change : Region → Region) → is_plain what ≡ true → ((region : Region) → (change region).head ≡ region.head) →
      ((q : ℕ) → (region_at W q).head ≡ head_after W t (event_of_point W t what) q) →
      ((q : ℕ) → TeamAfter W (with_code (changed W (teamed change) W.locks) (current W t) (code-behind what)) t (event_of_point W t what) q) →
      W.locks.locks ≡ locks_after W t (event_of_point W t what) W.locks.locks → touched what (changed W (teamed change) W.locks)
  in-region what change is same head team owned =
      touches-plain W t (event_of_point W t what) (teamed change) W.locks (code-behind what) (plain-point W t what is)
      (length-set W.regions (current_region W t) (change (region_at W (current_region W t)))) (λ q. head-teamed change same q ∙ head q) team owned

  point-work : (codeptr : ℕ) (what : Work) → fault_of_point W t (told W t).task (point.WorkBegin codeptr what) ≡ None →
      touched (point.WorkBegin codeptr what) (changed W (teamed (meeting (work_met codeptr what))) W.locks)
  unfolding fault_of_point
  point-work codeptr (work.Loop start count step how) fine =
      let what = work_met codeptr (work.Loop start count step how) in
      in-region (point.WorkBegin codeptr (work.Loop start count step how)) (meeting what) refl (λ region. refl) (λ q. refl)
      (λ q. record { what = what; work = refl; meets = meets-it what _ _ _ q fine }) refl
  point-work codeptr (work.Sections count) fine =
      let what = work_met codeptr (work.Sections count) in
      in-region (point.WorkBegin codeptr (work.Sections count)) (meeting what) refl (λ region. refl) (λ q. refl)
      (λ q. record { what = what; work = refl; meets = meets-it what _ _ _ q fine }) refl
  point-work codeptr work.Single fine =
      let what = work_met codeptr work.Single in
      in-region (point.WorkBegin codeptr work.Single) (meeting what) refl (λ region. refl) (λ q. refl)
      (λ q. record { what = what; work = refl; meets = meets-it what _ _ _ q fine }) refl

  -- the region that the task has forked is over
  abbrev ending : Region → Region
  ending region = record region { head = record region.head { ended = true } }

  point-over : (codeptr : ℕ) →
      touched (point.ParallelEnd codeptr) (changed W
      (slice_set W.regions (task_at W (current W t)).forked (ending (region_at W (task_at W (current W t)).forked))) W.locks)
  point-over codeptr =
      let r = (task_at W (current W t)).forked in
      let regions = slice_set W.regions r (ending (region_at W r)) in
      touches-plain W t (event.ParallelEnd r codeptr) regions W.locks (code-behind (point.ParallelEnd codeptr)) (plain-point W t (point.ParallelEnd codeptr) refl)
      (length-set W.regions r (ending (region_at W r)))
      (λ q. ap (λ (region : Region). region.head) (read-changed ending no_region W.regions r q (made.forked (current W t))) ∙ either-head (q == r)
      (ending (region_at W q)) (region_at W q))
      (λ q. read-same (λ (region : Region). region.team) no_region W.regions r q (ending (region_at W r)) refl) refl

  -- a barrier or taskwait
  point-sync : (codeptr : ℕ) (which : SyncKind) (at : SyncStage) →
      fault_of_point W t (told W t).task (point.Sync codeptr which at) ≡ None →
      touched (point.Sync codeptr which at) (after_sync W t codeptr which at)
  unfolding fault_of_point
  point-sync codeptr sync.Taskwait stage.RegionBegin fine =
      only-locks (point.Sync codeptr sync.Taskwait stage.RegionBegin) W.locks refl (λ q. refl) (λ q. refl) refl
  point-sync codeptr which stage.RegionBegin fine =
      let what = barrier_met codeptr which in
      subst (touched (point.Sync codeptr which stage.RegionBegin)) (sym (meets-is what))
      (in-region (point.Sync codeptr which stage.RegionBegin) (meeting what) refl (λ region. refl) (λ q. refl) (λ q. meets-it what _ _ _ q fine) refl)
  point-sync codeptr sync.Taskwait stage.WaitEnd fine =
      only-locks (point.Sync codeptr sync.Taskwait stage.WaitEnd) W.locks refl (λ q. refl) (λ q. refl) refl
  point-sync codeptr which stage.WaitEnd fine =
      in-region (point.Sync codeptr which stage.WaitEnd) passing refl (λ region. refl) (λ q. refl) (λ q. team-teamed passing q) refl
  point-sync codeptr which at fine = only-locks (point.Sync codeptr which at) W.locks refl (λ q. refl) (λ q. refl) refl

  -- a region is forked
  abbrev forked-task : ℕ → Task
  forked-task r = record (task_at W (current W t)) { forked = r }

  point-fork : (codeptr requested : ℕ) (code : Code) →
      TouchesWorld W (with_code (after_fork W t requested) (current W t) code) t (event.ParallelBegin (length W.regions) requested codeptr)
  point-fork codeptr requested code =
      let k = current W t in
      let r = length W.regions in
      let region = fresh_region k (team_size W t requested) in
      let between = after_fork W t requested in
      let last : Task = record (task_at between k) { code = code } in
      record {
        own = refl;
        others = λ u other. refl;
        threads = refl;
        tasks = length-set between.tasks k last ∙ length-set W.tasks k (forked-task r);
        owner = λ j. read-same (λ (x : Task). x.thread) no_task between.tasks k j last refl ∙ read-same (λ (x : Task). x.thread) no_task W.tasks k j
            (forked-task r) refl;
        forked = λ j. read-same (λ (x : Task). x.forked) no_task between.tasks k j last refl ∙ read-set (λ (x : Task). x.forked) no_task W.tasks k j
            (forked-task r) below;
        pooled = λ j. refl;
        regions = length_push W.regions region;
        head = λ q. read-push (λ (x : Region). x.head) no_region W.regions q region;
        team = λ q. read-push (λ (x : Region). x.team) no_region W.regions q region;
        locks = refl;
      }

  -- a task is created
  module _ (codeptr : ℕ) (undeferred : Bool) where
    abbrev created : World
    created = after_creation run W t (told W t) undeferred

    abbrev new-code : Code
    new-code = (explicit_task run.program (view_of W t) (told W t)).task

    abbrev new-pooled : PoolTask
    new-pooled = fresh_task (current W t) (current_region W t) (kind_of_task undeferred)

    point-create : touched (point.TaskCreate codeptr undeferred) created
    point-create =
        let k = current W t in
        let last : Task = record (task_at created k) { code = code-behind (point.TaskCreate codeptr undeferred) } in
        record {
          own = refl;
          others = λ u other. refl;
          threads = refl;
          tasks = length-set created.tasks k last ∙ length_push W.tasks (task_with new-code);
          owner = λ j. read-same (λ (x : Task). x.thread) no_task created.tasks k j last refl ∙ read-more (λ (x : Task). x.thread) no_task W.tasks j
              (task_with new-code) refl;
          forked = λ j. read-same (λ (x : Task). x.forked) no_task created.tasks k j last refl ∙ read-more (λ (x : Task). x.forked) no_task W.tasks j
              (task_with new-code) refl;
          pooled = λ j. at-place (length W.tasks) j (pooled_at created j) new-pooled (pooled_at W j)
              (λ is. added-last W.pool.tasks new-pooled j (is ∙ made.pooled))
              (λ other. pooled-added W.pool.tasks new-pooled j (λ is. other (is ∙ sym made.pooled)));
          regions = refl;
          head = λ q. refl;
          team = λ q. refl;
          locks = refl;
        }

  -- an event of the code
  pub touches-point : (what : Point) → fault_of_point W t (told W t).task what ≡ None →
      TouchesWorld W (past_point W (effect_of_point run W t (told W t) what) t (told W t) what) t (event_of_point W t what)
  unfolding effect_of_point
  touches-point (point.ParallelBegin codeptr requested) fine =
      point-fork codeptr (nat_abs requested) (code-behind (point.ParallelBegin codeptr requested))
  touches-point (point.ParallelEnd codeptr) fine = point-over codeptr
  touches-point (point.TaskCreate codeptr undeferred) fine = point-create codeptr undeferred
  touches-point (point.WorkBegin codeptr what) fine =
      subst (touched (point.WorkBegin codeptr what)) (sym (meets-is (work_met codeptr what))) (point-work codeptr what fine)
  touches-point (point.Sync codeptr which at) fine = point-sync codeptr which at fine
  touches-point (point.MutexAcquired codeptr id which) fine = only-locks (point.MutexAcquired codeptr id which) _ refl (λ q. refl) (λ q. refl) refl
  touches-point (point.MutexReleased codeptr id which) fine = only-locks (point.MutexReleased codeptr id which) _ refl (λ q. refl) (λ q. refl) refl
  touches-point (point.LockInit codeptr id) fine = only-locks (point.LockInit codeptr id) _ refl (λ q. refl) (λ q. refl) refl
  touches-point (point.LockDestroy codeptr id) fine = only-locks (point.LockDestroy codeptr id) _ refl (λ q. refl) (λ q. refl) refl
  touches-point what fine = only-locks what W.locks refl (λ q. refl) (λ q. refl) refl
