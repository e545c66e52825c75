-- What the Back of an event changes.
use Rattle.std.proofs.Common.{◌≡◌, ℕ, ◌<◌, ◌==◌, Bool, true, false, if◌then◌else◌, slice_set, length, refl, sym, ap, ◌∙◌, subst}
use Rattle.std.proofs.lemmas.List.{length-set}
use Rattle.c_model.specs.declared.point.SyncKind.{SyncKind}
use Rattle.c_model.specs.declared.point.SyncStage.TheVariants as stage
use Rattle.task_pool.specs.declared.task.Condition.TheVariants as condition
use Rattle.team_parts.specs.Team.{with_begun}
use Rattle.omp_model.specs.declared.event.Event.{Event}
use Rattle.omp_model.specs.declared.event.Event.TheVariants.{MemberEnd, ParallelBegin, ParallelEnd, Sync, TaskCreate, TaskEnd, ThreadEnd}
use Rattle.omp_model.specs.declared.parts.ThreadStage.TheVariants as thread_stage
use Rattle.omp_model.specs.State.{Region, Task, Thread, World, no_region, no_task, region_at, task_at, thread_at, unmade, with_thread}
use Rattle.omp_model.specs.Members.{current, current_index, current_region, is_outermost, member_index}
use Rattle.omp_model.specs.Gates.{is_barrier}
use Rattle.omp_model.specs.Changes.{with_invitations, with_wait_begun, with_finished_task, with_forked_region, member_left, with_members_invited, with_invitation}
use Rattle.omp_model.specs.Conditions.{AreOrderly, EventOrderly, HasEnded, WasCreated}
use Rattle.omp_model.specs.MadeWorld.{HasOccurred, IsForkedRegion, IsMadeWorld, IsTask, IsThread}
use Rattle.omp_model.specs.Returning.{after_created, after_wait_begun, at_back}
use Rattle.omp_model.proofs.Touching.{Returns}
use Rattle.omp_model.proofs.MadeEvents.{current-below}
use Rattle.omp_model.proofs.MadeWords.{length-summoned}
use Rattle.omp_model.proofs.Moves.{finished-is, readied-is}
use Rattle.omp_model.proofs.Reading.{read-changed, read-same, read-set}
use Rattle.omp_model.proofs.Rewrites.{either-head, either-team, read-pool, read-summoned, region-below, thread-below}

-- Each kind of change.

staged-back : (W : World) (t : ℕ) → IsThread W t → Returns W (with_thread W t (record (thread_at W t) { stage = thread_stage.Ended })) t ThreadEnd
staged-back W t there =
    record {
      thread = λ u. read-changed (λ (thread : Thread). record thread { stage = thread_stage.Ended }) unmade W.threads t u (thread-below W t there);
      threads = length-set W.threads t _;
      tasks = refl;
      owner = λ k. refl;
      forked = λ k. refl;
      pooled = λ k. refl;
      code = λ k. refl;
      regions = refl;
      head = λ q. refl;
      team = λ q. refl;
      locks = refl;
    }

-- the members of an outermost region are summoned, or the encountering thread alone
all-back : (W : World) (t r requested codeptr : ℕ) → IsMadeWorld W → IsForkedRegion W r → is_outermost W r ≡ true →
    Returns W (record W { threads = with_invitations r (region_at W r).head.size W.threads }) t (ParallelBegin r requested codeptr)
all-back W t r requested codeptr made one is =
    record {
      thread = λ u. rw is (read-summoned r (region_at W r).head.size W.threads u (made.regions r one.made).fits);
      threads = length-summoned r (region_at W r).head.size W.threads;
      tasks = refl;
      owner = λ k. refl;
      forked = λ k. refl;
      pooled = λ k. refl;
      code = λ k. refl;
      regions = refl;
      head = λ q. refl;
      team = λ q. refl;
      locks = refl;
    }

one-back : (W : World) (t r requested codeptr : ℕ) → IsThread W t → is_outermost W r ≡ false →
    Returns W (with_thread W t (with_invitation r (thread_at W t))) t (ParallelBegin r requested codeptr)
one-back W t r requested codeptr there is =
    record {
      thread = λ u. rw is (read-changed (with_invitation r) unmade W.threads t u (thread-below W t there));
      threads = length-set W.threads t _;
      tasks = refl;
      owner = λ k. refl;
      forked = λ k. refl;
      pooled = λ k. refl;
      code = λ k. refl;
      regions = refl;
      head = λ q. refl;
      team = λ q. refl;
      locks = refl;
    }

opened-back : (W : World) (t r requested codeptr : ℕ) → IsMadeWorld W → IsThread W t → IsForkedRegion W r →
    Returns W (with_members_invited W t r) t (ParallelBegin r requested codeptr)
opened-back W t r requested codeptr made there one =
    let many : World = record W { threads = with_invitations r (region_at W r).head.size W.threads } in
    let alone : World = with_thread W t (with_invitation r (thread_at W t)) in
    by-kind (is_outermost W r) many alone refl (all-back W t r requested codeptr made one) (one-back W t r requested codeptr there)
  where
    by-kind : (b : Bool) (many alone : World) → is_outermost W r ≡ b → (is_outermost W r ≡ true → Returns W many t (ParallelBegin r requested codeptr)) →
        (is_outermost W r ≡ false → Returns W alone t (ParallelBegin r requested codeptr)) →
        Returns W (if b then many else alone) t (ParallelBegin r requested codeptr)
    by-kind true many alone is first second = first is
    by-kind false many alone is first second = second is

-- the region that the current task has forked is over
forked-back : (W : World) (t r codeptr : ℕ) → IsMadeWorld W → Returns W (with_forked_region W (current W t) 0) t (ParallelEnd r codeptr)
forked-back W t r codeptr made =
    let k = current W t in
    let over : Task = record (task_at W k) { forked = 0 } in
    record {
      thread = λ u. refl;
      threads = refl;
      tasks = length-set W.tasks k over;
      owner = λ j. read-same (λ (task : Task). task.thread) no_task W.tasks k j over refl;
      forked = λ j. read-set (λ (task : Task). task.forked) no_task W.tasks k j over (current-below W t made);
      pooled = λ j. refl;
      code = λ j. read-same (λ (task : Task). task.code) no_task W.tasks k j over refl;
      regions = refl;
      head = λ q. refl;
      team = λ q. refl;
      locks = refl;
    }

-- a member has left
left-back : (W : World) (t r k : ℕ) → r < length W.regions → Returns W (member_left W r (member_index W t r)) t (MemberEnd r k)
left-back W t r k below =
    let left : Region → Region = λ (region : Region). record region
    { head = record region.head { left = slice_set region.head.left (member_index W t r) true } } in
    record {
      thread = λ u. refl;
      threads = refl;
      tasks = refl;
      owner = λ j. refl;
      forked = λ j. refl;
      pooled = λ j. refl;
      code = λ j. refl;
      regions = length-set W.regions r (left (region_at W r));
      head = λ q. ap (λ (region : Region). region.head) (read-changed left no_region W.regions r q below) ∙ either-head (q == r) (left (region_at W q))
          (region_at W q);
      team = λ q. read-same (λ (region : Region). region.team) no_region W.regions r q (left (region_at W r)) refl;
      locks = refl;
    }

-- a task has been created
created-back : (W : World) (t task codeptr : ℕ) (undeferred : Bool) → IsMadeWorld W → IsThread W t → IsTask W task → WasCreated W t task →
    Returns W (after_created W t task undeferred) t (TaskCreate task undeferred codeptr)
created-back W t task codeptr true made there one created =
    record {
      thread = λ u. read-changed (λ (thread : Thread). record thread { undeferred = task }) unmade W.threads t u (thread-below W t there);
      threads = length-set W.threads t _;
      tasks = refl;
      owner = λ k. refl;
      forked = λ k. refl;
      pooled = λ k. refl;
      code = λ k. refl;
      regions = refl;
      head = λ q. refl;
      team = λ q. refl;
      locks = refl;
    }
created-back W t task codeptr false made there one created =
    subst (λ after. Returns W after t (TaskCreate task false codeptr)) (sym (readied-is W task created.task.made))
    (record {
      thread = λ u. refl;
      threads = refl;
      tasks = refl;
      owner = λ k. refl;
      forked = λ k. refl;
      pooled = λ k. read-pool W task condition.Ready k made one;
      code = λ k. refl;
      regions = refl;
      head = λ q. refl;
      team = λ q. refl;
      locks = refl;
    })

-- a task has finished
finished-back : (W : World) (t task : ℕ) → IsMadeWorld W → IsTask W task → HasEnded W t task → Returns W (with_finished_task W task) t (TaskEnd task)
finished-back W t task made one ended =
    subst (λ after. Returns W after t (TaskEnd task)) (sym (finished-is W task ended.task.started))
    (record {
      thread = λ u. refl;
      threads = refl;
      tasks = refl;
      owner = λ k. refl;
      forked = λ k. refl;
      pooled = λ k. read-pool W task condition.Finished k made one;
      code = λ k. refl;
      regions = refl;
      head = λ q. refl;
      team = λ q. refl;
      locks = refl;
    })

-- a member has begun to wait at a barrier, which a taskwait isn't
same-back : (W : World) (t codeptr : ℕ) (which : SyncKind) → is_barrier which ≡ false → Returns W W t (Sync which stage.WaitBegin codeptr)
same-back W t codeptr which is =
    record {
      thread = λ u. refl;
      threads = refl;
      tasks = refl;
      owner = λ k. refl;
      forked = λ k. refl;
      pooled = λ k. refl;
      code = λ k. refl;
      regions = refl;
      head = λ q. refl;
      team = λ q. rw is refl;
      locks = refl;
    }

begun-back : (W : World) (t codeptr : ℕ) (which : SyncKind) → IsMadeWorld W → is_barrier which ≡ true →
    Returns W (with_wait_begun W (current_region W t) (current_index W t)) t (Sync which stage.WaitBegin codeptr)
begun-back W t codeptr which made is =
    let r = current_region W t in
    let change : Region → Region = λ (region : Region). record region { team = with_begun region.team (current_index W t) } in
    record {
      thread = λ u. refl;
      threads = refl;
      tasks = refl;
      owner = λ k. refl;
      forked = λ k. refl;
      pooled = λ k. refl;
      code = λ k. refl;
      regions = length-set W.regions r (change (region_at W r));
      head = λ q. read-same (λ (region : Region). region.head) no_region W.regions r q (change (region_at W r)) refl;
      team = λ q. rw is (ap (λ (region : Region). region.team) (read-changed change no_region W.regions r q (region-below W t made)) ∙ either-team (q == r)
          (change (region_at W q)) (region_at W q));
      locks = refl;
    }

waiting-back : (W : World) (t codeptr : ℕ) (which : SyncKind) → IsMadeWorld W → Returns W (after_wait_begun W t which) t (Sync which stage.WaitBegin codeptr)
waiting-back W t codeptr which made =
    by-kind (is_barrier which) (with_wait_begun W (current_region W t) (current_index W t)) refl (begun-back W t codeptr which made) (same-back W t codeptr which)
  where
    by-kind : (b : Bool) (waiting : World) → is_barrier which ≡ b → (is_barrier which ≡ true → Returns W waiting t (Sync which stage.WaitBegin codeptr)) →
        (is_barrier which ≡ false → Returns W W t (Sync which stage.WaitBegin codeptr)) →
        Returns W (if b then waiting else W) t (Sync which stage.WaitBegin codeptr)
    by-kind true waiting is first second = first is
    by-kind false waiting is first second = second is

pub returns : (W : World) (t : ℕ) (e : Event) → IsMadeWorld W → AreOrderly W → HasOccurred W t e → EventOrderly W t e → Returns W (at_back W t e) t e
unfolding at_back
returns W t ThreadEnd made orderly occurred named = staged-back W t occurred.thread
returns W t (ParallelBegin r requested codeptr) made orderly occurred named = opened-back W t r requested codeptr made occurred.thread occurred.named
returns W t (ParallelEnd r codeptr) made orderly occurred named = forked-back W t r codeptr made
returns W t (MemberEnd r k) made orderly occurred named = left-back W t r k occurred.named.region.below
returns W t (TaskCreate task undeferred codeptr) made orderly occurred named =
    created-back W t task codeptr undeferred made occurred.thread occurred.named.made named
returns W t (TaskEnd task) made orderly occurred named = finished-back W t task made occurred.named named
returns W t (Sync which stage.WaitBegin codeptr) made orderly occurred named = waiting-back W t codeptr which made
returns W t other made orderly occurred named =
    record {
      thread = λ u. refl;
      threads = refl;
      tasks = refl;
      owner = λ k. refl;
      forked = λ k. refl;
      pooled = λ k. refl;
      code = λ k. refl;
      regions = refl;
      head = λ q. refl;
      team = λ q. refl;
      locks = refl;
    }
