-- The thread that holds a wait identifier is that of the lock's owner, and who acquires it has asked for it (rules 8 and 9).
use Rattle.std.proofs.Common.{ℕ, ◌≡◌, ◌≢◌, ◌<◌, ◌≤◌, ◌==◌, ◌&&◌, ◌⊎◌, Bool, true, false, if◌then◌else◌, List, [], ◌∷◌, drop, length, slice_index_or, refl, sym, ap, ap₂, ◌∙◌, subst, inl, inr, true≢false, arith}
use Rattle.std.specs.Prelude.{All, Option, Some, None}
use Rattle.std.proofs.lemmas.Bool.{cases_eq, eq-eqb, ne_eqb}
use Rattle.std.proofs.lemmas.List.Elements.{All-cons, All-nil, All-tail}
use Rattle.c_check.specs.Seen.{critical_count}
use Rattle.c_model.specs.declared.point.MutexKind.{MutexKind}
use Rattle.c_model.specs.declared.point.SyncStage.TheVariants as stage
use Rattle.ompt_calls.specs.declared.call.Call.{Call}
use Rattle.ompt_calls.specs.declared.event.EventRecord.{EventRecord}
use Rattle.sync_objects.specs.declared.lock.Lock.{Lock}
use Rattle.sync_objects.specs.Owners.{free_lock, look_up, with_owner}
use Rattle.task_pool.specs.declared.task.Condition.TheVariants as condition
use Rattle.task_pool.specs.declared.task.Task.{Task as PoolTask}
use Rattle.task_pool.specs.Tasks.{task_at as pool_task_at}
use Rattle.omp_model.specs.declared.limits.TheConstants.{INITIAL_TASK}
use Rattle.omp_model.specs.declared.event.Event.{Event}
use Rattle.omp_model.specs.declared.event.Event.TheVariants.{Dispatch, InitialTaskBegin, InitialTaskEnd, LockDestroy, LockInit, MemberBegin, MemberEnd, MutexAcquire, MutexAcquired, MutexReleased, Sync, TaskBegin, TaskCreate, TaskEnd, ThreadBegin, ThreadEnd}
use Rattle.omp_model.specs.declared.event.Share.TheVariants.{Chunk, Section}
use Rattle.omp_model.specs.State.{Run, Thread, World, first, first_world, pooled_at, task_at, thread_at}
use Rattle.omp_model.specs.Members.{current}
use Rattle.omp_model.specs.Calls.{call_of, mutex_number}
use Rattle.omp_model.specs.Conditions.{Distinct, EventOrderly, has_started}
use Rattle.omp_model.proofs.Touching.{come_to, is_of_code, locks_after, owner_after, pooled_after, pooled_back, tasks_after, thread_after}
use Rattle.omp_model.proofs.MadeEvents.{current-made}
use Rattle.omp_model.proofs.Gos.{current-kept}
use Rattle.nested_runs.proofs.Coming.{Comes, PicksTask, PicksUndeferred}
use Rattle.nested_runs.proofs.Effects.{stand_after}
use Rattle.nested_runs.proofs.Readings.{held_by}
use Rattle.nested_runs.proofs.Recorded.{Inside, recorded}
use Rattle.nested_runs.proofs.Knows.{ComesBack, Goes, IsWholeRun, Knows, Stays}
use Rattle.nested_runs.proofs.Standing.{Stand, stand_among, stand_at}
use Rattle.nested_runs.proofs.Standing.Stand.{Free, AtMutex}
use Rattle.nested_runs.proofs.Touching.{AreCodes, ComesFree, MayTake, Touches}
use Rattle.trace_check.specs.Before.{holder, is_just, latest}
use Rattle.trace_check.specs.Rules.{is_free, keeps_asking, keeps_holders}
use Rattle.nested_runs.proofs.Known.{AreOwners, AreRising, HasAsked, HasNotAsked, IsInvited, IsOwner, IsStarted, TellsLocks, holder_of, is_running, thread_of_owner}
use Rattle.nested_runs.proofs.CallReadings.{held-is, latest-other, latest-own}
use Rattle.nested_runs.proofs.FirstWorlds.{first-threads}
use Rattle.nested_runs.proofs.KeptTasks.{code-some, current-under_way, none-stand}
use Rattle.nested_runs.proofs.LockLists.{IsHeld, criticals-look, criticals-owners, criticals-rising, look-fresh, look-fresh_other, look-owned, look-owned_other, look-without, look-without_other, owned_by, owners-fresh, owners-look, owners-owned, owners-without, rising-fresh, rising-owned, rising-without}
use Rattle.nested_runs.proofs.TellBrackets.{back-stack, task-unstarted}

-- ---- what a thread has asked for, and what it hasn't

free-asked : (stand : Stand) (call : Option Call) → stand ≡ Free → HasAsked stand call
free-asked stand call free = subst (λ s. HasAsked s call) (sym free) tt

free-unasked : (stand : Stand) → stand ≡ Free → HasNotAsked stand
free-unasked stand free = subst HasNotAsked (sym free) tt

-- a task that stands before no lock has asked for whatever was called last
unasked-asked : (stand : Stand) (call : Option Call) → HasNotAsked stand → HasAsked stand call
unasked-asked (AtMutex which id) call not = absurd not
unasked-asked other call not = tt

apart-unasked : (stand : Stand) → ((which : MutexKind) (id : ℕ) → stand ≢ AtMutex which id) → HasNotAsked stand
apart-unasked (AtMutex which id) apart = apart which id refl
apart-unasked other apart = tt

-- where there is no task, nothing was asked for
none-free : (W : World) (k : ℕ) → AreCodes W → k ≡ 0 → stand_at W k ≡ Free
none-free W k codes none = ap (stand_at W) none ∙ ap stand_among codes.none

-- all tasks of a stack, and those below the first one
all-stacked : (P : ℕ → Type 0) (stack : List ℕ) → P (slice_index_or stack 0 0) → All P (drop 1 stack) → All P stack
all-stacked P [] own below = All-nil P
all-stacked P (k ∷ rest) own below = All-cons P k rest own below

all-lower : (P : ℕ → Type 0) (stack : List ℕ) → All P stack → All P (drop 1 stack)
all-lower P [] all = all
all-lower P (k ∷ rest) all = All-tail P k rest all

first-stacked : (P : ℕ → Type 0) (stack : List ℕ) → P 0 → All P stack → P (slice_index_or stack 0 0)
first-stacked P [] none all = none
first-stacked P (k ∷ rest) none all = all 0 k (omega arith)

-- ---- at the start

pub locks-first : (run : Run) → IsWholeRun run → TellsLocks (first_world run) []
locks-first run whole =
    record {
      holder = λ id. sym (criticals-look (first_world run) (critical_count run.program) id);
      owners = criticals-owners (first_world run) (critical_count run.program);
      rising = criticals-rising (critical_count run.program);
      asked = λ t. first-threads run (λ thread. HasAsked (stand_at (first_world run) (slice_index_or thread.stack 0 0)) None) tt tt t;
      below = λ t. first-threads run (λ thread. All (λ (k : ℕ). HasNotAsked (stand_at (first_world run) k)) (drop 1 thread.stack)) (All-nil _) (All-nil _) t;
    }

-- ---- owners that stay

-- where those who have started have started still, and on the same thread, the locks have the same holders
record KeepsOwners (W after : World) : Type 0 where
  started : (k : ℕ) → IsStarted W k → IsStarted after k
  thread : (k : ℕ) → IsStarted W k → (task_at after k).thread ≡ (task_at W k).thread

module _ (W after : World) (keeps : KeepsOwners W after) where
  kept-owner : (owner : Option ℕ) → IsOwner W owner → IsOwner after owner
  kept-owner None is = tt
  kept-owner (Some k) is = keeps.started k is

  kept-owners : (locks : List Lock) → AreOwners W locks → AreOwners after locks
  kept-owners [] owners = tt
  kept-owners (lock ∷ locks) owners = (kept-owner lock.owner owners.0, kept-owners locks owners.1)

  same-thread : (owner : Option ℕ) → IsOwner W owner → thread_of_owner after owner ≡ thread_of_owner W owner
  same-thread None is = refl
  same-thread (Some k) is = ap Some (keeps.thread k is)

  same-holder : (found : Option Lock) → IsHeld W found → holder_of after found ≡ holder_of W found
  same-holder None is = refl
  same-holder (Some lock) is = same-thread lock.owner is

-- ---- after what is no event

still-asked : (before after : Stand) (call : Option Call) → (after ≡ before) ⊎ ComesFree before after → HasAsked before call → HasAsked after call
still-asked before after call (inl same) asked = subst (λ s. HasAsked s call) (sym same) asked
still-asked before after call (inr comes) asked = free-asked after call comes.free

still-unasked : (before after : Stand) → (after ≡ before) ⊎ ComesFree before after → HasNotAsked before → HasNotAsked after
still-unasked before after (inl same) not = subst HasNotAsked (sym same) not
still-unasked before after (inr comes) not = free-unasked after comes.free

pub locks-stays : (run : Run) (W after : World) (I J : Inside) (past : List EventRecord) → Stays run W after I J past → TellsLocks after past
locks-stays run W after I J past stays =
    let known = stays.knows.locks in
    let alike = stays.alike in
    let keeps : KeepsOwners W after = record {
      started = λ k is. record {
        below = omega (arith, alike.world.tasks, is.below);
        started = ap (λ pool. has_started (pool_task_at pool.tasks k).condition) alike.world.pool ∙ is.started;
      };
      thread = λ k started. alike.world.owner k;
    } in
    record {
      holder = λ id.
          known.holder id ∙ sym (same-holder W after keeps (look_up W.locks.locks id) (owners-look W W.locks.locks id known.owners))
          ∙ ap (λ locks. holder_of after (look_up locks.locks id)) (sym alike.world.locks);
      owners = subst (λ locks. AreOwners after locks.locks) (sym alike.world.locks) (kept-owners W after keeps W.locks.locks known.owners);
      rising = subst (λ locks. AreRising locks.locks) (sym alike.world.locks) known.rising;
      asked = λ t.
          subst (λ stack. HasAsked (stand_at after (slice_index_or stack 0 0)) (latest t past)) (sym (alike.world.thread t).stack)
          (still-asked _ _ (latest t past) (alike.stands (current W t)) (known.asked t));
      below = λ t.
          subst (λ stack. All (λ (k : ℕ). HasNotAsked (stand_at after k)) (drop 1 stack)) (sym (alike.world.thread t).stack)
          (λ i d within. still-unasked _ _ (alike.stands (slice_index_or (drop 1 (thread_at W t).stack) i d)) (known.below t i d within));
    }

-- ---- after the Go of an event

-- a task that was made and has started is none that hasn't, nor a new one
started-apart : (W : World) (k task : ℕ) → has_started (pooled_at W k).condition ≡ true → has_started (pooled_at W task).condition ≡ false → k ≢ task
started-apart W k task started not is = true≢false (sym started ∙ ap (λ j. has_started (pooled_at W j).condition) is ∙ not)

new-apart : (W : World) (k task : ℕ) → IsStarted W k → task ≡ length W.tasks → k ≢ task
new-apart W k task is new same = let below = is.below in omega (arith, below, new, same)

tasks-more : (e : Event) (count : ℕ) → count ≤ tasks_after e count
tasks-more (MemberBegin r k) count = omega arith
tasks-more (TaskCreate task undeferred codeptr) count = omega arith
tasks-more e count = omega arith

started-both : (which : Bool) (one other : PoolTask) → has_started one.condition ≡ true → has_started other.condition ≡ true →
    has_started (if which then one else other).condition ≡ true
started-both true one other first second = first
started-both false one other first second = second

module _ (run : Run) (W after : World) (I : Inside) (past : List EventRecord) (t : ℕ) (knows : Knows run W I past) where
  go-owner : (e : Event) (k owner : ℕ) → Comes W t e → IsStarted W k → owner_after t e k owner ≡ owner
  go-owner InitialTaskBegin k owner comes started =
      rw (ne_eqb k INITIAL_TASK (started-apart W k INITIAL_TASK started.started (ap has_started comes.made))) refl
  go-owner (MemberBegin r task) k owner comes started =
      rw (ne_eqb k task (new-apart W k task started comes.task)) refl
  go-owner (TaskBegin prior task) k owner comes started =
      rw (ne_eqb k task (started-apart W k task started.started (task-unstarted run W I past t task knows comes.some comes.picks))) refl
  go-owner e k owner comes started = refl

  go-started : (e : Event) (k : ℕ) → Comes W t e → IsStarted W k → has_started (pooled_after W t e k).condition ≡ true
  go-started InitialTaskBegin k comes started =
      started-both (k == INITIAL_TASK) (come_to (pooled_at W k) condition.Started) (pooled_at W k) refl started.started
  go-started InitialTaskEnd k comes started =
      started-both (k == INITIAL_TASK) (come_to (pooled_at W k) condition.Finished) (pooled_at W k) refl started.started
  go-started (MemberBegin r task) k comes started = started-both (k == task) _ (pooled_at W k) refl started.started
  go-started (MemberEnd r task) k comes started = started-both (k == task) (come_to (pooled_at W k) condition.Finished) (pooled_at W k) refl started.started
  go-started (TaskCreate task undeferred codeptr) k comes started =
      rw (ne_eqb k task (new-apart W k task started comes.1)) started.started
  go-started (TaskBegin prior task) k comes started = started-both (k == task) (come_to (pooled_at W k) condition.Started) (pooled_at W k) refl started.started
  go-started e k comes started = started.started

  go-keeps : (e : Event) → Comes W t e → Touches W after t e → KeepsOwners W after
  go-keeps e comes touches =
      record {
        started = λ k is. record {
          below = omega (arith, touches.world.tasks, tasks-more e (length W.tasks), is.below);
          started = ap (λ (x : PoolTask). has_started x.condition) (touches.world.pooled k) ∙ go-started e k comes is;
        };
        thread = λ k started. touches.world.owner k ∙ go-owner e k (task_at W k).thread comes started;
      }

  -- the current task has started
  current-started : 1 ≤ current W t → IsStarted W (current W t)
  current-started some =
      record {
        below = (current-made W t knows.sound.made some).made.below;
        started = ap has_started (current-under_way W t knows.sound.orderly some).started;
      }

  -- the holder of each lock
  free-holder : (id : ℕ) (lock : Lock) → look_up W.locks.locks id ≡ Some lock → lock.owner ≡ None → holder_of after (look_up W.locks.locks id) ≡ None
  free-holder id lock found free = ap (holder_of after) found ∙ ap (thread_of_owner after) free

  go-holder : (e : Event) (id : ℕ) → Comes W t e → Touches W after t e →
      held_by id t e (holder_of after (look_up W.locks.locks id)) ≡ holder_of after (look_up (locks_after W t e W.locks.locks) id)
  go-holder (MutexAcquired which wait_id codeptr) id comes touches =
      let under_way = current-under_way W t knows.sound.orderly comes.0.within.some in
      let keeps = go-keeps (MutexAcquired which wait_id codeptr) comes touches in
      let own : (task_at after (current W t)).thread ≡ t = keeps.thread (current W t) (current-started comes.0.within.some) ∙ under_way.thread in
      elim (cases_eq wait_id id) [
        | inl is ↦
            let found : look_up (with_owner W.locks.locks wait_id (Some (current W t))) id ≡ Some (owned_by (Some (current W t)) comes.1.lock) =
            subst (λ j. look_up (with_owner W.locks.locks wait_id (Some (current W t))) j ≡ Some (owned_by (Some (current W t)) comes.1.lock)) is
            (look-owned W.locks.locks wait_id (Some (current W t)) comes.1.lock comes.1.found) in
            rw (eq-eqb wait_id id is) (sym (ap (holder_of after) found ∙ ap Some own))
        | inr other ↦ rw (ne_eqb wait_id id other)
            (ap (holder_of after) (sym (look-owned_other W.locks.locks wait_id id (Some (current W t)) (λ is. other (sym is)))))
      ]
  go-holder (MutexReleased which wait_id codeptr) id comes touches =
      elim (cases_eq wait_id id) [
        | inl is ↦
            let found : look_up (with_owner W.locks.locks wait_id None) id ≡ Some (owned_by None comes.1.lock) =
            subst (λ j. look_up (with_owner W.locks.locks wait_id None) j ≡ Some (owned_by None comes.1.lock)) is
            (look-owned W.locks.locks wait_id None comes.1.lock comes.1.found) in
            rw (eq-eqb wait_id id is) (sym (ap (holder_of after) found))
        | inr other ↦ rw (ne_eqb wait_id id other)
            (ap (holder_of after) (sym (look-owned_other W.locks.locks wait_id id None (λ is. other (sym is)))))
      ]
  go-holder (LockInit wait_id codeptr) id comes touches =
      elim (cases_eq id wait_id) [
        | inl is ↦
            ap (λ j. holder_of after (look_up W.locks.locks j)) is ∙ ap (holder_of after) comes.1
            ∙ sym (ap (λ j. holder_of after (look_up (locks_after W t (LockInit wait_id codeptr) W.locks.locks) j)) is
            ∙ ap (holder_of after) (look-fresh W.locks.locks (free_lock wait_id) comes.1))
        | inr other ↦ ap (holder_of after) (sym (look-fresh_other W.locks.locks (free_lock wait_id) id other))
      ]
  go-holder (LockDestroy wait_id codeptr) id comes touches =
      elim (cases_eq id wait_id) [
        | inl is ↦
            ap (λ j. holder_of after (look_up W.locks.locks j)) is ∙ free-holder wait_id comes.1.lock comes.1.found comes.1.owner_is
            ∙ sym (ap (λ j. holder_of after (look_up (locks_after W t (LockDestroy wait_id codeptr) W.locks.locks) j)) is
            ∙ ap (holder_of after) (look-without W.locks.locks wait_id knows.locks.rising))
        | inr other ↦ ap (holder_of after) (sym (look-without_other W.locks.locks wait_id id other))
      ]
  go-holder e id comes touches = refl

  -- the list of locks
  go-rising : (e : Event) → Comes W t e → AreRising (locks_after W t e W.locks.locks)
  go-rising (MutexAcquired which id codeptr) comes = rising-owned W.locks.locks id (Some (current W t)) knows.locks.rising
  go-rising (MutexReleased which id codeptr) comes = rising-owned W.locks.locks id None knows.locks.rising
  go-rising (LockInit id codeptr) comes = rising-fresh W.locks.locks (free_lock id) comes.1 knows.locks.rising
  go-rising (LockDestroy id codeptr) comes = rising-without W.locks.locks id knows.locks.rising
  go-rising e comes = knows.locks.rising

  go-owners : (e : Event) → Comes W t e → Touches W after t e → AreOwners after (locks_after W t e W.locks.locks)
  go-owners (MutexAcquired which id codeptr) comes touches =
      let keeps = go-keeps (MutexAcquired which id codeptr) comes touches in
      owners-owned after W.locks.locks id (Some (current W t)) (keeps.started (current W t) (current-started comes.0.within.some))
      (kept-owners W after keeps W.locks.locks knows.locks.owners)
  go-owners (MutexReleased which id codeptr) comes touches =
      owners-owned after W.locks.locks id None tt
      (kept-owners W after (go-keeps (MutexReleased which id codeptr) comes touches) W.locks.locks knows.locks.owners)
  go-owners (LockInit id codeptr) comes touches =
      owners-fresh after W.locks.locks id (kept-owners W after (go-keeps (LockInit id codeptr) comes touches) W.locks.locks knows.locks.owners)
  go-owners (LockDestroy id codeptr) comes touches =
      owners-without after W.locks.locks id (kept-owners W after (go-keeps (LockDestroy id codeptr) comes touches) W.locks.locks knows.locks.owners)
  go-owners e comes touches = kept-owners W after (go-keeps e comes touches) W.locks.locks knows.locks.owners

  -- ---- what was asked for

  -- a task that the thread takes up another one on has asked for nothing
  invited-unasked : (r : ℕ) → IsInvited W t r → HasNotAsked (stand_at W (current W t))
  invited-unasked r invited =
      elim invited.on [
        | inl forker ↦
            subst HasNotAsked (sym (ap (stand_at W) (sym forker.task) ∙ (knows.seats.holds r invited.region).stand)) tt
        | inr idle ↦ free-unasked _ (none-free W (current W t) knows.codes (ap (λ stack. slice_index_or stack 0 0) idle.stack))
      ]

  picks-unasked : (task : ℕ) → 1 ≤ task → PicksTask W t task ⊎ PicksUndeferred W t task → HasNotAsked (stand_at W (current W t))
  picks-unasked task some (inl picks) = apart-unasked _ picks.unasked
  picks-unasked task some (inr picks) = free-unasked _ (knows.seats.detained t (subst (λ k. 1 ≤ k) (sym picks.task) some)).stand

  -- the tasks below the current one, and all of them
  stacked-unasked : HasNotAsked (stand_at W (current W t)) → All (λ (k : ℕ). HasNotAsked (stand_at W k)) (thread_at W t).stack
  stacked-unasked own = all-stacked (λ (k : ℕ). HasNotAsked (stand_at W k)) (thread_at W t).stack own (knows.locks.below t)

  lower-free : HasNotAsked (stand_at W (slice_index_or (drop 1 (thread_at W t).stack) 0 0))
  lower-free =
      first-stacked (λ (k : ℕ). HasNotAsked (stand_at W k)) (drop 1 (thread_at W t).stack)
      (free-unasked _ (none-free W 0 knows.codes refl)) (knows.locks.below t)

  -- beside the code all stand where they stood
  beside : (e : Event) (k : ℕ) → is_of_code e ≡ false → Touches W after t e → stand_at after k ≡ stand_at W k
  beside e k apart touches = touches.stands k (λ of_code is. true≢false (sym of_code ∙ apart))

  own-beside : (e : Event) → is_of_code e ≡ false → Touches W after t e →
      stand_at after (current after t) ≡ stand_at W (slice_index_or (thread_after e (thread_at W t)).stack 0 0)
  own-beside e apart touches =
      beside e (current after t) apart touches ∙ ap (λ (x : Thread). stand_at W (slice_index_or x.stack 0 0)) touches.world.own

  lower-asked : (e : Event) (call : Option Call) → is_of_code e ≡ false → Touches W after t e →
      (thread_after e (thread_at W t)).stack ≡ drop 1 (thread_at W t).stack →
      HasAsked (stand_at after (current after t)) call
  lower-asked e call apart touches is =
      subst (λ s. HasAsked s call) (sym (own-beside e apart touches ∙ ap (λ stack. stand_at W (slice_index_or stack 0 0)) is))
      (unasked-asked _ call lower-free)

  -- the own thread, and the other ones
  code-asked : (e : Event) → HasAsked (stand_after e) (Some (call_of after t e))
  unfolding call_of
  code-asked (MutexAcquire which id codeptr) = ap₂ ◌&&◌ (eq-eqb (mutex_number which) (mutex_number which) refl) (eq-eqb id id refl)
  code-asked (Sync which stage.RegionBegin codeptr) = tt
  code-asked (Sync which stage.WaitBegin codeptr) = tt
  code-asked (Sync which stage.WaitEnd codeptr) = tt
  code-asked (Sync which stage.RegionEnd codeptr) = tt
  code-asked e = tt

  own-asked : (e : Event) → Comes W t e → Touches W after t e → HasAsked (stand_at after (current after t)) (Some (call_of after t e))
  own-asked ThreadBegin comes touches =
      let none : current W t ≡ 0 = ap (λ stack. slice_index_or stack 0 0) (knows.seats.idle t (ap is_running comes)) in
      free-asked _ _ (own-beside ThreadBegin refl touches ∙ none-free W (current W t) knows.codes none)
  own-asked ThreadEnd comes touches = free-asked _ _ (own-beside ThreadEnd refl touches ∙ none-free W (current W t) knows.codes comes.none)
  own-asked InitialTaskBegin comes touches =
      free-asked _ _ (own-beside InitialTaskBegin refl touches ∙ knows.brackets.unmoved INITIAL_TASK (ap has_started comes.made))
  own-asked InitialTaskEnd comes touches = lower-asked InitialTaskEnd _ refl touches refl
  own-asked (MemberBegin r k) comes touches = free-asked _ _ (own-beside (MemberBegin r k) refl touches ∙ none-stand W k comes.task)
  own-asked (MemberEnd r k) comes touches = lower-asked (MemberEnd r k) _ refl touches refl
  own-asked (TaskBegin prior task) comes touches =
      free-asked _ _ (own-beside (TaskBegin prior task) refl touches
      ∙ knows.brackets.unmoved task (task-unstarted run W I past t task knows comes.some comes.picks))
  own-asked (TaskEnd task) comes touches = lower-asked (TaskEnd task) _ refl touches refl
  own-asked (Dispatch share) comes touches =
      let takes = subst (MayTake W t) comes.taken (knows.seats.shares t) in
      free-asked _ _ (own-beside (Dispatch share) refl touches ∙ takes.stand)
  own-asked e comes touches =
      subst (λ s. HasAsked s (Some (call_of after t e))) (sym (ap (stand_at after) (current-kept W after t e refl touches.world) ∙ touches.stand_own refl))
      (code-asked e)

  -- a task of another thread isn't the current one of this
  other-apart : (e : Event) (u k : ℕ) → Comes W t e → u ≢ t → (task_at W k).thread ≡ u → is_of_code e ≡ true → k ≡ current W t → ⊥
  other-apart e u k comes other thread of_code is =
      other (sym thread ∙ ap (λ j. (task_at W j).thread) is ∙ (current-under_way W t knows.sound.orderly (code-some W t e of_code comes)).thread)

  other-asked : (e : Event) (u : ℕ) (call : Option Call) → Comes W t e → Touches W after t e → u ≢ t → HasAsked (stand_at W (current W u)) call →
      HasAsked (stand_at after (current after u)) call
  other-asked e u call comes touches other asked =
      let apart : is_of_code e ≡ true → current W u ≡ current W t → ⊥ = λ of_code is.
      let some = code-some W t e of_code comes in
      other-apart e u (current W u) comes other (current-under_way W u knows.sound.orderly (subst (λ k. 1 ≤ k) (sym is) some)).thread of_code is in
      subst (λ s. HasAsked s call)
      (sym (ap (λ (x : Thread). stand_at after (slice_index_or x.stack 0 0)) (touches.world.others u other) ∙ touches.stands (current W u) apart)) asked

  -- ---- the tasks below

  abbrev Unasked : World → List ℕ → Type 0
  Unasked world stack = All (λ (k : ℕ). HasNotAsked (stand_at world k)) stack

  unasked-beside : (e : Event) (stack : List ℕ) → is_of_code e ≡ false → Touches W after t e → Unasked W stack → Unasked after stack
  unasked-beside e stack apart touches all i d within =
      subst HasNotAsked (sym (beside e (slice_index_or stack i d) apart touches)) (all i d within)

  apart-below : (stack : List ℕ) → Distinct stack → (i d : ℕ) → i < length (drop 1 stack) → slice_index_or (drop 1 stack) i d ≡ slice_index_or stack 0 0 → ⊥
  apart-below [] distinct i d within is = absurd (omega (arith, within))
  apart-below (k ∷ rest) distinct i d within is = distinct.0 i d within is

  lower-below : Unasked W (drop 1 (drop 1 (thread_at W t).stack))
  lower-below = all-lower (λ (k : ℕ). HasNotAsked (stand_at W k)) (drop 1 (thread_at W t).stack) (knows.locks.below t)

  own-below : (e : Event) → Comes W t e → Touches W after t e → Unasked after (drop 1 (thread_after e (thread_at W t)).stack)
  own-below ThreadBegin comes touches = unasked-beside ThreadBegin _ refl touches (knows.locks.below t)
  own-below ThreadEnd comes touches = unasked-beside ThreadEnd _ refl touches (knows.locks.below t)
  own-below InitialTaskBegin comes touches =
      unasked-beside InitialTaskBegin _ refl touches (stacked-unasked (free-unasked _ (none-free W (current W t) knows.codes comes.none)))
  own-below InitialTaskEnd comes touches = unasked-beside InitialTaskEnd _ refl touches lower-below
  own-below (MemberBegin r k) comes touches =
      let invited = knows.seats.invited t (subst (λ q. 1 ≤ q) (sym comes.region) comes.some) in
      unasked-beside (MemberBegin r k) _ refl touches (stacked-unasked (invited-unasked _ invited))
  own-below (MemberEnd r k) comes touches = unasked-beside (MemberEnd r k) _ refl touches lower-below
  own-below (TaskBegin prior task) comes touches =
      unasked-beside (TaskBegin prior task) _ refl touches (stacked-unasked (picks-unasked task comes.some comes.picks))
  own-below (TaskEnd task) comes touches = unasked-beside (TaskEnd task) _ refl touches lower-below
  own-below (Dispatch share) comes touches = unasked-beside (Dispatch share) _ refl touches (knows.locks.below t)
  own-below e comes touches =
      λ i d within.
      let k = slice_index_or (drop 1 (thread_at W t).stack) i d in
      subst HasNotAsked (sym (touches.stands k (λ of_code is. apart-below (thread_at W t).stack (knows.sound.orderly.distinct t) i d within is)))
      (knows.locks.below t i d within)

  stacked-thread : (u i d : ℕ) → i < length (drop 1 (thread_at W u).stack) → (task_at W (slice_index_or (drop 1 (thread_at W u).stack) i d)).thread ≡ u
  stacked-thread u i d within =
      all-lower (λ k. (task_at W k).thread ≡ u) (thread_at W u).stack (λ j e below. (knows.sound.orderly.stacked u j e below).thread) i d within

  other-below : (e : Event) (u : ℕ) → Comes W t e → Touches W after t e → u ≢ t → Unasked after (drop 1 (thread_at W u).stack)
  other-below e u comes touches other i d within =
      let k = slice_index_or (drop 1 (thread_at W u).stack) i d in
      subst HasNotAsked (sym (touches.stands k (λ of_code is. other-apart e u k comes other (stacked-thread u i d within) of_code is)))
      (knows.locks.below u i d within)

pub locks-go : (run : Run) (W after : World) (I J : Inside) (past : List EventRecord) (t position : ℕ) (e : Event) → Goes run W after I J past t e →
    TellsLocks after (recorded position t after e ∷ past)
locks-go run W after I J past t position e goes =
    let knows = goes.knows in
    let known = knows.locks in
    let touches = goes.touches in
    let keeps = go-keeps run W after I past t knows e goes.comes touches in
    let before : (id : ℕ) → holder id past ≡ holder_of after (look_up W.locks.locks id) = λ id.
    known.holder id ∙ sym (same-holder W after keeps (look_up W.locks.locks id) (owners-look W W.locks.locks id known.owners)) in
    let asked : (u : ℕ) → u ≢ t → HasAsked (stand_at after (current after u)) (latest u (recorded position t after e ∷ past)) = λ u other.
    subst (HasAsked (stand_at after (current after u))) (sym (latest-other position t after e past u other))
    (other-asked run W after I past t knows e u (latest u past) goes.comes touches other (known.asked u)) in
    let own : HasAsked (stand_at after (current after t)) (latest t (recorded position t after e ∷ past)) =
    subst (HasAsked (stand_at after (current after t))) (sym (latest-own position t after e past))
    (own-asked run W after I past t knows e goes.comes touches) in
    let own_below : All (λ (k : ℕ). HasNotAsked (stand_at after k)) (drop 1 (thread_at after t).stack) =
    subst (λ (x : Thread). All (λ (k : ℕ). HasNotAsked (stand_at after k)) (drop 1 x.stack)) (sym touches.world.own)
    (own-below run W after I past t knows e goes.comes touches) in
    let others_below : (u : ℕ) → u ≢ t → All (λ (k : ℕ). HasNotAsked (stand_at after k)) (drop 1 (thread_at after u).stack) = λ u other.
    subst (λ (x : Thread). All (λ (k : ℕ). HasNotAsked (stand_at after k)) (drop 1 x.stack)) (sym (touches.world.others u other))
    (other-below run W after I past t knows e u goes.comes touches other) in
    record {
      holder = λ id.
          held-is after t id e (holder id past) ∙ ap (held_by id t e) (before id) ∙ go-holder run W after I past t knows e id goes.comes touches
          ∙ ap (λ locks. holder_of after (look_up locks id)) (sym touches.world.locks);
      owners = subst (AreOwners after) (sym touches.world.locks) (go-owners run W after I past t knows e goes.comes touches);
      rising = subst AreRising (sym touches.world.locks) (go-rising run W after I past t knows e goes.comes);
      asked = λ u. elim (cases_eq u t) [
        | inl is ↦ subst (λ v. HasAsked (stand_at after (current after v)) (latest v (recorded position t after e ∷ past))) (sym is) own
        | inr other ↦ asked u other
      ];
      below = λ u. elim (cases_eq u t) [
        | inl is ↦ subst (λ v. All (λ (k : ℕ). HasNotAsked (stand_at after k)) (drop 1 (thread_at after v).stack)) (sym is) own_below
        | inr other ↦ others_below u other
      ];
    }

-- ---- after its Back

back-started : (W : World) (t : ℕ) (e : Event) (k : ℕ) → EventOrderly W t e → IsStarted W k →
    has_started (pooled_back W e k).condition ≡ true
back-started W t (TaskCreate task false codeptr) k orderly started =
    rw (ne_eqb k task (started-apart W k task started.started (ap has_started orderly.task.made))) started.started
back-started W t (TaskCreate task true codeptr) k orderly started = started.started
back-started W t (TaskEnd task) k orderly started =
    started-both (k == task) (come_to (pooled_at W k) condition.Finished) (pooled_at W k) refl started.started
back-started W t e k orderly started = started.started

pub locks-back : (run : Run) (W after : World) (I J : Inside) (past : List EventRecord) (t : ℕ) (e : Event) → ComesBack run W after I J past t e →
    TellsLocks after past
locks-back run W after I J past t e back =
    let known = back.knows.locks in
    let returns = back.returns in
    let orderly = (back.knows.sound.events t e back.within).orderly in
    let keeps : KeepsOwners W after = record {
      started = λ k is. record {
        below = omega (arith, returns.tasks, is.below);
        started = ap (λ (x : PoolTask). has_started x.condition) (returns.pooled k) ∙ back-started W t e k orderly is;
      };
      thread = λ k started. returns.owner k;
    } in
    let stack : (u : ℕ) → (thread_at after u).stack ≡ (thread_at W u).stack = λ u.
    ap (λ (x : Thread). x.stack) (returns.thread u) ∙ back-stack W t e u in
    let stand : (k : ℕ) → stand_at after k ≡ stand_at W k = λ k. ap (λ code. stand_among code.todo) (returns.code k) in
    record {
      holder = λ id.
          known.holder id ∙ sym (same-holder W after keeps (look_up W.locks.locks id) (owners-look W W.locks.locks id known.owners))
          ∙ ap (λ locks. holder_of after (look_up locks.locks id)) (sym returns.locks);
      owners = subst (λ locks. AreOwners after locks.locks) (sym returns.locks) (kept-owners W after keeps W.locks.locks known.owners);
      rising = subst (λ locks. AreRising locks.locks) (sym returns.locks) known.rising;
      asked = λ u.
          subst (λ s. HasAsked s (latest u past)) (sym (ap (λ ks. stand_at after (slice_index_or ks 0 0)) (stack u) ∙ stand (current W u))) (known.asked u);
      below = λ u.
          subst (λ ks. All (λ (k : ℕ). HasNotAsked (stand_at after k)) (drop 1 ks)) (sym (stack u))
          (λ i d within. subst HasNotAsked (sym (stand (slice_index_or (drop 1 (thread_at W u).stack) i d))) (known.below u i d within));
    }

-- ---- rule 8

keeps-asked : (W after : World) (t : ℕ) (e : Event) (past : List EventRecord) → Comes W t e → HasAsked (stand_at W (current W t)) (latest t past) →
    keeps_asking past t (call_of after t e) ≡ true
unfolding call_of
keeps-asked W after t (MutexAcquired which id codeptr) past comes asked = subst (λ s. HasAsked s (latest t past)) comes.0.stand asked
keeps-asked W after t (Sync which stage.RegionBegin codeptr) past comes asked = refl
keeps-asked W after t (Sync which stage.WaitBegin codeptr) past comes asked = refl
keeps-asked W after t (Sync which stage.WaitEnd codeptr) past comes asked = refl
keeps-asked W after t (Sync which stage.RegionEnd codeptr) past comes asked = refl
keeps-asked W after t (Dispatch (Chunk start count)) past comes asked = refl
keeps-asked W after t (Dispatch (Section codeptr)) past comes asked = refl
keeps-asked W after t e past comes asked = refl

pub keeps-asking : (run : Run) (W after : World) (I J : Inside) (past : List EventRecord) (t position : ℕ) (e : Event) → Goes run W after I J past t e →
    keeps_asking past t (recorded position t after e).call ≡ true
keeps-asking run W after I J past t position e goes = keeps-asked W after t e past goes.comes (goes.knows.locks.asked t)

-- ---- rule 9

keeps-held : (run : Run) (W after : World) (I : Inside) (t : ℕ) (e : Event) (past : List EventRecord) → Knows run W I past → Comes W t e →
    keeps_holders past t (call_of after t e) ≡ true
unfolding call_of
keeps-held run W after I t (MutexAcquired which id codeptr) past knows comes =
    ap is_free (knows.locks.holder id ∙ ap (holder_of W) comes.1.found ∙ ap (thread_of_owner W) comes.1.owner_is)
keeps-held run W after I t (MutexReleased which id codeptr) past knows comes =
    let under_way = current-under_way W t knows.sound.orderly comes.0.within.some in
    ap (is_just t) (knows.locks.holder id ∙ ap (holder_of W) comes.1.found ∙ ap (thread_of_owner W) comes.1.owner_is ∙ ap Some under_way.thread)
    ∙ eq-eqb t t refl
keeps-held run W after I t (Sync which stage.RegionBegin codeptr) past knows comes = refl
keeps-held run W after I t (Sync which stage.WaitBegin codeptr) past knows comes = refl
keeps-held run W after I t (Sync which stage.WaitEnd codeptr) past knows comes = refl
keeps-held run W after I t (Sync which stage.RegionEnd codeptr) past knows comes = refl
keeps-held run W after I t (Dispatch (Chunk start count)) past knows comes = refl
keeps-held run W after I t (Dispatch (Section codeptr)) past knows comes = refl
keeps-held run W after I t e past knows comes = refl

pub keeps-holders : (run : Run) (W after : World) (I J : Inside) (past : List EventRecord) (t position : ℕ) (e : Event) → Goes run W after I J past t e →
    keeps_holders past t (recorded position t after e).call ≡ true
keeps-holders run W after I J past t position e goes = keeps-held run W after I t e past goes.knows goes.comes
