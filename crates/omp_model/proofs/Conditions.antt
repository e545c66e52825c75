-- Each word of change keeps the tasks orderly.
use Rattle.std.proofs.Common.{◌≡◌, ℕ, zero, suc, ◌+◌, ◌≤◌, Bool, true, false, if◌then◌else◌, List, [], ◌∷◌, ◌++◌, slice_index_or, length, refl, sym, ap, ◌∙◌, subst, inl, inr, arith}
use Rattle.std.specs.Prelude.{All}
use Rattle.std.proofs.lemmas.List.{length-set, length_push, get_or_append_left, get_or_past, get_or-set_other, get_or-set_same}
use Rattle.std.proofs.lemmas.List.Elements.{All-weaker}
use Rattle.std.proofs.lemmas.Bool.{cases_eq, cases_lt, true≢false}
use Rattle.task_pool.specs.declared.task.Condition.{Condition}
use Rattle.task_pool.specs.declared.task.Condition.TheVariants as condition
use Rattle.task_pool.specs.declared.task.Task.{Task as PoolTask}
use Rattle.task_pool.specs.declared.task.TaskKind.TheVariants as kind
use Rattle.task_pool.specs.Tasks.{is_explicit, task_at as pool_task_at, no_task as no_pool_task, with_condition}
use Rattle.task_pool.specs.View.{PoolView}
use Rattle.omp_model.specs.declared.limits.TheConstants.{INITIAL_TASK}
use Rattle.omp_model.specs.declared.event.Event.{Event}
use Rattle.omp_model.specs.declared.event.Event.TheVariants.{TaskCreate, TaskEnd}
use Rattle.omp_model.specs.State.{Task, Thread, World, no_task, pooled_at, task_at, thread_at, unmade, with_task, with_thread}
use Rattle.omp_model.specs.Changes.{with_invitations}
use Rattle.omp_model.specs.Conditions.{AreOrderly, Distinct, EventOrderly, IsReady, IsToStart, IsUnderWay, WasTakenUp}
use Rattle.omp_model.proofs.Later.{at-set}
use Rattle.omp_model.proofs.MadeWords.{at-summoned, pool-at, pool-set}

-- What leaves all tasks and stacks as they are.

-- a thread has the same tasks
pub record SameThread (thread after : Thread) : Type 0 where
  pub stack : after.stack ≡ thread.stack
  pub undeferred : after.undeferred ≡ thread.undeferred

pub same-thread : (thread : Thread) → SameThread thread thread
same-thread thread = record { stack = refl; undeferred = refl }

pub record Still (W after : World) : Type 0 where
  pub pool : after.pool ≡ W.pool
  pub tasks : length after.tasks ≡ length W.tasks
  pub threads : (t : ℕ) → SameThread (thread_at W t) (thread_at after t)
  pub holders : (k : ℕ) → (task_at after k).thread ≡ (task_at W k).thread

pub still-same : (W : World) → Still W W
still-same W = record { pool = refl; tasks = refl; threads = λ t. same-thread (thread_at W t); holders = λ k. refl }

pub still-then : (W between after : World) → Still W between → Still between after → Still W after
still-then W between after first next =
    record {
      pool = next.pool ∙ first.pool;
      tasks = next.tasks ∙ first.tasks;
      threads = λ t. record { stack = (next.threads t).stack ∙ (first.threads t).stack; undeferred = (next.threads t).undeferred ∙ (first.threads t).undeferred };
      holders = λ k. next.holders k ∙ first.holders k;
    }

pub still-either : (W one other : World) (b : Bool) → Still W one → Still W other → Still W (if b then one else other)
still-either W one other true first second = first
still-either W one other false first second = second

pub still-thread : (W : World) (t : ℕ) (thread : Thread) → SameThread (thread_at W t) thread → Still W (with_thread W t thread)
still-thread W t thread same =
    record {
      pool = refl;
      tasks = refl;
      threads = λ u. at-set (λ (x : Thread). SameThread (thread_at W u) x) unmade W.threads t u thread (same-thread (thread_at W u)) (λ is. subst (λ v. SameThread (thread_at W v) thread) (sym is) same);
      holders = λ k. refl;
    }

pub still-task : (W : World) (k : ℕ) (task : Task) → task.thread ≡ (task_at W k).thread → Still W (with_task W k task)
still-task W k task same =
    record {
      pool = refl;
      tasks = length-set W.tasks k task;
      threads = λ t. same-thread (thread_at W t);
      holders = λ j. at-set (λ (x : Task). x.thread ≡ (task_at W j).thread) no_task W.tasks k j task refl (λ is. same ∙ ap (λ i. (task_at W i).thread) (sym is));
    }

pub still-summoned : (W : World) (r size : ℕ) → Still W (record W { threads = with_invitations r size W.threads })
still-summoned W r size =
    record {
      pool = refl;
      tasks = refl;
      threads = λ t. at-summoned (λ (x : Thread). SameThread (thread_at W t) x) r size W.threads t (same-thread (thread_at W t)) (λ within. record { stack = refl; undeferred = refl });
      holders = λ k. refl;
    }

module _ (W after : World) (still : Still W after) where
  same-pooled : (k : ℕ) → pooled_at after k ≡ pooled_at W k
  same-pooled k = ap (λ (pool : PoolView). pool_task_at pool.tasks k) still.pool

  under-way-still : (t k : ℕ) → IsUnderWay W t k → IsUnderWay after t k
  under-way-still t k one = record { started = rw (same-pooled k) one.started; thread = still.holders k ∙ one.thread }

  taken-still : (t k : ℕ) → WasTakenUp W t k → WasTakenUp after t k
  taken-still t k one =
      record { made = record { some = one.made.some; below = rw still.tasks one.made.below }; started = rw (same-pooled k) one.started; thread = still.holders k ∙ one.thread }

  to-start-still : (t k : ℕ) → IsToStart W t k → IsToStart after t k
  to-start-still t k one = record { made = rw (same-pooled k) one.made; explicit = rw (same-pooled k) one.explicit; parent = rw (same-pooled k) (taken-still t (pooled_at W k).parent one.parent) }

  pub orderly-still : AreOrderly W → AreOrderly after
  orderly-still all =
      record {
        stacked = λ t. rw (still.threads t).stack (All-weaker (IsUnderWay W t) (IsUnderWay after t) (under-way-still t) (thread_at W t).stack (all.stacked t));
        distinct = λ t. rw (still.threads t).stack (all.distinct t);
        ready = subst (λ (pool : PoolView). All (λ k. (pool_task_at pool.tasks k).condition ≡ condition.Ready) pool.ready) (sym still.pool) all.ready;
        starts = λ t. rw (still.threads t).undeferred (λ some. to-start-still t (thread_at W t).undeferred (all.starts t some));
        initial = rw (same-pooled INITIAL_TASK) all.initial;
        alone = λ k is. all.alone k (rw (← same-pooled k) is);
      }

  pub event-still : (t : ℕ) (e : Event) → EventOrderly W t e → EventOrderly after t e
  event-still t (TaskCreate task undeferred codeptr) so = record { task = to-start-still t task so.task; other = rw (still.threads t).undeferred so.other }
  event-still t (TaskEnd task) so = record { task = under-way-still t task so.task; off = rw (still.threads t).stack so.off }
  event-still t other so = tt

-- What changes one task.

-- the places of tasks in the pool's list
pub pooled-other : (tasks : List PoolTask) (k : ℕ) (now : Condition) (j : ℕ) → (j ≡ k → ⊥) → pool_task_at (with_condition tasks k now) j ≡ pool_task_at tasks j
pooled-other tasks zero now j other = refl
pooled-other tasks (suc k) now zero other = refl
pooled-other tasks (suc k) now (suc j) other =
    pool-at (with_condition tasks (suc k) now) j ∙ ap (λ (xs : List PoolTask). slice_index_or xs j no_pool_task) (pool-set tasks k (record (pool_task_at tasks (suc k)) { condition = now }))
    ∙ get_or-set_other tasks k j _ no_pool_task (λ is. other (ap suc is)) ∙ sym (pool-at tasks j)

pub pooled-same : (tasks : List PoolTask) (k : ℕ) (now : Condition) → 1 ≤ k → k ≤ length tasks → pool_task_at (with_condition tasks k now) k ≡ record (pool_task_at tasks k) { condition = now }
pooled-same tasks zero now some below = absurd (omega arith)
pooled-same tasks (suc k) now some below =
    let changed : PoolTask = record (pool_task_at tasks (suc k)) { condition = now } in
    pool-at (with_condition tasks (suc k) now) k ∙ ap (λ (xs : List PoolTask). slice_index_or xs k no_pool_task) (pool-set tasks k changed) ∙ get_or-set_same tasks k changed no_pool_task (omega arith)

pub pooled-added : (tasks : List PoolTask) (task : PoolTask) (j : ℕ) → (j ≡ length tasks + 1 → ⊥) → pool_task_at (tasks ++ task ∷ []) j ≡ pool_task_at tasks j
pooled-added tasks task zero other = refl
pooled-added tasks task (suc j) other =
    pool-at (tasks ++ task ∷ []) j ∙ elim (cases_lt j (length tasks)) [
      | inl within ↦ get_or_append_left tasks (task ∷ []) no_pool_task j within
      | inr past ↦ get_or_past (tasks ++ task ∷ []) j no_pool_task (omega (arith, length_push tasks task, other-past tasks j other)) ∙ sym (get_or_past tasks j no_pool_task past)
    ] ∙ sym (pool-at tasks j)
  where
    other-past : (tasks : List PoolTask) (j : ℕ) → (suc j ≡ length tasks + 1 → ⊥) → j ≡ length tasks → ⊥
    other-past tasks j other is = other (omega arith)

-- one task is another now, and all others are the same. What had started has, and is with the same thread
pub record Change (k : ℕ) (W after : World) : Type 0 where
  pub pool : (j : ℕ) → (j ≡ k → ⊥) → pooled_at after j ≡ pooled_at W j
  pub holders : (j : ℕ) → (j ≡ k → ⊥) → (task_at after j).thread ≡ (task_at W j).thread
  pub taken : (t j : ℕ) → WasTakenUp W t j → WasTakenUp after t j
  pub first : (pooled_at after k).kind ≡ kind.Initial → k ≡ INITIAL_TASK
  pub initial : (pooled_at after INITIAL_TASK).kind ≡ kind.Initial

module _ (k : ℕ) (W after : World) (change : Change k W after) where
  pub under-way-later : (t j : ℕ) → (j ≡ k → ⊥) → IsUnderWay W t j → IsUnderWay after t j
  under-way-later t j other one = record { started = rw (change.pool j other) one.started; thread = change.holders j other ∙ one.thread }

  pub to-start-later : (t j : ℕ) → (j ≡ k → ⊥) → IsToStart W t j → IsToStart after t j
  to-start-later t j other one =
      record { made = rw (change.pool j other) one.made; explicit = rw (change.pool j other) one.explicit; parent = rw (change.pool j other) (change.taken t (pooled_at W j).parent one.parent) }

  pub ready-later : (j : ℕ) → (j ≡ k → ⊥) → IsReady W j → IsReady after j
  ready-later j other one = rw (change.pool j other) one

-- no other thread names the task
pub record Apart (W : World) (t k : ℕ) : Type 0 where
  pub starts : (u j : ℕ) → (u ≡ t → ⊥) → IsToStart W u j → j ≡ k → ⊥
  pub stands : (u j : ℕ) → (u ≡ t → ⊥) → IsUnderWay W u j → j ≡ k → ⊥

-- what is so of the thread's own tasks afterwards
pub record Own (W : World) (t : ℕ) : Type 0 where
  pub stacked : All (IsUnderWay W t) (thread_at W t).stack
  pub distinct : Distinct (thread_at W t).stack
  pub starts : 1 ≤ (thread_at W t).undeferred → IsToStart W t (thread_at W t).undeferred

-- the tasks are orderly in the later world, and what is so of other threads' events still is
pub record OrderlyAfter (t : ℕ) (W after : World) : Type 0 where
  pub world : AreOrderly after
  pub others : (u : ℕ) → (u ≡ t → ⊥) → (e : Event) → EventOrderly W u e → EventOrderly after u e

pub after-still : (t : ℕ) (W after : World) → AreOrderly W → Still W after → OrderlyAfter t W after
after-still t W after all still = record { world = orderly-still W after still all; others = λ u other e. event-still W after still u e }

pub orderly-then : (t : ℕ) (W between after : World) → OrderlyAfter t W between → OrderlyAfter t between after → OrderlyAfter t W after
orderly-then t W between after first next = record { world = next.world; others = λ u other e so. next.others u other e (first.others u other e so) }

-- a fact of each thread, from the thread's own and that of others
each-thread : (P : ℕ → Type 0) (t : ℕ) → P t → ((u : ℕ) → (u ≡ t → ⊥) → P u) → (u : ℕ) → P u
each-thread P t own others u = elim (cases_eq u t) [ inl is ↦ subst P (sym is) own | inr other ↦ others u other ]

-- one task is changed, and one thread: what is so of the others
module _ (t k : ℕ) (W after : World) (all : AreOrderly W) (change : Change k W after) (apart : Apart W t k) (threads : (u : ℕ) → (u ≡ t → ⊥) → thread_at after u ≡ thread_at W u) where
  other-event : (u : ℕ) → (u ≡ t → ⊥) → (e : Event) → EventOrderly W u e → EventOrderly after u e
  other-event u other (TaskCreate task undeferred codeptr) so =
      record { task = to-start-later k W after change u task (apart.starts u task other so.task) so.task; other = rw (threads u other) so.other }
  other-event u other (TaskEnd task) so =
      record { task = under-way-later k W after change u task (apart.stands u task other so.task) so.task; off = rw (threads u other) so.off }
  other-event u other e so = tt

  pub orderly-change : Own after t → All (IsReady after) after.pool.ready → OrderlyAfter t W after
  orderly-change own ready =
      record {
        world = record {
          stacked = each-thread (λ u. All (IsUnderWay after u) (thread_at after u).stack) t own.stacked (λ u other. rw (threads u other) (All-weaker (IsUnderWay W u) (IsUnderWay after u) (λ j one. under-way-later k W after change u j (apart.stands u j other one) one) (thread_at W u).stack (all.stacked u)));
          distinct = each-thread (λ u. Distinct (thread_at after u).stack) t own.distinct (λ u other. rw (threads u other) (all.distinct u));
          ready = ready;
          starts = each-thread (λ u. 1 ≤ (thread_at after u).undeferred → IsToStart after u (thread_at after u).undeferred) t own.starts (λ u other. rw (threads u other) (λ some. let one = all.starts u some in to-start-later k W after change u (thread_at W u).undeferred (apart.starts u (thread_at W u).undeferred other one) one));
          initial = change.initial;
          alone = λ j is. elim (cases_eq j k) [ inl same ↦ same ∙ change.first (subst (λ i. (pooled_at after i).kind ≡ kind.Initial) same is) | inr other ↦ all.alone j (rw (← change.pool j other) is) ];
        };
        others = other-event;
      }

-- Why no other thread names a task.

-- two conditions that differ
pub by-condition : (W : World) (k j : ℕ) (now later : Condition) → (pooled_at W k).condition ≡ now → (pooled_at W j).condition ≡ later → (now ≡ later → ⊥) → j ≡ k → ⊥
by-condition W k j now later at other differ is = differ (sym at ∙ ap (λ i. (pooled_at W i).condition) (sym is) ∙ other)

-- it is to start on this thread
pub apart-to-start : (W : World) (t k : ℕ) → IsToStart W t k → Apart W t k
apart-to-start W t k one =
    record {
      starts = λ u j other it is. other (sym it.parent.thread ∙ ap (λ i. (task_at W (pooled_at W i).parent).thread) is ∙ one.parent.thread);
      stands = λ u j other it is. by-condition W k j condition.Made condition.Started one.made it.started (λ same. cc) is;
    }

-- it is under way on this thread
pub apart-under-way : (W : World) (t k : ℕ) → IsUnderWay W t k → Apart W t k
apart-under-way W t k one =
    record {
      starts = λ u j other it is. by-condition W k j condition.Started condition.Made one.started it.made (λ same. cc) is;
      stands = λ u j other it is. other (sym it.thread ∙ ap (λ i. (task_at W i).thread) is ∙ one.thread);
    }

-- it is ready, or has finished
pub apart-ready : (W : World) (t k : ℕ) → IsReady W k → Apart W t k
apart-ready W t k one =
    record {
      starts = λ u j other it is. by-condition W k j condition.Ready condition.Made one it.made (λ same. cc) is;
      stands = λ u j other it is. by-condition W k j condition.Ready condition.Started one it.started (λ same. cc) is;
    }

pub apart-finished : (W : World) (t k : ℕ) → (pooled_at W k).condition ≡ condition.Finished → Apart W t k
apart-finished W t k one =
    record {
      starts = λ u j other it is. by-condition W k j condition.Finished condition.Made one it.made (λ same. cc) is;
      stands = λ u j other it is. by-condition W k j condition.Finished condition.Started one it.started (λ same. cc) is;
    }

-- no construct made it, and it hasn't started
pub apart-implicit : (W : World) (t k : ℕ) → (pooled_at W k).condition ≡ condition.Made → is_explicit (pooled_at W k).kind ≡ false → Apart W t k
apart-implicit W t k one implicit =
    record {
      starts = λ u j other it is. true≢false (sym it.explicit ∙ ap (λ i. is_explicit (pooled_at W i).kind) is ∙ implicit);
      stands = λ u j other it is. by-condition W k j condition.Made condition.Started one it.started (λ same. cc) is;
    }
