-- What the pool has of a task that was made stays through an event, but for its condition, and where no task was made there is nothing.
use Rattle.std.proofs.Common.{ℕ, zero, suc, ◌≡◌, ◌≢◌, ◌≤◌, ◌+◌, ◌==◌, Bool, true, false, if◌then◌else◌, List, [], ◌∷◌, length, slice_index_or, refl, sym, ap, ◌∙◌, subst, inl, inr, arith}
use Rattle.std.specs.Prelude.{All}
use Rattle.std.proofs.lemmas.Bool.{cases_eq, eq-eqb, ne_eqb, true≢false}
use Rattle.std.proofs.lemmas.List.{get_or_past}
use Rattle.task_pool.specs.declared.task.Condition.{Condition}
use Rattle.task_pool.specs.declared.task.Condition.TheVariants as condition
use Rattle.task_pool.specs.declared.task.Task.{Task as PoolTask}
use Rattle.task_pool.specs.Tasks.{no_task as no_pooled, task_at as pool_task_at}
use Rattle.omp_model.specs.declared.event.Event.{Event}
use Rattle.omp_model.specs.declared.event.Event.TheVariants.{InitialTaskBegin, InitialTaskEnd, MemberBegin, MemberEnd, ParallelBegin, TaskBegin, TaskCreate, TaskEnd, ThreadEnd}
use Rattle.omp_model.specs.declared.limits.TheConstants.{INITIAL_TASK}
use Rattle.omp_model.specs.State.{Thread, World, no_task, pooled_at, task_at, thread_at}
use Rattle.omp_model.specs.Conditions.{AreOrderly, IsUnderWay, has_started}
use Rattle.omp_model.specs.MadeWorld.{IsMadeWorld, IsTaskOf}
use Rattle.omp_model.specs.Members.{current}
use Rattle.omp_model.proofs.Touching.{come_to, is_summoned, pooled_after, pooled_back, tasks_after, thread_back}
use Rattle.omp_model.proofs.MadeWords.{pool-at}
use Rattle.nested_runs.proofs.Coming.{Comes}

-- ---- where no task was made

-- a list of tasks ends
nothing-past : (tasks : List PoolTask) (k : ℕ) → length tasks + 1 ≤ k → pool_task_at tasks k ≡ no_pooled
nothing-past tasks zero past = refl
nothing-past tasks (suc k) past = pool-at tasks k ∙ get_or_past tasks k no_pooled (omega (arith, past))

-- nothing is read there
pub unmade-pooled : (W : World) → IsMadeWorld W → (k : ℕ) → length W.tasks ≤ k → pooled_at W k ≡ no_pooled
unmade-pooled W made k past = nothing-past W.pool.tasks k (omega (arith, made.pooled, past))

pub unmade-task : (W : World) (k : ℕ) → length W.tasks ≤ k → task_at W k ≡ no_task
unmade-task W k past = get_or_past W.tasks k no_task past

-- ---- one of two

-- what is so of both is so of the one that is chosen
pub by-case : {X : Type 0} (P : X → Type 0) (k task : ℕ) (one other : X) → (k ≡ task → P one) → P other → P (if k == task then one else other)
by-case P k task one other first second =
    elim (cases_eq k task) [ inl is ↦ rw (eq-eqb k task is) (first is) | inr apart ↦ rw (ne_eqb k task apart) second ]

-- ---- what stays

pub record SameTask (task after : PoolTask) : Type 0 where
  pub parent : after.parent ≡ task.parent
  pub region : after.region ≡ task.region
  pub kind : after.kind ≡ task.kind

same-task : (task : PoolTask) → SameTask task task
same-task task = record { parent = refl; region = refl; kind = refl }

come-same : (task : PoolTask) (now : Condition) → SameTask task (come_to task now)
come-same task now = record { parent = refl; region = refl; kind = refl }

-- the task that starts hasn't started
abbrev pub Starting : World → Event → Type 0
Starting W (TaskBegin prior task) = has_started (pooled_at W task).condition ≡ false
Starting W other = Unit {0}

-- how far a task has come
unlike : {now : Condition} → now ≡ condition.Finished → now ≡ condition.Made → ⊥
unlike finished made = cc

unstarted : {now : Condition} → has_started now ≡ false → now ≡ condition.Finished → ⊥
unstarted before finished = true≢false (ap has_started (sym finished) ∙ before)

module _ (W : World) (t : ℕ) where
  -- each task but the one that is made
  pub same-pooled : (e : Event) → Comes W t e → (k : ℕ) → k ≢ length W.tasks → SameTask (pooled_at W k) (pooled_after W t e k)
  same-pooled InitialTaskBegin comes k other = by-case (SameTask (pooled_at W k)) k INITIAL_TASK _ _ (λ is. come-same _ _) (same-task _)
  same-pooled InitialTaskEnd comes k other = by-case (SameTask (pooled_at W k)) k INITIAL_TASK _ _ (λ is. come-same _ _) (same-task _)
  same-pooled (MemberBegin r task) comes k other = by-case (SameTask (pooled_at W k)) k task _ _ (λ is. absurd (other (is ∙ comes.task))) (same-task _)
  same-pooled (MemberEnd r task) comes k other = by-case (SameTask (pooled_at W k)) k task _ _ (λ is. come-same _ _) (same-task _)
  same-pooled (TaskCreate task undeferred codeptr) comes k other =
      by-case (SameTask (pooled_at W k)) k task _ _ (λ is. absurd (other (is ∙ comes.1))) (same-task _)
  same-pooled (TaskBegin prior task) comes k other = by-case (SameTask (pooled_at W k)) k task _ _ (λ is. come-same _ _) (same-task _)
  same-pooled e comes k other = same-task _

  -- a task that has started has started still
  pub started-stays : (e : Event) → Comes W t e → (k : ℕ) → k ≢ length W.tasks → has_started (pooled_at W k).condition ≡ true →
      has_started (pooled_after W t e k).condition ≡ true
  started-stays InitialTaskBegin comes k other started = by-case (λ (p : PoolTask). has_started p.condition ≡ true) k INITIAL_TASK _ _ (λ is. refl) started
  started-stays InitialTaskEnd comes k other started = by-case (λ (p : PoolTask). has_started p.condition ≡ true) k INITIAL_TASK _ _ (λ is. refl) started
  started-stays (MemberBegin r task) comes k other started = by-case (λ (p : PoolTask). has_started p.condition ≡ true) k task _ _ (λ is. refl) started
  started-stays (MemberEnd r task) comes k other started = by-case (λ (p : PoolTask). has_started p.condition ≡ true) k task _ _ (λ is. refl) started
  started-stays (TaskCreate task undeferred codeptr) comes k other started =
      by-case (λ (p : PoolTask). has_started p.condition ≡ true) k task _ _ (λ is. absurd (other (is ∙ comes.1))) started
  started-stays (TaskBegin prior task) comes k other started = by-case (λ (p : PoolTask). has_started p.condition ≡ true) k task _ _ (λ is. refl) started
  started-stays e comes k other started = started

  -- and one that has finished stays so, where what starts hasn't
  pub finished-stays : (e : Event) → Comes W t e → Starting W e → (k : ℕ) → k ≢ length W.tasks → (pooled_at W k).condition ≡ condition.Finished →
      (pooled_after W t e k).condition ≡ condition.Finished
  finished-stays InitialTaskBegin comes starting k other finished =
      by-case (λ (p : PoolTask). p.condition ≡ condition.Finished) k INITIAL_TASK _ _
      (λ is. absurd (unlike (ap (λ i. (pooled_at W i).condition) (sym is) ∙ finished) comes.made)) finished
  finished-stays InitialTaskEnd comes starting k other finished =
      by-case (λ (p : PoolTask). p.condition ≡ condition.Finished) k INITIAL_TASK _ _ (λ is. refl) finished
  finished-stays (MemberBegin r task) comes starting k other finished =
      by-case (λ (p : PoolTask). p.condition ≡ condition.Finished) k task _ _ (λ is. absurd (other (is ∙ comes.task))) finished
  finished-stays (MemberEnd r task) comes starting k other finished =
      by-case (λ (p : PoolTask). p.condition ≡ condition.Finished) k task _ _ (λ is. refl) finished
  finished-stays (TaskCreate task undeferred codeptr) comes starting k other finished =
      by-case (λ (p : PoolTask). p.condition ≡ condition.Finished) k task _ _ (λ is. absurd (other (is ∙ comes.1))) finished
  finished-stays (TaskBegin prior task) comes starting k other finished =
      by-case (λ (p : PoolTask). p.condition ≡ condition.Finished) k task _ _
      (λ is. absurd (unstarted starting (ap (λ i. (pooled_at W i).condition) (sym is) ∙ finished))) finished
  finished-stays e comes starting k other finished = finished

-- the same through its Back
pub same-back : (W : World) (e : Event) (k : ℕ) → SameTask (pooled_at W k) (pooled_back W e k)
same-back W (TaskCreate task false codeptr) k = by-case (SameTask (pooled_at W k)) k task _ _ (λ is. come-same _ _) (same-task _)
same-back W (TaskCreate task true codeptr) k = same-task _
same-back W (TaskEnd task) k = by-case (SameTask (pooled_at W k)) k task _ _ (λ is. come-same _ _) (same-task _)
same-back W e k = same-task _

-- how many tasks there are
pub tasks-grow : (e : Event) (count : ℕ) → count ≤ tasks_after e count
tasks-grow (MemberBegin r k) count = omega arith
tasks-grow (TaskCreate task undeferred codeptr) count = omega arith
tasks-grow e count = omega arith

pub tasks-few : (e : Event) (count : ℕ) → tasks_after e count ≤ count + 1
tasks-few (MemberBegin r k) count = omega arith
tasks-few (TaskCreate task undeferred codeptr) count = omega arith
tasks-few e count = omega arith

-- ---- the current task of a thread

-- what is so of all on a stack is so of the first one
first-of : (P : ℕ → Type 0) (stack : List ℕ) → All P stack → 1 ≤ slice_index_or stack 0 0 → P (slice_index_or stack 0 0)
first-of P [] all some = absurd (omega (arith, some))
first-of P (k ∷ rest) all some = all zero 0 (omega arith)

module _ (W : World) (t : ℕ) where
  -- it is under way, and was made
  pub current-under-way : AreOrderly W → 1 ≤ current W t → IsUnderWay W t (current W t)
  current-under-way orderly some = first-of (IsUnderWay W t) (thread_at W t).stack (orderly.stacked t) some

  pub current-made : IsMadeWorld W → 1 ≤ current W t → IsTaskOf W t (current W t)
  current-made made some = first-of (IsTaskOf W t) (thread_at W t).stack (made.threads t).stacked some

-- that of another thread is another one
pub apart : (W : World) → AreOrderly W → (t u : ℕ) → 1 ≤ current W u → current W u ≡ current W t → u ≡ t
apart W orderly t u some same =
    sym (current-under-way W u orderly some).thread ∙
    (ap (λ k. (task_at W k).thread) same ∙ (current-under-way W t orderly (subst (λ k. 1 ≤ k) same some)).thread)

-- where a thread has the same stack it has the same current task
pub current-same : (W after : World) (t : ℕ) → (thread_at after t).stack ≡ (thread_at W t).stack → current after t ≡ current W t
current-same W after t same = ap (λ stack. slice_index_or stack 0 0) same

-- a Back leaves all stacks
either-stack : (which : Bool) (one other : Thread) → one.stack ≡ other.stack → (if which then one else other).stack ≡ other.stack
either-stack true one other is = is
either-stack false one other is = refl

pub back-stack : (W : World) (t : ℕ) (e : Event) (u : ℕ) → (thread_back W t e u).stack ≡ (thread_at W u).stack
back-stack W t ThreadEnd u = either-stack (u == t) _ _ refl
back-stack W t (ParallelBegin r requested codeptr) u = either-stack (is_summoned W t r u) _ _ refl
back-stack W t (TaskCreate task true codeptr) u = either-stack (u == t) _ _ refl
back-stack W t (TaskCreate task false codeptr) u = refl
back-stack W t e u = refl
