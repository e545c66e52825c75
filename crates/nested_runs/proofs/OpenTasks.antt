-- Where no explicit task of a region is unfinished, none is after an event, unless one is created.
use Rattle.std.proofs.Common.{ℕ, ◌≡◌, ◌==◌, ◌&&◌, not, Bool, true, false, if◌then◌else◌, refl, sym, ap, ◌∙◌, inl, inr, arith}
use Rattle.std.proofs.lemmas.Bool.{and_right, eqb-true}
use Rattle.task_pool.specs.declared.task.Condition.TheVariants as condition
use Rattle.task_pool.specs.declared.task.Task.{Task as PoolTask}
use Rattle.task_pool.specs.Tasks.{is_explicit, is_finished, is_open}
use Rattle.omp_model.specs.declared.limits.TheConstants.{INITIAL_TASK}
use Rattle.omp_model.specs.declared.event.Event.{Event}
use Rattle.omp_model.specs.declared.event.Event.TheVariants.{InitialTaskBegin, InitialTaskEnd, MemberBegin, MemberEnd, TaskBegin, TaskCreate, TaskEnd}
use Rattle.omp_model.specs.State.{World, pooled_at}
use Rattle.omp_model.specs.Members.{current_region}
use Rattle.omp_model.specs.Conditions.{AreOrderly, EventOrderly}
use Rattle.omp_model.proofs.Touching.{Returns, come_to, pooled_after, pooled_back}
use Rattle.nested_runs.proofs.Coming.{Comes, ComesToTask}
use Rattle.nested_runs.proofs.Touching.{Touches}
use Rattle.nested_runs.proofs.Known.{HasNoTasks}

-- a task that starts, or becomes ready, is as unfinished as it was
started-open : (task : PoolTask) → is_finished task.condition ≡ false → is_open (come_to task condition.Started) ≡ is_open task
started-open task unfinished = ap (λ b. is_explicit task.kind && not b) (sym unfinished)

ready-open : (task : PoolTask) → is_finished task.condition ≡ false → is_open (come_to task condition.Ready) ≡ is_open task
ready-open task unfinished = ap (λ b. is_explicit task.kind && not b) (sym unfinished)

-- a finished one is not unfinished
finished-shut : (task : PoolTask) → is_open (come_to task condition.Finished) ≡ false
finished-shut task = and_right (is_explicit task.kind) false refl

-- of a task that the event may have changed
either-shut : (is : Bool) (task other : PoolTask) (q : ℕ) → (is ≡ true → other.region ≡ q → is_open other ≡ false) → (task.region ≡ q → is_open task ≡ false) →
    (if is then other else task).region ≡ q → is_open (if is then other else task) ≡ false
either-shut true task other q new old = new refl
either-shut false task other q new old = old

-- a task that is taken up hasn't finished
pub picks-unfinished : (W : World) (t prior k : ℕ) → AreOrderly W → ComesToTask W t prior k → is_finished (pooled_at W k).condition ≡ false
picks-unfinished W t prior k orderly comes =
    elim comes.picks [
      | inl ready ↦ ap is_finished ready.ready
      | inr own ↦
          let made = (orderly.starts t (omega (arith, own.task, comes.some))).made in
          ap (λ j. is_finished (pooled_at W j).condition) (sym own.task) ∙ ap is_finished made
    ]

-- the event creates no task of the region
abbrev pub CreatesNone : World → ℕ → Event → ℕ → Type 0
CreatesNone W t (TaskCreate task undeferred codeptr) q = current_region W t ≡ q → ⊥
CreatesNone W t other q = Unit {0}

-- a region with no unfinished explicit task, after a Go and after a Back
module _ (W : World) (t q : ℕ) (orderly : AreOrderly W) (none : HasNoTasks W q) where
  pooled-shut : (e : Event) (k : ℕ) → Comes W t e → CreatesNone W t e q → (pooled_after W t e k).region ≡ q → is_open (pooled_after W t e k) ≡ false
  pooled-shut InitialTaskBegin k comes creates =
      either-shut (k == INITIAL_TASK) (pooled_at W k) _ q
      (λ is region. started-open (pooled_at W k) (ap (λ j. is_finished (pooled_at W j).condition) (eqb-true k INITIAL_TASK is) ∙ ap is_finished comes.made)
      ∙ none k region)
      (none k)
  pooled-shut InitialTaskEnd k comes creates = either-shut (k == INITIAL_TASK) (pooled_at W k) _ q (λ is region. finished-shut (pooled_at W k)) (none k)
  pooled-shut (MemberBegin r task) k comes creates = either-shut (k == task) (pooled_at W k) _ q (λ is region. refl) (none k)
  pooled-shut (MemberEnd r task) k comes creates = either-shut (k == task) (pooled_at W k) _ q (λ is region. finished-shut (pooled_at W k)) (none k)
  pooled-shut (TaskCreate task undeferred codeptr) k comes creates = either-shut (k == task) (pooled_at W k) _ q (λ is region. absurd (creates region)) (none k)
  pooled-shut (TaskBegin prior task) k comes creates =
      either-shut (k == task) (pooled_at W k) _ q
      (λ is region. started-open (pooled_at W k) (ap (λ j. is_finished (pooled_at W j).condition) (eqb-true k task is)
      ∙ picks-unfinished W t prior task orderly comes) ∙ none k region)
      (none k)
  pooled-shut other k comes creates = none k

  pub no-tasks-go : (after : World) (e : Event) → Comes W t e → CreatesNone W t e q → Touches W after t e → HasNoTasks after q
  no-tasks-go after e comes creates touches k region =
      ap (λ (task : PoolTask). is_open task) (touches.world.pooled k)
      ∙ pooled-shut e k comes creates (ap (λ (task : PoolTask). task.region) (sym (touches.world.pooled k)) ∙ region)

  back-shut : (e : Event) (k : ℕ) → EventOrderly W t e → (pooled_back W e k).region ≡ q → is_open (pooled_back W e k) ≡ false
  back-shut (TaskCreate task false codeptr) k named =
      either-shut (k == task) (pooled_at W k) _ q
      (λ is region. ready-open (pooled_at W k) (ap (λ j. is_finished (pooled_at W j).condition) (eqb-true k task is) ∙ ap is_finished named.task.made)
      ∙ none k region)
      (none k)
  back-shut (TaskEnd task) k named = either-shut (k == task) (pooled_at W k) _ q (λ is region. finished-shut (pooled_at W k)) (none k)
  back-shut other k named = none k

  pub no-tasks-back : (after : World) (e : Event) → EventOrderly W t e → Returns W after t e → HasNoTasks after q
  no-tasks-back after e named returns k region =
      ap (λ (task : PoolTask). is_open task) (returns.pooled k)
      ∙ back-shut e k named (ap (λ (task : PoolTask). task.region) (sym (returns.pooled k)) ∙ region)
