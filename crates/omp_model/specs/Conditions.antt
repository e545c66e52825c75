-- How far the tasks have come that threads name: what is on a stack is under way, what is in the ready order is ready, and what a thread is to start
-- was only made.
use Rattle.std.specs.Prelude.{◌≡◌, ℕ, ◌≤◌, Bool, true, false, List, [], ◌∷◌, All, Option, Some, None}
use Rattle.task_pool.specs.declared.task.Condition.{Condition}
use Rattle.task_pool.specs.declared.task.Condition.TheVariants as condition
use Rattle.task_pool.specs.declared.task.TaskKind.TheVariants as kind
use Rattle.task_pool.specs.Tasks.{is_explicit}
use Rattle.task_pool.specs.View.{with_finished, with_ready, with_started}
use Rattle.omp_model.specs.declared.limits.TheConstants.{INITIAL_TASK}
use Rattle.omp_model.specs.declared.event.Callback.{Callback}
use Rattle.omp_model.specs.declared.event.Event.{Event}
use Rattle.omp_model.specs.declared.event.Event.TheVariants.{InitialTaskBegin, InitialTaskEnd, MemberBegin, MemberEnd, TaskBegin, TaskCreate, TaskEnd}
use Rattle.omp_model.specs.State.{State, World, pending_at, pooled_at, region_at, task_at, thread_at}
use Rattle.omp_model.specs.Changes.{with_finished_task, without_current_task, with_ready_task, with_started_task, taken_up, task_made}
use Rattle.omp_model.specs.EventEffects.{member_code}
use Rattle.omp_model.specs.MadeWorld.{IsTask}

-- a task that has started, whether or not it has finished
abbrev pub has_started : Condition → Bool
has_started condition.Made = false
has_started condition.Ready = false
has_started condition.Started = true
has_started condition.Finished = true

-- a task that the thread has taken up and that hasn't finished
pub record IsUnderWay (W : World) (t k : ℕ) : Type 0 where
  pub started : (pooled_at W k).condition ≡ condition.Started
  pub thread : (task_at W k).thread ≡ t

-- a task that the thread has taken up
pub record WasTakenUp (W : World) (t k : ℕ) : Type 0 where
  pub made : IsTask W k
  pub started : has_started (pooled_at W k).condition ≡ true
  pub thread : (task_at W k).thread ≡ t

-- a task that a task of the thread's has made, and that has come no further
pub record IsToStart (W : World) (t k : ℕ) : Type 0 where
  pub made : (pooled_at W k).condition ≡ condition.Made
  pub explicit : is_explicit (pooled_at W k).kind ≡ true
  pub parent : WasTakenUp W t (pooled_at W k).parent

abbrev pub IsReady : World → ℕ → Type 0
IsReady W k = (pooled_at W k).condition ≡ condition.Ready

-- the number isn't among these; no number is there twice
abbrev pub Lacks : ℕ → List ℕ → Type 0
Lacks k ks = All (λ (other : ℕ). other ≡ k → ⊥) ks

abbrev pub Distinct : List ℕ → Type 0
Distinct [] = Unit {0}
Distinct (k ∷ ks) = Lacks k ks × Distinct ks

-- Each task on a stack is under way and stands there once; each in the ready order is ready; each undeferred one that a thread is to start was only
-- made. The one task of the kind of the initial task is that one.
pub record AreOrderly (W : World) : Type 0 where
  pub stacked : (t : ℕ) → All (IsUnderWay W t) (thread_at W t).stack
  pub distinct : (t : ℕ) → Distinct (thread_at W t).stack
  pub ready : All (IsReady W) W.pool.ready
  pub starts : (t : ℕ) → 1 ≤ (thread_at W t).undeferred → IsToStart W t (thread_at W t).undeferred
  pub initial : (pooled_at W INITIAL_TASK).kind ≡ kind.Initial
  pub alone : (k : ℕ) → (pooled_at W k).kind ≡ kind.Initial → k ≡ INITIAL_TASK

-- a task that was made, and that its thread isn't yet to start
pub record WasCreated (W : World) (t k : ℕ) : Type 0 where
  pub task : IsToStart W t k
  pub other : (thread_at W t).undeferred ≡ k → ⊥

-- a task whose code has ended: it isn't on the stack any more
pub record HasEnded (W : World) (t k : ℕ) : Type 0 where
  pub task : IsUnderWay W t k
  pub off : Lacks k (thread_at W t).stack

-- what is so of the tasks of an event that has occurred on the thread
abbrev pub EventOrderly : World → ℕ → Event → Type 0
EventOrderly W t (TaskCreate task undeferred codeptr) = WasCreated W t task
EventOrderly W t (TaskEnd task) = HasEnded W t task
EventOrderly W t other = Unit {0}

abbrev pub PendingOrderly : World → ℕ → Option Callback → Type 0
PendingOrderly W t None = Unit {0}
PendingOrderly W t (Some callback) = EventOrderly W t callback.event

pub record IsOrderly (S : State) : Type 0 where
  pub world : AreOrderly S.world
  pub pending : (t : ℕ) → PendingOrderly S.world t (pending_at S t)

-- a task becomes ready, starts and finishes, and nothing keeps it from that
abbrev pub BecomesReady : World → ℕ → Type 0
BecomesReady W k = with_ready_task W k ≡ record W { pool = with_ready W.pool k }

abbrev pub Starts : World → ℕ → Type 0
Starts W k = with_started_task W k ≡ record W { pool = with_started W.pool k }

abbrev pub Finishes : World → ℕ → Type 0
Finishes W k = with_finished_task W k ≡ record W { pool = with_finished W.pool k }

-- the world in which a member's task starts: the task was made
abbrev pub member_made : World → ℕ → World
member_made W r =
    let parent = (region_at W r).head.task in task_made W parent r kind.Implicit (member_code (task_at W parent).code)

-- what starts or finishes at the event's Go does so; what becomes ready or finishes at the Back does so
abbrev pub GoActs : World → ℕ → Event → Type 0
GoActs W t InitialTaskBegin = Starts (taken_up W t INITIAL_TASK) INITIAL_TASK
GoActs W t InitialTaskEnd = Finishes (without_current_task W t) INITIAL_TASK
GoActs W t (MemberBegin r k) = Starts (member_made W r) k
GoActs W t (MemberEnd r k) = Finishes (without_current_task W t) k
GoActs W t (TaskBegin prior task) = Starts (taken_up W t task) task
GoActs W t other = Unit {0}

abbrev pub BackActs : World → Event → Type 0
BackActs W (TaskCreate task false codeptr) = BecomesReady W task
BackActs W (TaskEnd task) = Finishes W task
BackActs W other = Unit {0}
