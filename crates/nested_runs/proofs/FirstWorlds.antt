-- The threads and tasks of the world in which a run begins.
use Rattle.std.proofs.Common.{ℕ, zero, suc, ◌≡◌, ◌-◌, [], ◌∷◌, replicate, slice_index_or, refl, sym, ap, subst, arith}
use Rattle.std.specs.Prelude.{None, option_map}
use Rattle.std.proofs.lemmas.Bool.{ne_eqb}
use Rattle.std.proofs.lemmas.List.{get_or_past}
use Rattle.c_model.specs.Begin.{main_task}
use Rattle.task_pool.specs.declared.task.Task.{Task as PoolTask}
use Rattle.task_pool.specs.declared.task.TaskKind.TheVariants as kind
use Rattle.task_pool.specs.Tasks.{no_task as no_pooled}
use Rattle.task_pool.specs.View.{fresh_task}
use Rattle.omp_model.specs.State.{Run, Task, Thread, first, first_world, initial_thread, no_task, pooled_at, task_at, task_with, thread_at, unmade}
use Rattle.nested_runs.proofs.Recorded.{event_in, inside}

-- a list of one value gives it at each place, where it stands for what is past the end too
pub replicated : {X : Type 0} (value : X) (count i : ℕ) → slice_index_or (replicate count value) i value ≡ value
replicated value zero i = refl
replicated value (suc count) zero = refl
replicated value (suc count) (suc i) = replicated value count i

-- what is so of the initial thread and of threads that weren't made
pub first-threads : (run : Run) (P : Thread → Type 0) → P initial_thread → P unmade → (t : ℕ) → P (thread_at (first_world run) t)
first-threads run P initial others zero = initial
first-threads run P initial others (suc u) = subst P (sym (replicated unmade (run.threads - 1) u)) others

-- no thread is inside a callback
pub first-inside : (run : Run) (t : ℕ) → inside (first run) t ≡ None
first-inside run t = ap (option_map event_in) (replicated None run.threads t)

-- what is so of the initial task and where there is no task
pub first-tasks : (run : Run) (P : Task → Type 0) → P no_task → P (task_with (main_task run.program)) → (k : ℕ) → P (task_at (first_world run) k)
first-tasks run P none initial zero = none
first-tasks run P none initial (suc zero) = initial
first-tasks run P none initial (suc (suc k)) = none

pub first-pooled : (run : Run) (P : PoolTask → Type 0) → P no_pooled → P (fresh_task 0 1 kind.Initial) → (k : ℕ) → P (pooled_at (first_world run) k)
first-pooled run P none initial zero = none
first-pooled run P none initial (suc zero) = initial
first-pooled run P none initial (suc (suc k)) =
    let past : pooled_at (first_world run) (suc (suc k)) ≡ no_pooled =
    rw (ne_eqb (suc (suc k)) 0 (λ is. omega (arith, is)), get_or_past (fresh_task 0 1 kind.Initial ∷ []) (suc (suc k) - 1) no_pooled (omega arith)) refl in
    subst P (sym past) none
