-- The list of tasks where the condition of one has changed.
use Rattle.std.proofs.Common.{◌≡◌, ◌≢◌, ℕ, ◌-◌, ◌<◌, ◌≤◌, ◌∙◌, ◌==◌, List, length, filter, map, refl, sym, ap, subst, inl, inr, arith}
use Rattle.std.proofs.lemmas.Bool.{cases_eq, cases_lt, eq-eqb, ne_eqb}
use Rattle.std.proofs.lemmas.List.{length-set, get_or-set_same, get_or-set_other, get_or_past}
use Rattle.std.proofs.Math.ListN.{get_or-map}
use Rattle.std.proofs.Math.Path.{fun_ext}
use Rattle.task_pool.specs.declared.task.Task.{Task}
use Rattle.task_pool.specs.declared.task.Condition.{Condition}
use Rattle.task_pool.specs.declared.task.Condition.TheVariants as condition
use Rattle.task_pool.specs.declared.node.Node.{Node}
use Rattle.task_pool.specs.Tasks.{task_at, no_task, with_condition}
use Rattle.task_pool.specs.Chain.{node_at, no_node}
use Rattle.task_pool.specs.Links.{region_in, part_of, task_of}

pub task_at-past : (tasks : List Task) (task : ℕ) → length tasks < task → task_at tasks task ≡ no_task
task_at-past tasks task past = rw (ne_eqb task 0 (λ none. omega arith)) (get_or_past tasks (task - 1) no_task (omega arith))

-- a task whose condition isn't that of no task was made
pub made-unfinished : (tasks : List Task) (task : ℕ) → (task_at tasks task).condition ≢ condition.Finished → (1 ≤ task) × (task ≤ length tasks)
made-unfinished tasks task unfinished = elim (cases_eq task 0) [
  | inl none ↦ absurd (unfinished (subst (λ (one : ℕ). (task_at tasks one).condition ≡ condition.Finished) (sym none) refl))
  | inr some ↦ elim (cases_lt (length tasks) task) [
    | inl past ↦ absurd (unfinished (ap (λ (one : Task). one.condition) (task_at-past tasks task past)))
    | inr within ↦ (omega arith, within)
  ]
]

pub node-task : (nodes : List Node) (task : ℕ) → (node_at nodes task).task ≡ task_at (map task_of nodes) task
node-task nodes task = elim (cases_eq task 0) [
  | inl none ↦ rw (eq-eqb task 0 none) refl
  | inr some ↦ rw (ne_eqb task 0 some) (sym (get_or-map task_of nodes (task - 1) no_node))
]

pub changed-other : (tasks : List Task) (task other : ℕ) (condition : Condition) → other ≢ task → task_at (with_condition tasks task condition) other ≡ task_at tasks other
changed-other tasks task other condition apart = elim (cases_eq task 0) [
  | inl none ↦ rw (eq-eqb task 0 none) refl
  | inr some ↦ rw (ne_eqb task 0 some) (elim (cases_eq other 0) [
    | inl nowhere ↦ rw (eq-eqb other 0 nowhere) refl
    | inr somewhere ↦ rw (ne_eqb other 0 somewhere)
        (get_or-set_other tasks (task - 1) (other - 1) _ no_task (λ (same : other - 1 ≡ task - 1). apart (omega arith)))
  ])
]

pub changed-here : (tasks : List Task) (task : ℕ) (condition : Condition) → 1 ≤ task → task ≤ length tasks → task_at (with_condition tasks task condition) task ≡ record (task_at tasks task) { condition = condition }
changed-here tasks task condition above within =
    let some : task ≢ 0 = λ none. omega arith in
    let place : task - 1 < length tasks = omega arith in
    rw (ne_eqb task 0 some) (get_or-set_same tasks (task - 1) _ no_task place)

pub changed-length : (tasks : List Task) (task : ℕ) (condition : Condition) → length (with_condition tasks task condition) ≡ length tasks
changed-length tasks task condition = elim (cases_eq task 0) [
  | inl none ↦ rw (eq-eqb task 0 none) refl
  | inr some ↦ rw (ne_eqb task 0 some) (length-set tasks (task - 1) _)
]

-- what the change keeps of each task
pub changed-keeps : {X : Type 0} (part : Task → X) (tasks : List Task) (task : ℕ) (condition : Condition) → 1 ≤ task → task ≤ length tasks → part (record (task_at tasks task) { condition = condition }) ≡ part (task_at tasks task) → (other : ℕ) → part (task_at (with_condition tasks task condition) other) ≡ part (task_at tasks other)
changed-keeps part tasks task condition above within keeps other = elim (cases_eq other task) [
  | inl same ↦ subst (λ (one : ℕ). part (task_at (with_condition tasks task condition) one) ≡ part (task_at tasks one)) (sym same) (ap part (changed-here tasks task condition above within) ∙ keeps)
  | inr apart ↦ ap part (changed-other tasks task other condition apart)
]

abbrev region_of : Task → ℕ
region_of task = task.region

pub changed-part : (tasks : List Task) (task : ℕ) (condition : Condition) (ready : List ℕ) (region : ℕ) → 1 ≤ task → task ≤ length tasks → part_of (with_condition tasks task condition) ready region ≡ part_of tasks ready region
changed-part tasks task condition ready region above within =
    let was : ℕ → ℕ = λ other. region_in tasks other in
    let is : ℕ → ℕ = λ other. region_in (with_condition tasks task condition) other in
    let same : is ≡ was = fun_ext (changed-keeps region_of tasks task condition above within refl) in
    ap (λ (regions : ℕ → ℕ). filter (λ (other : ℕ). regions other == region) ready) same
