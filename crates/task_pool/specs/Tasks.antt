-- The list of the tasks of a run, by identity, and what is counted in it.
use Rattle.std.specs.Prelude.{◌≡◌, ℕ, ◌-◌, ◌≤◌, ◌==◌, ◌&&◌, not, Bool, true, false, if◌then◌else◌, List, [], ◌∷◌, length, count_by, slice_index_or, slice_set}
use Rattle.task_pool.specs.declared.task.Task.{Task}
use Rattle.task_pool.specs.declared.task.TaskKind.{TaskKind}
use Rattle.task_pool.specs.declared.task.TaskKind.TheVariants as kind
use Rattle.task_pool.specs.declared.task.Condition.{Condition}
use Rattle.task_pool.specs.declared.task.Condition.TheVariants as condition

-- what is read where there is no task
abbrev pub no_task : Task
no_task = record { parent = 0; region = 0; kind = kind.Implicit; condition = condition.Finished }

-- the task with this identity, counted from 1
abbrev pub task_at : List Task → ℕ → Task
task_at tasks task = if task == 0 then no_task else slice_index_or tasks (task - 1) no_task

-- one task is changed
abbrev pub with_task : List Task → ℕ → Task → List Task
with_task tasks task changed = if task == 0 then tasks else slice_set tasks (task - 1) changed

-- the task has come so far
abbrev pub with_condition : List Task → ℕ → Condition → List Task
with_condition tasks task condition = with_task tasks task (record (task_at tasks task) { condition = condition })

abbrev pub IsMade : List Task → ℕ → Type 0
IsMade tasks task = (1 ≤ task) × (task ≤ length tasks)

-- the first task has no parent, and every other one has a parent that was made
abbrev pub MayBeParent : List Task → ℕ → Type 0
MayBeParent [] parent = parent ≡ 0
MayBeParent (first ∷ others) parent = IsMade (first ∷ others) parent

-- a task construct made the task
abbrev pub is_explicit : TaskKind → Bool
is_explicit kind.Initial = false
is_explicit kind.Implicit = false
is_explicit kind.Explicit = true
is_explicit kind.Undeferred = true

abbrev pub is_ready : Condition → Bool
is_ready condition.Made = false
is_ready condition.Ready = true
is_ready condition.Started = false
is_ready condition.Finished = false

abbrev pub is_finished : Condition → Bool
is_finished condition.Made = false
is_finished condition.Ready = false
is_finished condition.Started = false
is_finished condition.Finished = true

-- an explicit task that hasn't finished
abbrev pub is_open : Task → Bool
is_open task = is_explicit task.kind && not (is_finished task.condition)

abbrev pub is_open_child : ℕ → Task → Bool
is_open_child parent task = task.parent == parent && is_open task

abbrev pub is_open_in : ℕ → Task → Bool
is_open_in region task = task.region == region && is_open task

-- how many explicit children of the task are unfinished. 0 is no task, and has no children
abbrev pub open_children : List Task → ℕ → ℕ
open_children tasks task = if task == 0 then 0 else count_by (is_open_child task) tasks

-- how many explicit tasks of the region are unfinished
abbrev pub unfinished : List Task → ℕ → ℕ
unfinished tasks region = count_by (is_open_in region) tasks
