-- Which ready task a thread starts next: the newest one of its region that descends from every task that it holds
-- (OpenMP 5.2, 12.9, task scheduling constraints).
use Rattle.std.specs.Prelude.{ℕ, zero, suc, ◌≤◌, ◌<◌, ◌==◌, ◌&&◌, ◌||◌, Bool, false, if◌then◌else◌, List, [], ◌∷◌, length, Option, Some, None}
use Rattle.std.specs.List.{list_all}
use Rattle.task_pool.specs.declared.task.Task.{Task}
use Rattle.task_pool.specs.Tasks.{task_at}

abbrev pub parent_of : List Task → ℕ → ℕ
parent_of tasks task = (task_at tasks task).parent

-- the other one is met among the task's parent, its parent's parent and so on, so many of them
unfoldable pub descends_within : List Task → ℕ → ℕ → ℕ → Bool
descends_within tasks zero task from = false
descends_within tasks (suc further) task from =
    parent_of tasks task == from || descends_within tasks further (parent_of tasks task) from

-- a task descends from its parent, and from each task that its parent descends from. A parent has a lesser identity
-- than its children, so there are no more ancestors than the task's identity says
abbrev pub descends : List Task → ℕ → ℕ → Bool
descends tasks task from = descends_within tasks task task from

abbrev pub descends_from_all : List Task → ℕ → List ℕ → Bool
descends_from_all tasks task held = list_all (descends tasks task) held

abbrev pub is_allowed : List Task → ℕ → List ℕ → ℕ → Bool
is_allowed tasks region held task = (task_at tasks task).region == region && descends_from_all tasks task held

-- the later of two, where there is a later one
abbrev pub later_of : Option ℕ → Option ℕ → Option ℕ
later_of earlier None = earlier
later_of earlier (Some later) = Some later

-- the last of these that the test picks
unfoldable pub last_where : (ℕ → Bool) → List ℕ → Option ℕ
last_where test [] = None
last_where test (first ∷ others) = later_of (if test first then Some first else None) (last_where test others)

abbrev pub newest_allowed : List Task → List ℕ → ℕ → List ℕ → Option ℕ
newest_allowed tasks ready region held = last_where (is_allowed tasks region held) ready

-- the same as a relation, a line for each way in which a task descends from another one
pub data Descends (tasks : List Task) : ℕ → ℕ → Type 0 where
  FromParent : (task : ℕ) → 1 ≤ task → task ≤ length tasks → Descends tasks task (parent_of tasks task)
  FromAbove : (task from : ℕ) → 1 ≤ task → task ≤ length tasks → Descends tasks (parent_of tasks task) from →
      Descends tasks task from

-- each task was made after its parent
abbrev pub ParentsComeFirst : List Task → Type 0
ParentsComeFirst tasks = (task : ℕ) → 1 ≤ task → parent_of tasks task < task
