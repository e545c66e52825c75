-- What a walk up the parents of a task comes to.
use Rattle.std.specs.Prelude.{◌≡◌, ℕ, ◌==◌, ◌||◌, Bool, true, List}
use Rattle.task_pool.specs.declared.task.Task.{Task}
use Rattle.task_pool.specs.Allowed.{descends}

-- the other one is the task itself, or the task descends from it
abbrev pub reaches : List Task → ℕ → ℕ → Bool
reaches tasks task from = task == from || descends tasks task from

-- the walk comes by this ancestor, which is the bound itself wherever it comes by the bound
pub record IsReached (tasks : List Task) (task bound ancestor : ℕ) : Type 0 where
  pub on_the_way : reaches tasks task ancestor ≡ true
  pub exactly : reaches tasks task bound ≡ (ancestor == bound)
