-- How a thread is kept: the tasks that it has taken up, the current one last.
use Rattle.std.specs.Prelude.{◌≤◌, List, ℕ, length}
use Rattle.omp_model.specs.declared.limits.TheConstants.{STACK_LIMIT}

-- the stack has room for as many tasks as the limit allows
pub record IsStack (stack : List ℕ) (capacity : ℕ) : Type 0 where
  pub room : STACK_LIMIT ≤ capacity
  pub few : length stack ≤ STACK_LIMIT
