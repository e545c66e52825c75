-- What a pool is seen as, and what its calls do to it.
use Rattle.std.specs.Prelude.{ℕ, ◌+◌, ◌-◌, ◌<◌, ◌==◌, not, Bool, if◌then◌else◌, List, [], ◌∷◌, ◌++◌, length, filter, max, Result, Ok, Err}
use Rattle.task_pool.specs.declared.task.Task.{Task}
use Rattle.task_pool.specs.declared.task.TaskKind.{TaskKind}
use Rattle.task_pool.specs.declared.task.Condition.TheVariants as condition
use Rattle.task_pool.specs.declared.task.Full.{Full}
use Rattle.task_pool.specs.declared.task.TheConstants.{TASK_LIMIT}
use Rattle.task_pool.specs.Tasks.{with_condition}

-- the tasks by identity, the identities of the ready ones in the order in which they became ready, for how many
-- regions there are places, and how many more tasks there is room for
pub record PoolView : Type 0 where
  pub tasks : List Task
  pub ready : List ℕ
  pub regions : ℕ
  pub room : ℕ

abbrev pub no_pool : PoolView
no_pool = record { tasks = []; ready = []; regions = 0; room = 0 }

-- room is made for one task, and a place for the region
abbrev pub with_room : PoolView → ℕ → PoolView
with_room pool region = record pool { regions = max (region + 1) pool.regions; room = 1 }

-- there is room for a task of this region
pub record HasRoom (pool : PoolView) (region : ℕ) : Type 0 where
  pub task : 0 < pool.room
  pub place : region < pool.regions

-- the next identity, as long as there is one
abbrev pub answer_to_add : List Task → Result ℕ Full
answer_to_add tasks = if length tasks == TASK_LIMIT then Err (record {}) else Ok (length tasks + 1)

abbrev pub fresh_task : ℕ → ℕ → TaskKind → Task
fresh_task parent region kind = record { parent = parent; region = region; kind = kind; condition = condition.Made }

-- one more task is made
abbrev pub with_added : PoolView → ℕ → ℕ → TaskKind → PoolView
with_added pool parent region kind =
    record pool { tasks = pool.tasks ++ fresh_task parent region kind ∷ []; room = pool.room - 1 }

-- the task is ready, after all others that are
abbrev pub with_ready : PoolView → ℕ → PoolView
with_ready pool task =
    record pool { tasks = with_condition pool.tasks task condition.Ready; ready = pool.ready ++ task ∷ [] }

abbrev pub is_other : ℕ → ℕ → Bool
is_other task other = not (other == task)

-- the task has started, and isn't ready any more
abbrev pub with_started : PoolView → ℕ → PoolView
with_started pool task =
    record pool { tasks = with_condition pool.tasks task condition.Started; ready = filter (is_other task) pool.ready }

abbrev pub with_finished : PoolView → ℕ → PoolView
with_finished pool task = record pool { tasks = with_condition pool.tasks task condition.Finished }
