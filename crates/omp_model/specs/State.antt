-- The state of the machine: threads, tasks, regions, cells and locks, and beside them the callbacks that haven't returned, the counts of silent
-- steps and turns, and what halted the run.
use Rattle.std.specs.Prelude.{ℕ, ◌-◌, Bool, true, false, List, [], ◌∷◌, Option, None, replicate, slice_index_or, slice_set}
use Rattle.c_syntax.specs.language.Numbered.{TreeView}
use Rattle.c_check.specs.Seen.{critical_count}
use Rattle.c_model.specs.Task.{Store, Task as Code}
use Rattle.c_model.specs.Begin.{blank_task, first_store, main_task}
use Rattle.task_pool.specs.Tasks.{task_at as pool_task_at}
use Rattle.task_pool.specs.View.{PoolView, no_pool, with_added}
use Rattle.task_pool.specs.declared.task.Condition.{Condition}
use Rattle.task_pool.specs.declared.task.Condition.TheVariants as condition
use Rattle.task_pool.specs.declared.task.Task.{Task as PoolTask}
use Rattle.task_pool.specs.declared.task.TaskKind.TheVariants as kind
use Rattle.team_parts.specs.Team.{TeamView, new_member}
use Rattle.sync_objects.specs.Owners.{critical_locks}
use Rattle.sync_objects.specs.View.{LocksView}
use Rattle.omp_model.specs.declared.limits.TheConstants.{IMPLICIT_REGION}
use Rattle.team_parts.specs.declared.meeting.TheConstants.{TEAM_LIMIT}
use Rattle.omp_model.specs.declared.parts.ThreadStage.{ThreadStage}
use Rattle.omp_model.specs.declared.parts.ThreadStage.TheVariants as stage
use Rattle.omp_model.specs.declared.parts.RegionHead.{RegionHead}
use Rattle.omp_model.specs.declared.event.Callback.{Callback}
use Rattle.omp_model.specs.declared.event.Halt.{Halt}
use Rattle.omp_model.specs.declared.event.Share.{Share}

-- what fixes a run: a checked program, the callbacks that are registered (bit n for number n), how many threads there may be, and how many silent
-- steps
pub record Run : Type 0 where
  pub program : TreeView
  pub mask : ℕ
  pub threads : ℕ
  pub steps : ℕ

-- A thread: how far it has come; the tasks that it has taken up, by identity, the current one first; the region that it is to join next, or 0;
-- the undeferred task that it starts next, or 0; the share of work that its last silent step took and that no event has followed; and what was last
-- stored into its data word, or 0.
pub record Thread : Type 0 where
  pub stage : ThreadStage
  pub stack : List ℕ
  pub invited : ℕ
  pub undeferred : ℕ
  pub taken : Option Share
  pub word : ℕ

-- A task, beside what the pool has of it: its code; the thread that has taken it up, and 0 for none before; the region that it has forked and that
-- isn't over, or 0; and what was last stored into its data word, or 0.
pub record Task : Type 0 where
  pub code : Code
  pub thread : ℕ
  pub forked : ℕ
  pub word : ℕ

-- a parallel region, with what the members of its team have met
pub record Region : Type 0 where
  pub head : RegionHead
  pub team : TeamView

-- What turns change. Threads are by number. Tasks and regions are by identity, and at identity 0 stands none. The pool has each task's parent,
-- region, kind and condition, and the order of those that are ready. The numbers of room that the pool, the teams and the locks are seen with are 0
-- here: they count memory, and a state has none.
pub record World : Type 0 where
  pub threads : List Thread
  pub tasks : List Task
  pub pool : PoolView
  pub regions : List Region
  pub store : Store
  pub locks : LocksView

pub record State : Type 0 where
  pub world : World
  -- for each thread the callback that it is inside
  pub pending : List (Option Callback)
  -- how many silent steps were made so far
  pub steps : ℕ
  -- how many turns were begun so far
  pub turns : ℕ
  -- what halted the run
  pub halt : Option Halt

-- a thread that wasn't made
abbrev pub unmade : Thread
unmade = record { stage = stage.Unmade; stack = []; invited = 0; undeferred = 0; taken = None; word = 0 }

-- a task with this code
abbrev pub task_with : Code → Task
task_with code = record { code = code; thread = 0; forked = 0; word = 0 }

-- what stands for a task where there is none
abbrev pub no_task : Task
no_task = task_with blank_task

-- a region of a task, which so many members are to join
abbrev pub fresh_head : ℕ → ℕ → RegionHead
fresh_head task size =
    record { task = task; size = size; word = 0; members = replicate TEAM_LIMIT 0; left = replicate TEAM_LIMIT false; ended = false }

abbrev pub fresh_team : ℕ → TeamView
fresh_team size = record { members = replicate size new_member; meetings = []; room = 0 }

abbrev pub fresh_region : ℕ → ℕ → Region
fresh_region task size = record { head = fresh_head task size; team = fresh_team size }

-- what stands for a region where there is none
abbrev pub no_region : Region
no_region = fresh_region 0 0

-- the thread with this number
abbrev pub thread_at : World → ℕ → Thread
thread_at W t = slice_index_or W.threads t unmade

-- the task with this identity, and what the pool has of it
abbrev pub task_at : World → ℕ → Task
task_at W k = slice_index_or W.tasks k no_task

abbrev pub pooled_at : World → ℕ → PoolTask
pooled_at W k = pool_task_at W.pool.tasks k

-- a task that has started and hasn't finished
abbrev pub is_under_way : Condition → Bool
is_under_way condition.Started = true
is_under_way other = false

-- the region with this identity
abbrev pub region_at : World → ℕ → Region
region_at W r = slice_index_or W.regions r no_region

-- the callback that this thread is inside
abbrev pub pending_at : State → ℕ → Option Callback
pending_at S t = slice_index_or S.pending t None

-- one thread is changed; one task; one region
abbrev pub with_thread : World → ℕ → Thread → World
with_thread W t thread = record W { threads = slice_set W.threads t thread }

abbrev pub with_task : World → ℕ → Task → World
with_task W k task = record W { tasks = slice_set W.tasks k task }

abbrev pub with_region : World → ℕ → Region → World
with_region W r region = record W { regions = slice_set W.regions r region }

-- the thread that is there from the start
abbrev pub initial_thread : Thread
initial_thread = record unmade { stage = stage.Made }

-- the state before the first entry: thread 0, the initial task and its region are made
abbrev pub first_world : Run → World
first_world run =
    record {
      threads = initial_thread ∷ replicate (run.threads - 1) unmade;
      tasks = no_task ∷ task_with (main_task run.program) ∷ [];
      pool = with_added no_pool 0 IMPLICIT_REGION kind.Initial;
      regions = no_region ∷ fresh_region 0 1 ∷ [];
      store = first_store run.program;
      locks = record { locks = critical_locks (critical_count run.program); room = 0 };
    }

abbrev pub first : Run → State
first run = record { world = first_world run; pending = replicate run.threads None; steps = 0; turns = 0; halt = None }
