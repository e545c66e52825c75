-- Where a thread is: its current task and region, its number in that region's team, and what its code sees of the team.
use Rattle.std.specs.Prelude.{ℕ, ◌==◌, nat_lt, if◌then◌else◌, Bool, length, slice_index_or}
use Rattle.c_model.specs.Task.{Moment, Task as Code}
use Rattle.c_model.specs.declared.view.View.{View}
use Rattle.task_pool.specs.Tasks.{is_explicit}
use Rattle.team_parts.specs.Team.{TeamView}
use Rattle.omp_model.specs.declared.limits.TheConstants.{IMPLICIT_REGION}
use Rattle.omp_model.specs.State.{World, pooled_at, region_at, task_at, thread_at}

-- the current task of a thread, or 0 where it has none
abbrev pub current : World → ℕ → ℕ
current W t = slice_index_or (thread_at W t).stack 0 0

-- the region of a task, and of a thread
abbrev pub region_of : World → ℕ → ℕ
region_of W k = (pooled_at W k).region

abbrev pub current_region : World → ℕ → ℕ
current_region W t = region_of W (current W t)

-- a task construct made the task
abbrev pub is_explicit_task : World → ℕ → Bool
is_explicit_task W k = is_explicit (pooled_at W k).kind

-- the region was forked in the implicit region of the initial task
abbrev pub is_outermost : World → ℕ → Bool
is_outermost W r = region_of W (region_at W r).head.task == IMPLICIT_REGION

-- The number of a thread in the team of a region. The members of an outermost region are the first threads, in order; another region has one
-- member, the encountering thread.
abbrev pub member_index : World → ℕ → ℕ → ℕ
member_index W t r = if is_outermost W r then t else 0

abbrev pub current_index : World → ℕ → ℕ
current_index W t = member_index W t (current_region W t)

-- the team of a thread's region, and whether the thread is a member of it. Each thread with a task is
abbrev pub current_team : World → ℕ → TeamView
current_team W t = (region_at W (current_region W t)).team

abbrev pub is_member : World → ℕ → Bool
is_member W t = nat_lt (current_index W t) (length (current_team W t).members)

-- what the code of a thread's current task sees
abbrev pub view_of : World → ℕ → View
view_of W t =
    record { index = current_index W t; team = (region_at W (current_region W t)).head.size; max = length W.threads }

-- the code of a thread's current task, and the same with the cells and the printed text
abbrev pub code_of : World → ℕ → Code
code_of W t = (task_at W (current W t)).code

abbrev pub moment_of : World → ℕ → Moment
moment_of W t = record { task = code_of W t; store = W.store }
