-- The words of change, of which the effects of events are made.
use Rattle.std.specs.Prelude.{ℕ, zero, suc, Bool, true, false, if◌then◌else◌, List, [], ◌∷◌, ◌++◌, drop, Option, slice_set}
use Rattle.c_model.specs.Begin.{blank_task}
use Rattle.c_model.specs.Step.{settled_task}
use Rattle.c_model.specs.Task.{Moment, Task as Code}
use Rattle.task_pool.specs.declared.task.Condition.{Condition}
use Rattle.task_pool.specs.declared.task.Condition.TheVariants as condition
use Rattle.task_pool.specs.declared.task.TaskKind.{TaskKind}
use Rattle.task_pool.specs.Tasks.{is_finished}
use Rattle.task_pool.specs.View.{with_added, with_finished, with_ready, with_started}
use Rattle.team_parts.specs.declared.meeting.Meeting.{Meeting}
use Rattle.team_parts.specs.Team.{TeamView, after_meeting, with_begun, with_passed}
use Rattle.sync_objects.specs.Owners.{with_owner, without}
use Rattle.sync_objects.specs.View.{with_initialised}
use Rattle.omp_model.specs.declared.parts.RegionHead.{RegionHead}
use Rattle.omp_model.specs.declared.parts.ThreadStage.{ThreadStage}
use Rattle.omp_model.specs.declared.parts.ThreadStage.TheVariants as stage
use Rattle.omp_model.specs.declared.event.Share.{Share}
use Rattle.omp_model.specs.State.{Region, Thread, World, is_under_way, pooled_at, region_at, task_at, task_with, thread_at, with_region, with_task, with_thread}
use Rattle.omp_model.specs.Members.{code_of, current, is_outermost, view_of}

-- Threads.

-- the thread has come so far
abbrev pub with_stage : World → ℕ → ThreadStage → World
with_stage W t stage = with_thread W t (record (thread_at W t) { stage = stage })

-- the thread takes a task up: it is to join no region and to start no undeferred task any more
abbrev pub with_current_task : World → ℕ → ℕ → World
with_current_task W t k = with_thread W t (record (thread_at W t) { stack = k ∷ (thread_at W t).stack; invited = 0; undeferred = 0 })

abbrev pub taken_up : World → ℕ → ℕ → World
taken_up W t k = with_task (with_current_task W t k) k (record (task_at W k) { thread = t })

-- the thread's current task is taken off its stack
abbrev pub without_current_task : World → ℕ → World
without_current_task W t = with_thread W t (record (thread_at W t) { stack = drop 1 (thread_at W t).stack })

-- the thread is to start this undeferred task next
abbrev pub with_undeferred : World → ℕ → ℕ → World
with_undeferred W t k = with_thread W t (record (thread_at W t) { undeferred = k })

-- the thread has taken a share of work, or that was told
abbrev pub with_taken_share : World → ℕ → Option Share → World
with_taken_share W t share = with_thread W t (record (thread_at W t) { taken = share })

-- a thread that wasn't made is made
abbrev pub stage_once_made : ThreadStage → ThreadStage
stage_once_made stage.Unmade = stage.Made
stage_once_made other = other

-- the thread is to join the region next, and is made, if it wasn't
abbrev pub with_invitation : ℕ → Thread → Thread
with_invitation r thread = record thread { stage = stage_once_made thread.stage; invited = r }

-- the first threads, so many, are to join the region
unfoldable pub with_invitations : ℕ → ℕ → List Thread → List Thread
with_invitations r zero threads = threads
with_invitations r (suc size) [] = []
with_invitations r (suc size) (thread ∷ threads) = with_invitation r thread ∷ with_invitations r size threads

-- the members of a region are to join it: those of an outermost one are the first threads, another one has the encountering thread alone
abbrev pub with_members_invited : World → ℕ → ℕ → World
with_members_invited W t r =
    if is_outermost W r
    then record W { threads = with_invitations r (region_at W r).head.size W.threads }
    else with_thread W t (with_invitation r (thread_at W t))

-- Tasks.

abbrev pub with_code : World → ℕ → Code → World
with_code W k code = with_task W k (record (task_at W k) { code = code })

-- the thread's task has left out what it goes past without a step
abbrev pub with_masked_skipped : World → ℕ → World
with_masked_skipped W t = with_code W (current W t) (settled_task (view_of W t) (code_of W t))

-- the code of a task and what it shares with all tasks have come to this
abbrev pub gone_to : World → ℕ → Moment → World
gone_to W k now = record (with_code W k now.task) { store = now.store }

-- a task is made, with the next identity, and its parent, region and kind
abbrev pub task_made : World → ℕ → ℕ → TaskKind → Code → World
task_made W parent r kind code =
    record W { tasks = W.tasks ++ task_with code ∷ []; pool = with_added W.pool parent r kind }

-- a task that was made is ready; one that hasn't finished starts; one that has started finishes. Nothing happens to others
abbrev pub is_fresh : Condition → Bool
is_fresh condition.Made = true
is_fresh other = false

abbrev pub with_ready_task : World → ℕ → World
with_ready_task W k = if is_fresh (pooled_at W k).condition then record W { pool = with_ready W.pool k } else W

abbrev pub with_started_task : World → ℕ → World
with_started_task W k = if is_finished (pooled_at W k).condition then W else record W { pool = with_started W.pool k }

abbrev pub with_finished_task : World → ℕ → World
with_finished_task W k = if is_under_way (pooled_at W k).condition then record W { pool = with_finished W.pool k } else W

-- nothing is kept of the code of a task that has ended
abbrev pub without_code : World → ℕ → World
without_code W k = with_code W k blank_task

-- the task has forked a region; it is over
abbrev pub with_forked_region : World → ℕ → ℕ → World
with_forked_region W k r = with_task W k (record (task_at W k) { forked = r })

-- Regions.

abbrev pub region_made : World → Region → World
region_made W region = record W { regions = W.regions ++ region ∷ [] }

abbrev pub with_head : World → ℕ → RegionHead → World
with_head W r head = with_region W r (record (region_at W r) { head = head })

abbrev pub with_team : World → ℕ → TeamView → World
with_team W r team = with_region W r (record (region_at W r) { team = team })

-- the member with this number has begun, with this implicit task; it has left; the event of the end of the region has come
abbrev pub member_begun : World → ℕ → ℕ → ℕ → World
member_begun W r i k = with_head W r (record (region_at W r).head { members = slice_set (region_at W r).head.members i k })

abbrev pub member_left : World → ℕ → ℕ → World
member_left W r i = with_head W r (record (region_at W r).head { left = slice_set (region_at W r).head.left i true })

abbrev pub region_over : World → ℕ → World
region_over W r = with_head W r (record (region_at W r).head { ended = true })

-- a member meets a worksharing construct or a barrier, begins to wait at the barrier that it met last, and passes it
abbrev pub with_member_meeting : World → ℕ → ℕ → Meeting → World
with_member_meeting W r i what = with_team W r (after_meeting (region_at W r).team i what)

abbrev pub with_wait_begun : World → ℕ → ℕ → World
with_wait_begun W r i = with_team W r (with_begun (region_at W r).team i)

abbrev pub with_barrier_passed : World → ℕ → ℕ → World
with_barrier_passed W r i = with_team W r (with_passed (region_at W r).team i)

-- Locks.

abbrev pub owned_by : World → ℕ → Option ℕ → World
owned_by W wait_id owner = record W { locks = record W.locks { locks = with_owner W.locks.locks wait_id owner } }

abbrev pub with_initialised_lock : World → ℕ → World
with_initialised_lock W wait_id = record W { locks = with_initialised W.locks wait_id }

abbrev pub without_lock : World → ℕ → World
without_lock W wait_id = record W { locks = record W.locks { locks = without W.locks.locks wait_id } }
