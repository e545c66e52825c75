-- The frames of tasks: OpenMP 5.2 has them as `ompt_frame_t` (19.4.4). They are numbers in place of addresses, and are told as they are right after
-- the Go of an event.
use Rattle.std.specs.Prelude.{ℕ, ◌+◌, ◌*◌, length, drop, ◌==◌, ◌&&◌, ◌||◌, not, Bool, true, false, if◌then◌else◌}
use Rattle.ompt_calls.specs.declared.call.Frame.{Frame}
use Rattle.omp_model.specs.declared.limits.TheConstants.{INITIAL_TASK}
use Rattle.omp_model.specs.declared.event.Event.{Event}
use Rattle.omp_model.specs.declared.event.Event.TheVariants.{InitialTaskBegin, MemberBegin, TaskBegin}
use Rattle.omp_model.specs.State.{World, is_under_way, pooled_at, task_at, thread_at}
use Rattle.omp_model.specs.Members.{current}

-- the event starts the current task of its thread
abbrev pub starts_task : Event → Bool
starts_task InitialTaskBegin = true
starts_task (MemberBegin r k) = true
starts_task (TaskBegin prior task) = true
starts_task other = false

-- the number of the place on the stack of thread u above so many tasks
abbrev pub frame_base : ℕ → ℕ → ℕ
frame_base u below = u * 65536 + below + 1

-- no other task stands above one that has so many below it
abbrev pub is_on_top : World → ℕ → ℕ → Bool
is_on_top W u below = below + 1 == length (thread_at W u).stack

-- A started task of thread u is inside the runtime, at an event of thread t, where another stands above it, where the region that it forked isn't
-- over, and where it is the current task of thread t, unless the event has just started it.
abbrev pub is_inside : World → ℕ → Event → ℕ → ℕ → ℕ → Bool
is_inside W t event u k below =
    not (is_on_top W u below) || not ((task_at W k).forked == 0) || (u == t && not (starts_task event))

-- the initial task's code has no frame outside of it
abbrev pub exit_word : World → ℕ → ℕ → ℕ → ℕ
exit_word W u k below =
    if is_under_way (pooled_at W k).condition && not (k == INITIAL_TASK) then frame_base u below else 0

abbrev pub enter_word : World → ℕ → Event → ℕ → ℕ → ℕ → ℕ
enter_word W t event u k below =
    if is_under_way (pooled_at W k).condition && is_inside W t event u k below then frame_base u below + 32768 else 0

-- the frame of a task of thread u with so many below it, at an event of thread t
abbrev pub frame_of : World → ℕ → Event → ℕ → ℕ → ℕ → Frame
frame_of W t event u k below = record { exit = exit_word W u k below; enter = enter_word W t event u k below }

-- the frame of the current task
abbrev pub current_frame : World → ℕ → Event → Frame
current_frame W t event = frame_of W t event t (current W t) (length (drop 1 (thread_at W t).stack))
