-- What takes hold at the Back of an event's callback.
use Rattle.std.specs.Prelude.{ℕ, if◌then◌else◌, Bool, true, false}
use Rattle.c_model.specs.declared.point.SyncKind.{SyncKind}
use Rattle.c_model.specs.declared.point.SyncStage.TheVariants as stage
use Rattle.omp_model.specs.declared.parts.ThreadStage.TheVariants as thread_stage
use Rattle.omp_model.specs.declared.event.Event.{Event}
use Rattle.omp_model.specs.declared.event.Event.TheVariants.{MemberEnd, ParallelBegin, ParallelEnd, Sync, TaskCreate, TaskEnd, ThreadEnd}
use Rattle.omp_model.specs.State.{World}
use Rattle.omp_model.specs.Members.{current, current_index, current_region, member_index}
use Rattle.omp_model.specs.Gates.{is_barrier}
use Rattle.omp_model.specs.Changes.{with_wait_begun, with_undeferred, with_finished_task, with_forked_region, member_left, with_members_invited, with_ready_task, with_stage}

-- an undeferred task starts next on the thread, and another one is ready
abbrev pub after_created : World → ℕ → ℕ → Bool → World
after_created W t task true = with_undeferred W t task
after_created W t task false = with_ready_task W task

-- a member has arrived at a barrier
abbrev pub after_wait_begun : World → ℕ → SyncKind → World
after_wait_begun W t kind = if is_barrier kind then with_wait_begun W (current_region W t) (current_index W t) else W

unfoldable pub at_back : World → ℕ → Event → World
at_back W t ThreadEnd = with_stage W t thread_stage.Ended
at_back W t (ParallelBegin r requested codeptr) = with_members_invited W t r
at_back W t (ParallelEnd r codeptr) = with_forked_region W (current W t) 0
at_back W t (MemberEnd r k) = member_left W r (member_index W t r)
at_back W t (TaskCreate task undeferred codeptr) = after_created W t task undeferred
at_back W t (TaskEnd task) = with_finished_task W task
at_back W t (Sync kind stage.WaitBegin codeptr) = after_wait_begun W t kind
at_back W t other = W
