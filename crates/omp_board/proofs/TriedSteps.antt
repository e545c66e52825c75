-- Silent steps of a board, one after another.
use Rattle.std.proofs.Common.{◌≡◌, ◌≤◌, ◌+◌, ℕ, zero, suc, List, refl, sym, ap, ◌∙◌, arith}
use Rattle.c_model.specs.declared.view.View.{View}
use Rattle.c_model.specs.Step.{silent}
use Rattle.c_model.specs.Task.Outcome.{StepsTo}
use Rattle.c_model.specs.Upcoming.{upcoming_of}
use Rattle.c_model.specs.declared.upcoming.Upcoming.{Upcoming}
use Rattle.task_pool.specs.View.{PoolView}
use Rattle.sync_objects.specs.View.{LocksView}
use Rattle.omp_model.specs.Changes.{gone_to}
use Rattle.omp_model.specs.Gates.{arrival, arrival_at, arrival_in, arrival_invited, arrival_of_task, arrival_with_share, arrival_with_undeferred}
use Rattle.omp_model.specs.Members.{code_of, moment_of, view_of}
use Rattle.omp_model.specs.Silent.{Goes, silence_of, silent_step}
use Rattle.omp_model.specs.State.{Thread, World, thread_at}
use Rattle.omp_board.specs.Board.{BoardView, HasStepped, HasTurn, HaveStepped, IsFree, IsJoined, room_with, world_with}
use Rattle.omp_board.specs.Regions.{RegionsView}
use Rattle.omp_board.specs.Tasks.{HasSteppedIn, HaveSteppedIn, TasksView, moment_in, code_in}

-- what the thread comes to is what the code of its current task says, where nothing stands before that
pub arrives : (W : World) (t task : ℕ) → IsFree W t task → arrival W t ≡ arrival_in W t task (upcoming_of (view_of W t) (code_of W t))
unfolding arrival
arrives W t task free =
    ap (arrival_at W t) free.begun
    ∙ ap (arrival_invited W t) free.uninvited
    ∙ ap (arrival_with_undeferred W t) free.undetained
    ∙ ap (arrival_with_share W t) free.untaken
    ∙ ap (arrival_of_task W t) (sym free.of_thread)
    ∙ rw free.some refl

module _ (threads : List Thread) (pool : PoolView) (regions : RegionsView) (locks : LocksView) where
  abbrev pub board : TasksView → BoardView
  board tasks = record { program = tasks.program; world = world_with threads tasks pool regions locks; room = room_with tasks regions locks }

  module _ (t task : ℕ) (sight : View) where
    made : (old new : TasksView) → sight ≡ view_of (board old).world t → IsFree (board old).world t task → HasTurn (board old).room (board old).world t → HasSteppedIn old sight task new → HasStepped (board old) t (board new)
    unfolding silent_step
    made old new seen free turn so =
        let W : World = (board old).world in
        let of_task = free.of_thread in
        let step : silent old.program (view_of W t) (moment_of W t) ≡ StepsTo (moment_in new task) =
        ap (λ (sight : View). silent old.program sight (moment_of W t)) (sym seen) ∙ ap (λ (k : ℕ). silent old.program sight (moment_in old k)) (sym of_task) ∙ so.step in
        let comes : upcoming_of (view_of W t) (code_of W t) ≡ upcoming_of sight (code_in old task) =
        ap (λ (sight : View). upcoming_of sight (code_of W t)) (sym seen) ∙ ap (λ (k : ℕ). upcoming_of sight (code_in old k)) (sym of_task) in
        record {
          arrives = arrives W t task free ∙ ap (λ (next : Upcoming). arrival_in W t task next) (comes ∙ so.upcoming);
          silence = ap (silence_of W t) step ∙ ap Goes (ap (λ (k : ℕ). gone_to W k (moment_in new task)) (sym of_task) ∙ ap (λ (tasks : TasksView). (board tasks).world) (sym so.rest));
          program = ap (λ (tasks : TasksView). tasks.program) so.rest;
          room = ap (λ (tasks : TasksView). record (board old).room { task = tasks.room.task; steps = new.room.steps; passes = tasks.room.passes; tasks = tasks.room.tasks }) so.rest;
          steps = let steps = ap (λ (tasks : TasksView). tasks.room.steps) so.rest in omega (arith, steps);
          turn = record { of_task = ap (λ (tasks : TasksView). tasks.room.task) so.rest ∙ turn.of_task; of_region = turn.of_region };
          view = refl;
        }

    -- nothing but the task's code, the store and the room for steps changes
    pub turn_after : (count : ℕ) (old new : TasksView) → HaveSteppedIn count old sight task new → HasTurn (board old).room (board old).world t → HasTurn (board new).room (board new).world t
    turn_after zero old new same turn = record { of_task = ap (λ (tasks : TasksView). tasks.room.task) same ∙ turn.of_task; of_region = turn.of_region }
    turn_after (suc count) old new (between, (so, last)) turn =
        let before = turn_after count old between so turn in
        record { of_task = ap (λ (tasks : TasksView). tasks.room.task) last.rest ∙ before.of_task; of_region = before.of_region }

    -- .. so that nothing stands before the code as long as that is so
    still_free : (old new : TasksView) → IsFree (board old).world t task → IsFree (board new).world t task
    still_free old new free = record {
      of_thread = free.of_thread;
      some = free.some;
      begun = free.begun;
      uninvited = free.uninvited;
      undetained = free.undetained;
      untaken = free.untaken;
    }

    pub made_all : (count : ℕ) (old new : TasksView) → sight ≡ view_of (board old).world t → IsFree (board old).world t task → HasTurn (board old).room (board old).world t → HaveSteppedIn count old sight task new → HaveStepped count (board old) t (board new)
    made_all zero old new seen free turn same = ap board same
    made_all (suc count) old new seen free turn (between, (so, last)) =
        (board between, (made_all count old between seen free turn so, made between new seen (still_free old between free) (turn_after count old between so turn) last))

-- as many more tasks can be made as before
pub tasks_kept : (count : ℕ) (old new : TasksView) (sight : View) (task : ℕ) → HaveSteppedIn count old sight task new → new.room.tasks ≡ old.room.tasks
tasks_kept zero old new sight task same = ap (λ (tasks : TasksView). tasks.room.tasks) same
tasks_kept (suc count) old new sight task (between, (so, last)) = ap (λ (tasks : TasksView). tasks.room.tasks) last.rest ∙ tasks_kept count old between sight task so
