-- What a board is seen as: the program, the world, and room for a turn.
use Rattle.std.specs.Prelude.{ℕ, zero, suc, false, ◌==◌, ◌+◌, ◌≡◌, ◌<◌, ◌≤◌, List, None, Result, Ok, Err, length, refl}
use Rattle.std.specs.Coded.{Coded, code_by, coded×, coded_ℕ, coded_list}
use Rattle.c_syntax.specs.workings.Codes.{tree_view_code}
use Rattle.c_syntax.specs.language.Numbered.{TreeView}
use Rattle.c_model.specs.Task.{Moment, Store}
use Rattle.c_model.specs.declared.point.Point.{Point}
use Rattle.task_pool.specs.View.{PoolView}
use Rattle.task_pool.specs.contracts.pool.Pool as pool
use Rattle.sync_objects.specs.View.{LocksView}
use Rattle.sync_objects.specs.contracts.locks.Locks as locks
use Rattle.team_parts.specs.declared.meeting.TheConstants.{TEAM_LIMIT}
use Rattle.team_parts.specs.Team.{TeamView}
use Rattle.team_parts.specs.contracts.team.Team as team
use Rattle.omp_model.specs.contracts.parts.RegionHead as head
use Rattle.omp_model.specs.declared.parts.RegionHead.{RegionHead}
use Rattle.omp_model.specs.declared.event.Event.{Event}
use Rattle.omp_model.specs.declared.event.Halt.{Halt}
use Rattle.omp_model.specs.declared.parts.ThreadStage.TheVariants as thread_stage
use Rattle.omp_model.specs.State.{Region, Run, Task, Thread, World, thread_at}
use Rattle.omp_model.specs.Gates.{arrival}
use Rattle.omp_model.specs.Members.{current, current_region, view_of}
use Rattle.omp_model.specs.declared.event.Arrival.TheVariants.{Steps}
use Rattle.omp_model.specs.Silent.{Goes, Stops, silent_step}
use Rattle.omp_model.specs.EventEffects.{Going, Happens, Halts, go_of_runtime, go_of_code, going_to_point}
use Rattle.omp_model.specs.Changes.{with_masked_skipped}
use Rattle.omp_board.specs.contracts.thread.Thread as thread
use Rattle.omp_board.specs.Codes.{store_code, task_code}
use Rattle.omp_board.specs.Tasks.{TasksView}
use Rattle.omp_board.specs.Regions.{RegionsView}

-- Room for a turn: of the code of this task for so many silent steps, answers and looks, and for so many events; for so many more tasks; for so many
-- meetings of the team of this region; for so many more regions, and locks.
pub record BoardRoom : Type 0 where
  pub task : ℕ
  pub steps : ℕ
  pub passes : ℕ
  pub tasks : ℕ
  pub region : ℕ
  pub meetings : ℕ
  pub regions : ℕ
  pub locks : ℕ

pub record BoardView : Type 0 where
  pub program : TreeView
  pub world : World
  pub room : BoardRoom

abbrev region_code : Coded Region
region_code =
    code_by (RegionHead × TeamView) (coded× head.the_row.coded team.the_row.coded) (λ region. (region.head, region.team))
    (λ p. record { head = p.0; team = p.1 })
    (λ _. refl)

abbrev pub world_code : Coded World
world_code =
    code_by (List Thread × (List Task × (PoolView × (List Region × (Store × LocksView)))))
    (coded× (coded_list thread.the_row.coded) (coded× (coded_list task_code) (coded× pool.the_row.coded
    (coded× (coded_list region_code) (coded× store_code locks.the_row.coded)))))
    (λ W. (W.threads, (W.tasks, (W.pool, (W.regions, (W.store, W.locks))))))
    (λ p. record { threads = p.0; tasks = p.1.0; pool = p.1.1.0; regions = p.1.1.1.0; store = p.1.1.1.1.0; locks = p.1.1.1.1.1 })
    (λ _. refl)

abbrev pub room_code : Coded BoardRoom
room_code =
    code_by (ℕ × (ℕ × (ℕ × (ℕ × (ℕ × (ℕ × (ℕ × ℕ)))))))
    (coded× coded_ℕ (coded× coded_ℕ (coded× coded_ℕ (coded× coded_ℕ (coded× coded_ℕ (coded× coded_ℕ (coded× coded_ℕ coded_ℕ)))))))
    (λ room. (room.task, (room.steps, (room.passes, (room.tasks, (room.region, (room.meetings, (room.regions, room.locks))))))))
    (λ p. record { task = p.0; steps = p.1.0; passes = p.1.1.0; tasks = p.1.1.1.0; region = p.1.1.1.1.0; meetings = p.1.1.1.1.1.0; regions = p.1.1.1.1.1.1.0; locks = p.1.1.1.1.1.1.1 })
    (λ _. refl)

abbrev pub board_code : Coded BoardView
board_code =
    code_by (TreeView × (World × BoardRoom)) (coded× tree_view_code (coded× world_code room_code))
    (λ board. (board.program, (board.world, board.room)))
    (λ p. record { program = p.0; world = p.1.0; room = p.1.1 })
    (λ _. refl)

-- The world that the parts stand for. The room that they keep is no part of it.
abbrev pub world_with : List Thread → TasksView → PoolView → RegionsView → LocksView → World
world_with threads tasks pool regions locks =
    record {
      threads = threads;
      tasks = tasks.tasks;
      pool = record pool { regions = 0; room = 0 };
      regions = regions.regions;
      store = tasks.store;
      locks = record locks { room = 0 };
    }

abbrev pub room_with : TasksView → RegionsView → LocksView → BoardRoom
room_with tasks regions locks =
    record {
      task = tasks.room.task;
      steps = tasks.room.steps;
      passes = tasks.room.passes;
      tasks = tasks.room.tasks;
      region = regions.room.region;
      meetings = regions.room.meetings;
      regions = regions.room.regions;
      locks = locks.room;
    }

-- there is room for one more task at most; the pool has room for it, and a place for each region
pub record IsJoined (threads : List Thread) (tasks : TasksView) (pool : PoolView) (regions : RegionsView) : Type 0 where
  pub some : 1 ≤ length threads
  pub few : length threads ≤ TEAM_LIMIT
  pub one : tasks.room.tasks ≤ 1
  pub room : tasks.room.tasks ≤ pool.room
  pub places : length regions.regions + regions.room.regions ≤ pool.regions

-- there is room for a turn of the thread: as long as it has this current task, in this region
pub record HasTurn (room : BoardRoom) (W : World) (t : ℕ) : Type 0 where
  pub of_task : room.task ≡ current W t
  pub of_region : room.region ≡ current_region W t

-- .. for a silent step, or for the event behind all silent steps
pub record HasStep (room : BoardRoom) (W : World) (t : ℕ) : Type 0 where
  pub turn : HasTurn room W t
  pub steps : 0 < room.steps

pub record HasEvent (room : BoardRoom) (W : World) (t : ℕ) : Type 0 where
  pub turn : HasTurn room W t
  pub steps : 2 ≤ room.steps
  pub passes : 0 < room.passes
  pub tasks : 0 < room.tasks
  pub meetings : 0 < room.meetings
  pub regions : 0 < room.regions
  pub locks : 0 < room.locks

-- a run of the program. What a turn does depends on nothing else of its run, but for the limit of silent steps
abbrev pub run_of : TreeView → Run
run_of program = record { program = program; mask = 0; threads = 0; steps = 0 }

-- what a silent step answers, and the world after it
abbrev pub IsSilence : TreeView → World → ℕ → Result (Unit {0}) Halt → World → Type 0
IsSilence program W t (Ok it) after = silent_step (run_of program) W t ≡ Goes after
IsSilence program W t (Err halt) after = (silent_step (run_of program) W t ≡ Stops halt) × (after ≡ with_masked_skipped W t)

-- what the Go of an event answers, and the world after it: of an event of the code that the thread has come to, in a world in which its task has left
-- out what it goes past; of one at this point; and of one beside all code
abbrev pub IsGoingBy : Going → World → Result Event Halt → World → Type 0
IsGoingBy going W (Ok event) after = going ≡ Happens event after
IsGoingBy going W (Err halt) after = (going ≡ Halts halt) × (after ≡ W)

abbrev pub IsGoing : TreeView → World → ℕ → Result Event Halt → World → Type 0
IsGoing program W t answer after = IsGoingBy (go_of_code (run_of program) W t) W answer after

abbrev pub IsGoingTo : TreeView → World → ℕ → Moment → Point → Result Event Halt → World → Type 0
IsGoingTo program W t now what answer after = IsGoingBy (going_to_point (run_of program) W t now what) W answer after

abbrev pub IsGoOfRuntime : World → ℕ → Event → Result Event Halt → World → Type 0
IsGoOfRuntime W t which answer after = IsGoingBy (go_of_runtime W t which) W answer after

-- the run of a program with so many threads, in what its first world depends on
abbrev pub run_in : TreeView → ℕ → Run
run_in program threads = record { program = program; mask = 0; threads = threads; steps = 0 }

-- .. for so many silent steps
pub record HasStepsAhead (room : BoardRoom) (W : World) (t most : ℕ) : Type 0 where
  pub turn : HasTurn room W t
  pub steps : most ≤ room.steps

-- nothing stands before the code of the thread's current task, which is this
pub record IsFree (W : World) (t task : ℕ) : Type 0 where
  pub of_thread : task ≡ current W t
  pub some : (task == 0) ≡ false
  pub begun : (thread_at W t).stage ≡ thread_stage.Begun
  pub uninvited : (thread_at W t).invited ≡ 0
  pub undetained : (thread_at W t).undeferred ≡ 0
  pub untaken : (thread_at W t).taken ≡ None

-- a silent step of the thread was made, and stood next
pub record HasStepped (old : BoardView) (t : ℕ) (new : BoardView) : Type 0 where
  pub arrives : arrival old.world t ≡ Steps
  pub silence : silent_step (run_of old.program) old.world t ≡ Goes new.world
  pub program : new.program ≡ old.program
  pub room : new.room ≡ record old.room { steps = new.room.steps }
  pub steps : old.room.steps ≤ new.room.steps + 1
  pub turn : HasTurn new.room new.world t
  pub view : view_of new.world t ≡ view_of old.world t

-- .. so many, one after another
abbrev pub HaveStepped : ℕ → BoardView → ℕ → BoardView → Type 0
HaveStepped zero old t new = new ≡ old
HaveStepped (suc count) old t new = (between : BoardView) × (HaveStepped count old t between × HasStepped between t new)
