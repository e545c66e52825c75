-- What an event of a task's code requires at its Go, and what it answers and changes beside the code.
use Rattle.std.specs.Prelude.{◌≡◌, ℕ, ◌<◌, ◌≤◌, Bool, slice_get, Option, Some, None, Result, Ok, Err}
use Rattle.c_syntax.specs.language.Numbered.{TreeView, tree_at}
use Rattle.c_model.specs.declared.point.Point.{Point}
use Rattle.c_model.specs.declared.point.Point.TheVariants as point
use Rattle.c_model.specs.declared.point.Work.{Work}
use Rattle.c_model.specs.declared.point.Work.TheVariants as work
use Rattle.c_model.specs.declared.point.WorkKind.TheVariants as work_kind
use Rattle.c_model.specs.Step.{silent}
use Rattle.c_model.specs.Task.Outcome.{Occurs}
use Rattle.c_steps.specs.Beginning.{IsCreation}
use Rattle.c_steps.specs.Passing.{IsEventOfNext}
use Rattle.omp_model.specs.declared.event.Endpoint.TheVariants.{Begin}
use Rattle.omp_model.specs.declared.event.Event.{Event}
use Rattle.omp_model.specs.declared.event.Event.TheVariants as event
use Rattle.omp_model.specs.declared.event.Halt.{Halt}
use Rattle.omp_model.specs.State.{World}
use Rattle.omp_model.specs.Members.{code_of, current, current_region, moment_of, view_of}
use Rattle.omp_model.specs.EventEffects.{single_kind}
use Rattle.omp_board.specs.Answering.{IsSettled}
use Rattle.omp_board.specs.Board.{BoardRoom, BoardView}
use Rattle.omp_board.specs.Tasks.{HasCells}

-- the code of the thread's task has left out what it goes past, and has come to this event, which stands at this node
pub record HasComeTo (program : TreeView) (W : World) (t : ℕ) (what : Point) (node : ℕ) : Type 0 where
  pub some : 1 ≤ current W t
  pub settled : IsSettled W t
  pub occurs : silent program (view_of W t) (moment_of W t) ≡ Occurs what (tree_at program.trees node)
  pub event : IsEventOfNext program what node (code_of W t).todo

-- an explicit task is made of what stands first in the code of the thread's task, for whose cells there is room
pub record IsCreator (program : TreeView) (W : World) (t : ℕ) : Type 0 where
  pub some : 1 ≤ current W t
  pub settled : IsSettled W t
  pub creation : IsCreation (slice_get (code_of W t).todo 0)
  pub cells : HasCells program (moment_of W t)

abbrev pub MayCreate : TreeView → World → ℕ → Point → Type 0
MayCreate program W t (point.TaskCreate codeptr undeferred) = IsCreator program W t
MayCreate program W t other = Unit {0}

-- there is room for the code of the thread's task to go past an event
pub record HasPassing (room : BoardRoom) (W : World) (t : ℕ) : Type 0 where
  pub of_task : room.task ≡ current W t
  pub passes : 0 < room.passes

-- .. and for what the event makes
pub record HasGo (room : BoardRoom) (W : World) (t : ℕ) : Type 0 where
  pub passing : HasPassing room W t
  pub of_region : room.region ≡ current_region W t
  pub tasks : 0 < room.tasks
  pub meetings : 0 < room.meetings
  pub regions : 0 < room.regions
  pub locks : 0 < room.locks

-- the program stays, and so does room for the code to go past the event
pub record KeepsPassing (before after : BoardView) : Type 0 where
  pub program : after.program ≡ before.program
  pub task : after.room.task ≡ before.room.task
  pub passes : after.room.passes ≡ before.room.passes

-- what an event with this fault and this effect answers, and the world after it
abbrev pub IsEffect : Option Halt → World → Result (Unit {0}) Halt → World → World → Type 0
IsEffect fault effect (Ok it) before after = (fault ≡ None) × (after ≡ effect)
IsEffect fault effect (Err halt) before after = (fault ≡ Some halt) × (after ≡ before)

-- the begin of a worksharing construct, where the member executes the statement of a `single` or another member does
abbrev pub work_event : ℕ → Work → Bool → Event
work_event codeptr (work.Loop start count step how) executes = event.Work Begin work_kind.Loop count codeptr
work_event codeptr (work.Sections count) executes = event.Work Begin work_kind.Sections count codeptr
work_event codeptr work.Single executes = event.Work Begin (single_kind executes) 1 codeptr

-- the place in the text of an event of a task's code
abbrev pub place_of : Point → ℕ
place_of (point.ParallelBegin codeptr requested) = codeptr
place_of (point.ParallelEnd codeptr) = codeptr
place_of (point.TaskCreate codeptr undeferred) = codeptr
place_of (point.WorkBegin codeptr what) = codeptr
place_of (point.WorkEnd codeptr which count) = codeptr
place_of (point.MaskedBegin codeptr) = codeptr
place_of (point.MaskedEnd codeptr) = codeptr
place_of (point.Sync codeptr which at) = codeptr
place_of (point.MutexAcquire codeptr wait_id which to) = codeptr
place_of (point.MutexAcquired codeptr wait_id which) = codeptr
place_of (point.MutexReleased codeptr wait_id which) = codeptr
place_of (point.LockInit codeptr wait_id) = codeptr
place_of (point.LockDestroy codeptr wait_id) = codeptr

-- an event beside all code, but a share's
abbrev pub IsBeside : Event → Type 0
IsBeside event.ThreadBegin = Unit {0}
IsBeside event.ThreadEnd = Unit {0}
IsBeside event.InitialTaskBegin = Unit {0}
IsBeside event.InitialTaskEnd = Unit {0}
IsBeside (event.MemberBegin r k) = Unit {0}
IsBeside (event.MemberEnd r k) = Unit {0}
IsBeside (event.TaskBegin prior task) = Unit {0}
IsBeside (event.TaskEnd task) = Unit {0}
IsBeside other = ⊥

-- .. or an event of a lock or critical
abbrev pub IsMutexOrBeside : Event → Type 0
IsMutexOrBeside (event.MutexAcquire which wait_id codeptr) = Unit {0}
IsMutexOrBeside (event.MutexAcquired which wait_id codeptr) = Unit {0}
IsMutexOrBeside (event.MutexReleased which wait_id codeptr) = Unit {0}
IsMutexOrBeside (event.LockInit wait_id codeptr) = Unit {0}
IsMutexOrBeside (event.LockDestroy wait_id codeptr) = Unit {0}
IsMutexOrBeside other = IsBeside other
