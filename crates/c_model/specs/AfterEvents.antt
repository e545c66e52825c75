-- How a task goes on: after an answer, and after an event. What asked, or what the event is of, stands first when the task has left out what it
-- goes past.
use Rattle.std.specs.Prelude.{ℕ, ◌+◌, if◌then◌else◌, Bool, true, false, List, [], ◌∷◌, ◌++◌, length, slice_index_or, take, Option, Some, None, ℤ, pos}
use Rattle.c_syntax.specs.declared.node.NodeKind.{NodeKind}
use Rattle.c_syntax.specs.declared.node.NodeKind.TheVariants as node
use Rattle.c_syntax.specs.language.Tree.{Tree, kind_of, nothing}
use Rattle.c_model.specs.declared.point.MutexKind.{MutexKind}
use Rattle.c_model.specs.declared.point.MutexKind.TheVariants as mutex
use Rattle.c_model.specs.declared.point.Point.{Point}
use Rattle.c_model.specs.declared.point.Point.TheVariants.{LockDestroy, LockInit, MaskedBegin, MaskedEnd, MutexAcquire, MutexAcquired, MutexReleased, ParallelBegin, ParallelEnd, Sync as SyncPoint, TaskCreate, WorkBegin, WorkEnd}
use Rattle.c_model.specs.declared.point.SyncKind.{SyncKind}
use Rattle.c_model.specs.declared.point.SyncKind.TheVariants as sync
use Rattle.c_model.specs.declared.point.SyncStage.{SyncStage}
use Rattle.c_model.specs.declared.point.SyncStage.TheVariants as stage
use Rattle.c_model.specs.declared.point.Target.{Target}
use Rattle.c_model.specs.declared.point.Work.{Work}
use Rattle.c_model.specs.declared.point.Work.TheVariants as work
use Rattle.c_model.specs.declared.point.WorkKind.TheVariants as work_kind
use Rattle.c_model.specs.declared.question.Answer.{Answer}
use Rattle.c_model.specs.declared.question.Answer.TheVariants as answer
use Rattle.c_model.specs.declared.view.View.{View}
use Rattle.c_check.specs.Loops.{child_at}
use Rattle.c_model.specs.declared.entry.Entry.{Entry}
use Rattle.c_model.specs.Clauses.{construct_statement, has_nowait, sections_of}
use Rattle.c_model.specs.Copies.{combines, makes_cells}
use Rattle.c_model.specs.Constructs.{iterations_from}
use Rattle.c_model.specs.Calls.{value_cells, value_items}
use Rattle.c_model.specs.Task.{Item, Moment, SharedLoop, Task}
use Rattle.c_model.specs.Step.{settled_moment, settled_task}
use Rattle.c_model.specs.Task.Item.{Start, Initialise, Forked, Inside, NextChunk, NextSection, EndWork, EndMasked, Sync, Acquire, Release, TestLock, Tested}

-- After an answer.

-- where no chunk is left the task combines what it has to, and its part of the work ends
abbrev pub items_of_chunk : SharedLoop → Option (ℕ × ℕ) → List Item
items_of_chunk loop (Some chunk) = iterations_from loop chunk.0 (chunk.0 + chunk.1) ∷ []
items_of_chunk loop None = combines loop.construct loop.names ++ EndWork loop.construct work_kind.Loop loop.count loop.names ∷ []

abbrev pub items_of_section : Tree → ℕ → Option ℕ → List Item
items_of_section construct names (Some section) = Start (slice_index_or (sections_of construct) section nothing) ∷ NextSection construct names ∷ []
items_of_section construct names None = combines construct names ++ EndWork construct work_kind.Sections (length (sections_of construct)) names ∷ []

-- a lock that is owned ends the test with 0. One that isn't comes to be owned, and then the test ends with 1
abbrev pub items_of_test : Tree → ℕ → Target → Bool → List Item
items_of_test call id to true = Acquire call mutex.TestLock id ∷ Tested to ∷ []
items_of_test call id to false = value_items to (pos 0)

abbrev pub cells_of_test : Target → Bool → List ℤ → List ℤ
cells_of_test to true cells = cells
cells_of_test to false cells = value_cells to (pos 0) cells

abbrev pub items_answered : Answer → Item → List Item
items_answered (answer.Chunk chunk) (NextChunk loop) = items_of_chunk loop chunk
items_answered (answer.Section section) (NextSection construct names) = items_of_section construct names section
items_answered (answer.Free free) (TestLock call id to) = items_of_test call id to free
items_answered given item = item ∷ []

abbrev pub cells_answered : Answer → Item → List ℤ → List ℤ
cells_answered (answer.Free free) (TestLock call id to) cells = cells_of_test to free cells
cells_answered given item cells = cells

abbrev pub answered_at : List Item → Answer → Moment → Moment
answered_at [] given now = now
answered_at (item ∷ items) given now =
    record {
      task = record now.task { todo = items_answered given item ++ items };
      store = record now.store { cells = cells_answered given item now.store.cells };
    }

abbrev pub settled_after_answer : Answer → Moment → Moment
settled_after_answer given now = answered_at now.task.todo given now

-- What an answer makes of a task. It ends the silent step that asked, but where a lock is free: then no step was made, and the event stands next.
-- `Answers` says which answers are given to what is asked.
abbrev pub after_answer : View → Answer → Moment → Moment
after_answer view given now = settled_after_answer given (settled_moment view now)

-- After an event, when what comes of it takes hold.

abbrev pub next_stage : Tree → SyncKind → SyncStage → List Item
next_stage tree kind stage.RegionBegin = Sync tree kind stage.WaitBegin ∷ []
next_stage tree kind stage.WaitBegin = Sync tree kind stage.WaitEnd ∷ []
next_stage tree kind stage.WaitEnd = Sync tree kind stage.RegionEnd ∷ []
next_stage tree kind stage.RegionEnd = []

-- the stages of a worksharing construct behind its begin. Of a `single` its statement is one where the task executes it
abbrev pub single_items : Tree → ℕ → Bool → List Item
single_items construct names true = Start (construct_statement construct) ∷ EndWork construct work_kind.SingleExecutor 1 names ∷ []
single_items construct names false = EndWork construct work_kind.SingleOther 1 names ∷ []

abbrev pub work_items : Work → Tree → ℕ → Bool → List Item
work_items (work.Loop start count step schedule) construct names executes =
    NextChunk (record { construct = construct; start = start; step = step; count = count; names = names }) ∷ []
work_items (work.Sections count) construct names executes = NextSection construct names ∷ []
work_items work.Single construct names executes = single_items construct names executes

abbrev pub barrier_items : Tree → List Item
barrier_items construct = if has_nowait construct then [] else Sync construct sync.Worksharing stage.RegionBegin ∷ []

-- a lock or critical that was asked for
abbrev pub mutex_items : MutexKind → Tree → ℕ → Target → List Item
mutex_items mutex.Lock tree id to = Acquire tree mutex.Lock id ∷ []
mutex_items mutex.TestLock tree id to = TestLock tree id to ∷ []
mutex_items mutex.Critical tree id to = Acquire tree mutex.Critical id ∷ Start (construct_statement tree) ∷ Release tree id ∷ []

-- the tree at which an event stands: a construct or directive, or the call in a statement
abbrev pub call_in : NodeKind → Tree → Tree
call_in node.SetCall tree = child_at tree 1
call_in node.Called tree = child_at tree 0
call_in node.Return tree = child_at tree 0
call_in other tree = tree

abbrev pub tree_at_event : Item → Tree
tree_at_event (Start tree) = call_in (kind_of tree) tree
tree_at_event (Initialise tree entry) = child_at tree 0
tree_at_event (Inside construct) = construct
tree_at_event (EndWork construct kind count names) = construct
tree_at_event (Sync tree kind stage) = tree
tree_at_event other = nothing

-- what stands in place of the item of which an event is, where so many names are in scope
abbrev pub items_after : Point → Bool → ℕ → Item → List Item
items_after (ParallelBegin codeptr requested) executes names item = Forked (tree_at_event item) ∷ []
items_after (ParallelEnd codeptr) executes names item = []
items_after (TaskCreate codeptr undeferred) executes names item = []
items_after (WorkBegin codeptr work) executes names item =
    makes_cells (tree_at_event item) ++ work_items work (tree_at_event item) names executes
items_after (WorkEnd codeptr kind count) executes names item = barrier_items (tree_at_event item)
items_after (MaskedBegin codeptr) executes names item = Start (construct_statement (tree_at_event item)) ∷ EndMasked (tree_at_event item) ∷ []
items_after (MaskedEnd codeptr) executes names item = []
items_after (SyncPoint codeptr kind stage) executes names item = next_stage (tree_at_event item) kind stage
items_after (MutexAcquire codeptr id kind to) executes names item = mutex_items kind (tree_at_event item) id to
items_after (MutexAcquired codeptr id kind) executes names item = []
items_after (MutexReleased codeptr id kind) executes names item = []
items_after (LockInit codeptr id) executes names item = []
items_after (LockDestroy codeptr id) executes names item = []

-- the names in scope: a construct's own end with its work, and the variable of a declarator that tests a lock comes into scope
abbrev pub names_after : Point → Item → List Entry → List Entry
names_after (WorkEnd codeptr kind count) (EndWork construct ended whole names) env = take names env
names_after (MutexAcquire codeptr id kind to) (Initialise tree entry) env = env ++ entry ∷ []
names_after point item env = env

abbrev pub passed_at : List Item → Point → Bool → Task → Task
passed_at [] point executes task = task
passed_at (item ∷ items) point executes task =
    record task { todo = items_after point executes (length task.env) item ++ items; env = names_after point item task.env }

abbrev pub settled_after_event : Point → Bool → Task → Task
settled_after_event point executes task = passed_at task.todo point executes task

-- What is left of a task behind an event. `executes` counts at the begin of a `single` alone, and says whether the task executes it.
abbrev pub after_event : View → Point → Bool → Task → Task
after_event view point executes task = settled_after_event point executes (settled_task view task)
