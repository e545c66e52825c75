-- What a task does next: a line for each form of statement, and for each stage of a construct.
use Rattle.std.specs.Prelude.{◌==◌, ◌&&◌, if◌then◌else◌, Bool, true, false, not, List, [], ◌∷◌, pos, unwrap_or}
use Rattle.c_syntax.specs.declared.node.Directive.{Directive}
use Rattle.c_syntax.specs.declared.node.Directive.TheVariants as directive
use Rattle.c_syntax.specs.declared.node.Standalone.{Standalone}
use Rattle.c_syntax.specs.declared.node.Standalone.TheVariants as standalone
use Rattle.c_syntax.specs.declared.node.NodeKind.{NodeKind}
use Rattle.c_syntax.specs.declared.node.NodeKind.TheVariants as node
use Rattle.c_syntax.specs.language.Tree.{Tree, kind_of}
use Rattle.c_syntax.specs.language.Numbered.{TreeView}
use Rattle.c_model.specs.declared.point.SyncKind.TheVariants as sync
use Rattle.c_model.specs.declared.point.SyncStage.TheVariants as stage
use Rattle.c_model.specs.declared.question.Ask.TheVariants as ask
use Rattle.c_model.specs.declared.view.View.{View}
use Rattle.c_model.specs.Task.{StepStart, Item, Moment, Outcome, Task}
use Rattle.c_model.specs.Task.Item.{Start, Declare, Leave, Test, Third, Initialise, Return, FallOff, Forked, Inside, MakeCells, NextChunk, Iterations, NextSection, Combine, EndWork, EndMasked, Sync, Acquire, Release, TestLock, Tested}
use Rattle.c_model.specs.Task.Outcome.{Asks, Ends}
use Rattle.c_model.specs.Statements.{begin_block, begin_empty, begin_for, begin_if, begin_print, begin_step, begin_while, declares, leave_block, test_for, third_for}
use Rattle.c_model.specs.Calls.{begin_called, begin_initialise, begin_lock_call, begin_return, begin_set_call, ends_test, returns}
use Rattle.c_model.specs.Constructs.{acquires, begin_critical, begin_iteration, begin_loop, begin_masked, begin_parallel, begin_sections, begin_single, begin_task, combine, end_masked, end_parallel, end_work, make_cells, next_chunk, next_section, releases, synchronises}
use Rattle.c_check.specs.Loops.{child_at}

abbrev pub begin_standalone : Standalone → Tree → Outcome
begin_standalone standalone.Barrier tree = synchronises tree sync.Barrier stage.RegionBegin
begin_standalone standalone.Taskwait tree = synchronises tree sync.Taskwait stage.RegionBegin

-- a combined directive begins as the parallel construct that it has outside
abbrev pub begin_construct : Directive → StepStart → Tree → Outcome
begin_construct directive.Parallel here construct = begin_parallel here construct
begin_construct directive.For here construct = begin_loop here construct
begin_construct directive.Sections here construct = begin_sections construct
begin_construct directive.Single here construct = begin_single construct
begin_construct directive.ParallelFor here construct = begin_parallel here construct
begin_construct directive.ParallelSections here construct = begin_parallel here construct
begin_construct directive.Masked here construct = begin_masked construct
begin_construct directive.Master here construct = begin_masked construct
begin_construct directive.Critical here construct = begin_critical here construct
begin_construct directive.Task here construct = begin_task here construct

-- a statement begins. What can't stand as one is an empty statement
abbrev pub begin_statement : NodeKind → StepStart → Tree → Outcome
begin_statement node.Empty here tree = begin_empty here
begin_statement node.Block here tree = begin_block here tree
begin_statement node.If here tree = begin_if here tree
begin_statement node.While here tree = begin_while here tree
begin_statement node.For here tree = begin_for here tree
begin_statement node.Return here tree = begin_return here tree
begin_statement node.SetCall here tree = begin_set_call here tree
begin_statement node.Step here tree = begin_step here tree
begin_statement node.Called here tree = begin_called here tree
begin_statement node.Print here tree = begin_print here tree
begin_statement (node.LockCall which) here tree = begin_lock_call which here tree
begin_statement (node.Standalone which) here tree = begin_standalone which tree
begin_statement (node.Construct which) here tree = begin_construct which here tree
begin_statement other here tree = begin_empty here

-- the construct that a combined directive has inside
abbrev pub begin_inside : NodeKind → StepStart → Tree → Outcome
begin_inside (node.Construct directive.ParallelFor) here construct = begin_loop here construct
begin_inside (node.Construct directive.ParallelSections) here construct = begin_sections construct
begin_inside other here construct = begin_empty here

abbrev pub step_of : Item → StepStart → Outcome
step_of (Start tree) here = begin_statement (kind_of tree) here tree
step_of (Declare tree) here = declares (kind_of tree) here tree
step_of (Leave names) here = leave_block here names
step_of (Test tree names) here = test_for here tree names
step_of (Third tree names) here = third_for here tree names
step_of (Initialise tree entry) here = begin_initialise here tree entry
step_of (Return number) here = returns here number
step_of FallOff here = returns here (pos 0)
step_of (Forked construct) here = end_parallel construct
step_of (Inside construct) here = begin_inside (kind_of construct) here construct
step_of (MakeCells construct) here = make_cells here construct
step_of (NextChunk loop) here = next_chunk loop
step_of (Iterations loop at upto) here = begin_iteration here loop at upto
step_of (NextSection construct names) here = next_section construct
step_of (Combine operator name names) here = combine here operator name names
step_of (EndWork construct kind count names) here = end_work construct kind count
step_of (EndMasked construct) here = end_masked construct
step_of (Sync tree kind stage) here = synchronises tree kind stage
step_of (Acquire tree kind id) here = acquires tree kind id
step_of (Release tree id) here = releases tree id
step_of (TestLock call id to) here = Asks (ask.LockFree id) call
step_of (Tested to) here = ends_test here to

-- A member of a team other than member 0 goes past a `masked` construct without a step (OpenMP 5.2, 10.5).
abbrev pub is_masked : NodeKind → Bool
is_masked (node.Construct directive.Masked) = true
is_masked (node.Construct directive.Master) = true
is_masked other = false

abbrev pub skips_masked : Item → View → Bool
skips_masked (Start tree) view = is_masked (kind_of tree) && not (view.index == 0)
skips_masked other view = false

unfoldable pub items_from_next : View → List Item → List Item
items_from_next view [] = []
items_from_next view (item ∷ items) = if skips_masked item view then items_from_next view items else item ∷ items

-- the task without what it goes past: what stands next stands first
abbrev pub settled_task : View → Task → Task
settled_task view task = record task { todo = items_from_next view task.todo }

abbrev pub settled_moment : View → Moment → Moment
settled_moment view now = record now { task = settled_task view now.task }

-- a task for which nothing is left has ended
abbrev pub step_at : List Item → TreeView → View → Moment → Outcome
step_at [] program view now = Ends (unwrap_or now.task.returned (pos 0))
step_at (item ∷ items) program view now =
    step_of item (record { program = program; view = view; task = record now.task { todo = items }; store = now.store })

-- what a task that goes on comes to
unfoldable pub silent : TreeView → View → Moment → Outcome
silent program view now = step_at (items_from_next view now.task.todo) program view now

-- What is an event by its form. A call is one where it tests a lock.
abbrev pub is_test : NodeKind → Bool
is_test node.TestLock = true
is_test other = false

abbrev pub is_event_statement : NodeKind → Tree → Bool
is_event_statement node.SetCall tree = is_test (kind_of (child_at tree 1))
is_event_statement node.Called tree = is_test (kind_of (child_at tree 0))
is_event_statement node.Return tree = is_test (kind_of (child_at tree 0))
is_event_statement (node.LockCall which) tree = true
is_event_statement (node.Standalone which) tree = true
is_event_statement (node.Construct which) tree = true
is_event_statement other tree = false

abbrev pub is_inside_event : NodeKind → Bool
is_inside_event (node.Construct directive.ParallelFor) = true
is_inside_event (node.Construct directive.ParallelSections) = true
is_inside_event other = false

abbrev pub is_event : Item → Bool
is_event (Start tree) = is_event_statement (kind_of tree) tree
is_event (Initialise tree entry) = is_test (kind_of (child_at tree 0))
is_event (Forked construct) = true
is_event (Inside construct) = is_inside_event (kind_of construct)
is_event (EndWork construct kind count names) = true
is_event (EndMasked construct) = true
is_event (Sync tree kind stage) = true
is_event (Acquire tree kind id) = true
is_event (Release tree id) = true
is_event other = false

-- Whether an event, or the end, stands next. Then no silent step does, and nothing is asked.
abbrev pub stands_at : List Item → Bool
stands_at [] = true
stands_at (item ∷ items) = is_event item

abbrev pub stands : View → Task → Bool
stands view task = stands_at (items_from_next view task.todo)
