-- What a task's code releases is a lock or a critical, and no test of a lock.
use Rattle.std.specs.Prelude.{ℕ, ◌≢◌, if◌then◌else◌, Bool, true, false, List, [], ◌∷◌, ◌++◌, Result, Ok, Err, ℤ, pos}
use Rattle.c_syntax.specs.declared.node.Directive.{Directive}
use Rattle.c_syntax.specs.declared.node.Directive.TheVariants as directive
use Rattle.c_syntax.specs.declared.node.LockCall.{LockCall}
use Rattle.c_syntax.specs.declared.node.LockCall.TheVariants as lock
use Rattle.c_syntax.specs.declared.node.Standalone.{Standalone}
use Rattle.c_syntax.specs.declared.node.Standalone.TheVariants as standalone
use Rattle.c_syntax.specs.declared.node.NodeKind.{NodeKind}
use Rattle.c_syntax.specs.declared.node.NodeKind.TheVariants as node
use Rattle.c_syntax.specs.language.Tree.{Tree, kind_of}
use Rattle.c_syntax.specs.language.Numbered.{TreeView}
use Rattle.c_check.specs.Loops.{child_at}
use Rattle.c_model.specs.declared.entry.Entry.{Entry}
use Rattle.c_model.specs.declared.limits.TheConstants.{CELLS}
use Rattle.c_model.specs.declared.point.MutexKind.TheVariants as mutex
use Rattle.c_model.specs.declared.point.Point.{Point}
use Rattle.c_model.specs.declared.point.Point.TheVariants.{MutexReleased, TaskCreate}
use Rattle.c_model.specs.declared.point.Target.{Target}
use Rattle.c_model.specs.declared.point.Target.TheVariants as target
use Rattle.c_model.specs.declared.view.View.{View}
use Rattle.c_model.specs.Program.{place_of}
use Rattle.c_model.specs.StepOutcomes.{scope_of, value_here, with_result}
use Rattle.c_model.specs.Value.{cell_of, is_zero}
use Rattle.c_model.specs.Calls.{begin_call, begin_lock_call, begin_return_of, begin_right}
use Rattle.c_model.specs.Clauses.{condition_of, requested_threads}
use Rattle.c_model.specs.Constructs.{begin_loop, begin_parallel, begin_task, value_or}
use Rattle.c_model.specs.Loops.{loop_of}
use Rattle.c_model.proofs.Fitting.{Fits}
use Rattle.c_model.specs.Step.{begin_construct, begin_inside, begin_standalone, begin_statement, items_from_next, silent, step_at, step_of}
use Rattle.c_model.specs.Task.{StepStart, Item, Moment, Outcome}
use Rattle.c_model.specs.Task.Item.{Start, Initialise, Forked, Inside, EndWork, EndMasked, Sync, Acquire, Release}
use Rattle.c_model.specs.Task.Outcome.{Occurs, Limits}
use Rattle.c_model.proofs.Standing.{fits-call, fits-item, fits-return, fits-statement}

-- where the event is a release, it is of no test
abbrev pub IsNoTest : Point → Type 0
IsNoTest (MutexReleased codeptr id which) = which ≢ mutex.TestLock
IsNoTest other = Unit {0}

-- so is the event that occurs
abbrev pub ReleasesNoTest : Outcome → Type 0
ReleasesNoTest (Occurs point tree) = IsNoTest point
ReleasesNoTest other = Unit {0}

quiet : (outcome : Outcome) → Fits outcome false → ReleasesNoTest outcome
unfolding Fits
quiet (Occurs point tree) fits = absurd fits
quiet other fits = tt

of-result : {A : Type 0} (result : Result A ℕ) (next : A → Outcome) → ((a : A) → ReleasesNoTest (next a)) → ReleasesNoTest (with_result result next)
of-result (Ok a) next each = each a
of-result (Err trap) next each = tt

of-right : (kind : NodeKind) (here : StepStart) (call : Tree) (env : List Entry) (to : Target) → ReleasesNoTest (begin_right kind here call env to)
of-right node.TestLock here call env to = tt
of-right other here call env to = quiet (begin_call here call env to) (fits-call here call env to)

of-return : (kind : NodeKind) (here : StepStart) (right : Tree) → ReleasesNoTest (begin_return_of kind here right)
of-return node.TestLock here right = tt
of-return other here right = quiet (begin_return_of other here right) (fits-return other here right)

of-lock : (which : LockCall) (here : StepStart) (tree : Tree) → ReleasesNoTest (begin_lock_call which here tree)
of-lock lock.Init here tree = tt
of-lock lock.Destroy here tree = tt
of-lock lock.Set here tree = tt
of-lock lock.Unset here tree = λ is. cc

of-standalone : (which : Standalone) (tree : Tree) → ReleasesNoTest (begin_standalone which tree)
of-standalone standalone.Barrier tree = tt
of-standalone standalone.Taskwait tree = tt

of-parallel : (here : StepStart) (tree : Tree) → ReleasesNoTest (begin_parallel here tree)
of-parallel here tree = of-result (value_or (pos here.view.max) here (requested_threads tree)) _ (λ number. tt)

of-loop : (here : StepStart) (tree : Tree) → ReleasesNoTest (begin_loop here tree)
of-loop here tree =
    of-result (value_here here (loop_of tree).start) _ (λ start. of-result (value_here here (loop_of tree).end) _ (λ end. tt))

of-creates : (full : Bool) (tree : Tree) (number : ℤ) → ReleasesNoTest (if full then Limits CELLS else Occurs (TaskCreate (place_of tree) (is_zero number)) tree)
of-creates true tree number = tt
of-creates false tree number = tt

of-task : (here : StepStart) (tree : Tree) → ReleasesNoTest (begin_task here tree)
of-task here tree = of-result (value_or (pos 1) here (condition_of tree)) _ (λ number. of-creates _ tree number)

of-construct : (which : Directive) (here : StepStart) (tree : Tree) → ReleasesNoTest (begin_construct which here tree)
of-construct directive.Parallel here tree = of-parallel here tree
of-construct directive.For here tree = of-loop here tree
of-construct directive.Sections here tree = tt
of-construct directive.Single here tree = tt
of-construct directive.ParallelFor here tree = of-parallel here tree
of-construct directive.ParallelSections here tree = of-parallel here tree
of-construct directive.Masked here tree = tt
of-construct directive.Master here tree = tt
of-construct directive.Critical here tree = tt
of-construct directive.Task here tree = of-task here tree

of-inside : (kind : NodeKind) (here : StepStart) (tree : Tree) → ReleasesNoTest (begin_inside kind here tree)
of-inside (node.Construct directive.ParallelFor) here tree = of-loop here tree
of-inside (node.Construct directive.ParallelSections) here tree = tt
of-inside other here tree = tt

of-statement : (kind : NodeKind) (here : StepStart) (tree : Tree) → ReleasesNoTest (begin_statement kind here tree)
of-statement node.Return here tree = of-return (kind_of (child_at tree 0)) here (child_at tree 0)
of-statement node.SetCall here tree =
    of-result (cell_of (scope_of here) (child_at tree 0)) _ (λ cell.
    of-right (kind_of (child_at tree 1)) here (child_at tree 1) here.task.env (target.Cell cell))
of-statement node.Called here tree = of-right (kind_of (child_at tree 0)) here (child_at tree 0) here.task.env target.Nowhere
of-statement (node.LockCall which) here tree = of-lock which here tree
of-statement (node.Standalone which) here tree = of-standalone which tree
of-statement (node.Construct which) here tree = of-construct which here tree
of-statement other here tree = quiet (begin_statement other here tree) (fits-statement other here tree)

of-item : (item : Item) (here : StepStart) → ReleasesNoTest (step_of item here)
of-item (Start tree) here = of-statement (kind_of tree) here tree
of-item (Initialise tree entry) here =
    of-right (kind_of (child_at tree 0)) here (child_at tree 0) (here.task.env ++ entry ∷ []) (target.Cell entry.first)
of-item (Forked construct) here = tt
of-item (Inside construct) here = of-inside (kind_of construct) here construct
of-item (EndWork construct kind count names) here = tt
of-item (EndMasked construct) here = tt
of-item (Sync tree kind stage) here = tt
of-item (Acquire tree kind id) here = tt
of-item (Release tree id) here = λ is. cc
of-item other here = quiet (step_of other here) (fits-item other here)

of-next : (items : List Item) (program : TreeView) (view : View) (now : Moment) → ReleasesNoTest (step_at items program view now)
of-next [] program view now = tt
of-next (item ∷ items) program view now =
    of-item item (record { program = program; view = view; task = record now.task { todo = items }; store = now.store })

pub releases-no-test : (program : TreeView) (view : View) (now : Moment) → ReleasesNoTest (silent program view now)
unfolding silent
releases-no-test program view now = of-next (items_from_next view now.task.todo) program view now
