-- What stands next is told by its form.
use Rattle.std.specs.Prelude.{ℕ, ◌≡◌, if◌then◌else◌, Bool, true, false, List, [], ◌∷◌, ◌++◌, length, Result, Ok, Err, ℤ, pos, refl}
use Rattle.std.proofs.Common.{subst}
use Rattle.c_syntax.specs.declared.node.Directive.{Directive}
use Rattle.c_syntax.specs.declared.node.Directive.TheVariants as directive
use Rattle.c_syntax.specs.declared.node.LockCall.{LockCall}
use Rattle.c_syntax.specs.declared.node.LockCall.TheVariants as lock
use Rattle.c_syntax.specs.declared.node.Standalone.{Standalone}
use Rattle.c_syntax.specs.declared.node.Standalone.TheVariants as standalone
use Rattle.c_syntax.specs.declared.node.NodeKind.{NodeKind}
use Rattle.c_syntax.specs.declared.node.NodeKind.TheVariants as node
use Rattle.c_syntax.specs.language.Tree.{Tree, kind_of}
use Rattle.c_syntax.specs.language.Numbered.{TreeView}
use Rattle.c_check.specs.Loops.{child_at}
use Rattle.c_model.specs.declared.point.Point.{Point}
use Rattle.c_model.specs.declared.question.Ask.{Ask}
use Rattle.c_model.specs.declared.point.Target.{Target}
use Rattle.c_model.specs.declared.point.Target.TheVariants as target
use Rattle.c_model.specs.declared.view.View.{View}
use Rattle.c_model.specs.declared.entry.Entry.{Entry}
use Rattle.c_model.specs.Cells.{Bound}
use Rattle.c_model.specs.StepOutcomes.{binds, with_result}
use Rattle.c_model.specs.Calls.{begin_call, begin_right, begin_lock_call, begin_return_of, enters, returns_to}
use Rattle.c_model.specs.Statements.{begin_local_set, declares, makes_first_step, makes_step}
use Rattle.c_model.specs.Task.{StepStart, Item, Moment, OpenCall, Outcome}
use Rattle.c_model.specs.Task.Item.{Start, Declare, Leave, Test, Third, Initialise, Return, FallOff, Forked, Inside, MakeCells, NextChunk, Iterations, NextSection, Combine, EndWork, EndMasked, Sync, Acquire, Release, TestLock, Tested}
use Rattle.c_model.specs.Task.Outcome.{StepsTo, Asks, Occurs, Ends, Traps, Limits}
use Rattle.c_model.specs.Step.{begin_standalone, begin_statement, begin_construct, begin_inside, is_event, is_event_statement, is_inside_event, is_test, items_from_next, silent, stands, step_at, step_of, stands_at}
use Rattle.c_model.specs.NextIsEvent.{FitsTask}
use Rattle.c_model.proofs.Fitting.{Fits}

-- outcomes by their kind
fits-step : (next : Moment) → Fits (StepsTo next) false
unfolding Fits
fits-step next = tt

fits-question : (ask : Ask) (tree : Tree) → Fits (Asks ask tree) false
unfolding Fits
fits-question ask tree = tt

fits-event : (point : Point) (tree : Tree) → Fits (Occurs point tree) true
unfolding Fits
fits-event point tree = tt

fits-trap : (trap : ℕ) (stands : Bool) → Fits (Traps trap) stands
unfolding Fits
fits-trap trap stands = tt

fits-limit : (limit : ℕ) (stands : Bool) → Fits (Limits limit) stands
unfolding Fits
fits-limit limit stands = tt

-- an outcome with what was evaluated, and one of two
fits-result : {A : Type 0} (stands : Bool) (result : Result A ℕ) (next : A → Outcome) → ((a : A) → Fits (next a) stands) → Fits (with_result result next) stands
fits-result stands (Ok a) next each = each a
fits-result stands (Err trap) next each = fits-trap trap stands

fits-choice : (stands choice : Bool) (one other : Outcome) → Fits one stands → Fits other stands → Fits (if choice then one else other) stands
fits-choice stands true one other first second = first
fits-choice stands false one other first second = second

-- calls and returns
fits-returns : (calls : List OpenCall) (here : StepStart) (number : ℤ) → Fits (returns_to calls here number) false
fits-returns [] here number = fits-step _
fits-returns (call ∷ calls) here number = fits-step _

fits-binds : (here : StepStart) (bound : Bound) (items : List Item) → Fits (binds here bound items) false
fits-binds here bound items = fits-choice _ _ _ _ (fits-limit _ _) (fits-step _)

fits-enters : (here : StepStart) (function : Tree) (call : OpenCall) (bound : Bound) → Fits (enters here function call bound) false
fits-enters here function call bound = search (fits-choice, fits-limit, fits-step)

pub fits-call : (here : StepStart) (call : Tree) (env : List Entry) (to : Target) → Fits (begin_call here call env to) false
fits-call here call env to = search (fits-result, fits-enters)

fits-right : (kind : NodeKind) (here : StepStart) (call : Tree) (env : List Entry) (to : Target) → Fits (begin_right kind here call env to) (is_test kind)
fits-right node.TestLock here call env to = fits-event _ _
fits-right other here call env to = fits-call here call env to

ruleset fits = (fits-step, fits-question, fits-event, fits-trap, fits-limit, fits-result, fits-choice, fits-binds, fits-call, fits-right, fits-returns)

fits-step-of : (kind : NodeKind) (here : StepStart) (tree : Tree) (items : List Item) → Fits (makes_step kind here tree items) false
fits-step-of (node.Assign which) here tree items = search fits
fits-step-of (node.Bump which side) here tree items = search fits
fits-step-of other here tree items = fits-step _

fits-first-step : (kind : NodeKind) (here : StepStart) (tree : Tree) (items : List Item) → Fits (makes_first_step kind here tree items) false
fits-first-step node.Init here tree items = search fits
fits-first-step other here tree items = fits-step-of other here tree items

pub fits-return : (kind : NodeKind) (here : StepStart) (tree : Tree) → Fits (begin_return_of kind here tree) (is_test kind)
fits-return node.Call here tree = fits-call here tree here.task.env target.Return
fits-return node.TestLock here tree = fits-event _ _
fits-return other here tree = search fits

pub fits-lock : (which : LockCall) (here : StepStart) (tree : Tree) → Fits (begin_lock_call which here tree) true
fits-lock lock.Init here tree = fits-event _ _
fits-lock lock.Destroy here tree = fits-event _ _
fits-lock lock.Set here tree = fits-event _ _
fits-lock lock.Unset here tree = fits-event _ _

fits-local : (kind : NodeKind) (here : StepStart) (tree : Tree) → Fits (begin_local_set kind here tree) false
fits-local node.Call here tree = search fits
fits-local node.TestLock here tree = search fits
fits-local other here tree = search fits

fits-declares : (kind : NodeKind) (here : StepStart) (tree : Tree) → Fits (declares kind here tree) false
fits-declares node.LocalSet here tree = fits-local (kind_of (child_at tree 0)) here tree
fits-declares other here tree = search fits

pub fits-standalone : (which : Standalone) (tree : Tree) → Fits (begin_standalone which tree) true
fits-standalone standalone.Barrier tree = fits-event _ _
fits-standalone standalone.Taskwait tree = fits-event _ _

pub fits-construct : (which : Directive) (here : StepStart) (tree : Tree) → Fits (begin_construct which here tree) true
fits-construct directive.Parallel here tree = search fits
fits-construct directive.For here tree = search fits
fits-construct directive.Sections here tree = fits-event _ _
fits-construct directive.Single here tree = fits-event _ _
fits-construct directive.ParallelFor here tree = search fits
fits-construct directive.ParallelSections here tree = search fits
fits-construct directive.Masked here tree = fits-event _ _
fits-construct directive.Master here tree = fits-event _ _
fits-construct directive.Critical here tree = fits-event _ _
fits-construct directive.Task here tree = search fits

pub fits-inside : (kind : NodeKind) (here : StepStart) (tree : Tree) → Fits (begin_inside kind here tree) (is_inside_event kind)
fits-inside (node.Construct directive.ParallelFor) here tree = search fits
fits-inside (node.Construct directive.ParallelSections) here tree = fits-event _ _
fits-inside other here tree = fits-step _

pub fits-statement : (kind : NodeKind) (here : StepStart) (tree : Tree) → Fits (begin_statement kind here tree) (is_event_statement kind tree)
fits-statement node.Empty here tree = fits-step _
fits-statement node.Block here tree = fits-step _
fits-statement node.If here tree = search fits
fits-statement node.While here tree = search fits
fits-statement node.For here tree = fits-first-step (kind_of (child_at tree 0)) here (child_at tree 0) (Test tree (length here.task.env) ∷ [])
fits-statement node.Return here tree = fits-return (kind_of (child_at tree 0)) here (child_at tree 0)
fits-statement node.SetCall here tree = search fits
fits-statement node.Step here tree = fits-step-of (kind_of (child_at tree 0)) here (child_at tree 0) []
fits-statement node.Called here tree = fits-right (kind_of (child_at tree 0)) here (child_at tree 0) here.task.env target.Nowhere
fits-statement node.Print here tree = search fits
fits-statement (node.LockCall which) here tree = fits-lock which here tree
fits-statement (node.Standalone which) here tree = fits-standalone which tree
fits-statement (node.Construct which) here tree = fits-construct which here tree
fits-statement other here tree = fits-step _

pub fits-item : (item : Item) (here : StepStart) → Fits (step_of item here) (is_event item)
fits-item (Start tree) here = fits-statement (kind_of tree) here tree
fits-item (Declare tree) here = fits-declares (kind_of tree) here tree
fits-item (Leave names) here = fits-step _
fits-item (Test tree names) here = search fits
fits-item (Third tree names) here = fits-step-of (kind_of (child_at tree 2)) here (child_at tree 2) (Test tree names ∷ [])
fits-item (Initialise tree entry) here = fits-right (kind_of (child_at tree 0)) here (child_at tree 0) (here.task.env ++ entry ∷ []) (target.Cell entry.first)
fits-item (Return number) here = fits-returns here.task.calls here number
fits-item FallOff here = fits-returns here.task.calls here (pos 0)
fits-item (Forked construct) here = fits-event _ _
fits-item (Inside construct) here = fits-inside (kind_of construct) here construct
fits-item (MakeCells construct) here = search fits
fits-item (NextChunk loop) here = fits-question _ _
fits-item (Iterations loop at upto) here = fits-step _
fits-item (NextSection construct names) here = fits-question _ _
fits-item (Combine operator name names) here = search fits
fits-item (EndWork construct kind count names) here = fits-event _ _
fits-item (EndMasked construct) here = fits-event _ _
fits-item (Sync tree kind stage) here = fits-event _ _
fits-item (Acquire tree kind id) here = fits-event _ _
fits-item (Release tree id) here = fits-event _ _
fits-item (TestLock call id to) here = fits-question _ _
fits-item (Tested to) here = fits-step _

fits-of-item : (outcome : Outcome) (stands : Bool) → Fits outcome stands → FitsTask outcome stands
unfolding Fits FitsTask
fits-of-item (StepsTo next) true fits = fits
fits-of-item (StepsTo next) false fits = fits
fits-of-item (Asks ask tree) true fits = fits
fits-of-item (Asks ask tree) false fits = fits
fits-of-item (Occurs point tree) true fits = fits
fits-of-item (Occurs point tree) false fits = fits
fits-of-item (Ends number) stands fits = absurd fits
fits-of-item (Traps trap) stands fits = tt
fits-of-item (Limits limit) stands fits = tt

fits-end : (number : ℤ) → FitsTask (Ends number) true
unfolding FitsTask
fits-end number = tt

fits-at : (items : List Item) (program : TreeView) (view : View) (now : Moment) → FitsTask (step_at items program view now) (stands_at items)
fits-at [] program view now = fits-end _
fits-at (item ∷ items) program view now = fits-of-item _ _ (fits-item item (record { program = program; view = view; task = record now.task { todo = items }; store = now.store }))

-- whether an event or the end stands next, for every task
pub stands_fits : (program : TreeView) (view : View) (now : Moment) → FitsTask (silent program view now) (stands view now.task)
unfolding silent
stands_fits program view now = fits-at (items_from_next view now.task.todo) program view now

-- the code ends only where nothing is left of it
ends-nothing : (items : List Item) (program : TreeView) (view : View) (now : Moment) (number : ℤ) → step_at items program view now ≡ Ends number → items ≡ []
unfolding Fits
ends-nothing [] program view now number ends = refl
ends-nothing (item ∷ items) program view now number ends =
    absurd (subst (λ outcome. Fits outcome (is_event item)) ends (fits-item item (record { program = program; view = view; task = record now.task { todo = items }; store = now.store })))

pub end_is_of_nothing : (program : TreeView) (view : View) (now : Moment) (number : ℤ) → silent program view now ≡ Ends number → items_from_next view now.task.todo ≡ []
unfolding silent
end_is_of_nothing program view now number ends = ends-nothing (items_from_next view now.task.todo) program view now number ends
