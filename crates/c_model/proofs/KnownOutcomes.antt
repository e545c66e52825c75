-- What a task's code traps with, and which limits it meets.
use Rattle.std.specs.Prelude.{ℕ, if◌then◌else◌, Bool, true, false, List, [], ◌∷◌, ◌++◌, length, Result, Ok, Err, ℤ, pos}
use Rattle.c_syntax.specs.declared.node.Directive.{Directive}
use Rattle.c_syntax.specs.declared.node.Directive.TheVariants as directive
use Rattle.c_syntax.specs.declared.node.LockCall.{LockCall}
use Rattle.c_syntax.specs.declared.node.LockCall.TheVariants as lock
use Rattle.c_syntax.specs.declared.node.Standalone.{Standalone}
use Rattle.c_syntax.specs.declared.node.Standalone.TheVariants as standalone
use Rattle.c_syntax.specs.declared.node.NodeKind.{NodeKind}
use Rattle.c_syntax.specs.declared.node.NodeKind.TheVariants as node
use Rattle.c_syntax.specs.language.Tree.{Tree, kind_of}
use Rattle.c_syntax.specs.language.Numbered.{TreeView}
use Rattle.c_check.specs.Loops.{child_at}
use Rattle.c_model.specs.declared.point.Point.{Point}
use Rattle.c_model.specs.declared.question.Ask.{Ask}
use Rattle.c_model.specs.declared.point.Target.{Target}
use Rattle.c_model.specs.declared.point.Target.TheVariants as target
use Rattle.c_model.specs.declared.view.View.{View}
use Rattle.c_model.specs.declared.entry.Entry.{Entry}
use Rattle.c_model.specs.Cells.{Bound}
use Rattle.c_model.specs.StepOutcomes.{binds, with_result}
use Rattle.c_model.specs.Calls.{begin_call, begin_right, begin_lock_call, begin_return_of, enters, returns_to}
use Rattle.c_model.specs.Task.{StepStart, Item, Moment, OpenCall, Outcome}
use Rattle.c_model.specs.Task.Item.{Start, Declare, Leave, Test, Third, Initialise, Return, FallOff, Forked, Inside, MakeCells, NextChunk, Iterations, NextSection, Combine, EndWork, EndMasked, Sync, Acquire, Release, TestLock, Tested}
use Rattle.c_model.specs.Task.Outcome.{StepsTo, Asks, Occurs, Ends, Limits}
use Rattle.std.specs.Prelude.{Option, Some, None, refl}
use Rattle.std.proofs.Common.{inl, inr}
use Rattle.c_syntax.specs.declared.node.ReductionOp.{ReductionOp}
use Rattle.c_syntax.specs.declared.node.ReductionOp.TheVariants as reduction
use Rattle.c_syntax.specs.declared.node.Setting.{Setting}
use Rattle.c_syntax.specs.declared.node.Setting.TheVariants as setting
use Rattle.c_syntax.specs.declared.node.BinaryOp.TheVariants as binary
use Rattle.c_model.specs.Parts.{has_child}
use Rattle.c_model.specs.StepOutcomes.{scope_of, value_here}
use Rattle.c_model.specs.Statements.{begin_local_set, declares, makes_first_step, makes_step, new_number, test_value}
use Rattle.c_model.specs.Constructs.{reduction_result, value_or}
use Rattle.c_model.specs.Step.{begin_construct, begin_inside, begin_standalone, begin_statement, items_from_next, silent, step_at, step_of}
use Rattle.c_model.specs.TrapsAndLimits.{IsKnown, IsLimit}
use Rattle.c_model.proofs.KnownValues.{IsKnownResult, known-all, known-both, known-cell-of, known-choice, known-err, known-ok, known-value, overflow}

known-step : (next : Moment) → IsKnown (StepsTo next)
unfolding IsKnown
known-step next = tt

known-question : (ask : Ask) (tree : Tree) → IsKnown (Asks ask tree)
unfolding IsKnown
known-question ask tree = tt

known-event : (point : Point) (tree : Tree) → IsKnown (Occurs point tree)
unfolding IsKnown
known-event point tree = tt

known-end : (number : ℤ) → IsKnown (Ends number)
unfolding IsKnown
known-end number = tt

known-limit : (limit : ℕ) → IsLimit limit → IsKnown (Limits limit)
unfolding IsKnown
known-limit limit is = is

cells : IsKnown (Limits 3)
cells = known-limit 3 (inl refl)

calls : IsKnown (Limits 6)
calls = known-limit 6 (inr (inl refl))

text : IsKnown (Limits 7)
text = known-limit 7 (inr (inr refl))

known-result : {A : Type 0} (result : Result A ℕ) (next : A → Outcome) → IsKnownResult result → ((a : A) → IsKnown (next a)) → IsKnown (with_result result next)
unfolding IsKnown IsKnownResult
known-result (Ok a) next is each = each a
known-result (Err trap) next is each = is

known-either : (choice : Bool) (one other : Outcome) → IsKnown one → IsKnown other → IsKnown (if choice then one else other)
known-either true one other first second = first
known-either false one other first second = second

known-returns : (calls : List OpenCall) (here : StepStart) (number : ℤ) → IsKnown (returns_to calls here number)
known-returns [] here number = known-step _
known-returns (call ∷ calls) here number = known-step _

known-binds : (here : StepStart) (bound : Bound) (items : List Item) → IsKnown (binds here bound items)
known-binds here bound items = search (known-either, cells, known-step)

known-enters : (here : StepStart) (function : Tree) (call : OpenCall) (bound : Bound) → IsKnown (enters here function call bound)
known-enters here function call bound = search (known-either, cells, calls, known-step)

known-call : (here : StepStart) (call : Tree) (env : List Entry) (to : Target) → IsKnown (begin_call here call env to)
known-call here call env to = search (known-result, known-all, known-enters)

known-right : (kind : NodeKind) (here : StepStart) (call : Tree) (env : List Entry) (to : Target) → IsKnown (begin_right kind here call env to)
known-right node.TestLock here call env to = known-event _ _
known-right other here call env to = known-call here call env to

known-new : (which : Setting) (held : ℤ) (right : Result ℤ ℕ) → IsKnownResult right → IsKnownResult (new_number which held right)
known-new setting.Plain held right is = is
known-new setting.Add held right is = known-both binary.Add (Ok held) right (known-ok held) is
known-new setting.Subtract held right is = known-both binary.Subtract (Ok held) right (known-ok held) is
known-new setting.Multiply held right is = known-both binary.Multiply (Ok held) right (known-ok held) is
known-new setting.Divide held right is = known-both binary.Divide (Ok held) right (known-ok held) is
known-new setting.Remainder held right is = known-both binary.Remainder (Ok held) right (known-ok held) is

known-test : (here : StepStart) (tree : Tree) → IsKnownResult (test_value here tree)
known-test here tree = known-choice (has_child tree 1) (value_here here (child_at tree 1)) (Ok (pos 1)) (known-value (scope_of here) (child_at tree 1)) (known-ok _)

known-or : (other : ℤ) (here : StepStart) (expression : Option Tree) → IsKnownResult (value_or other here expression)
known-or other here None = known-ok _
known-or other here (Some expression) = known-value (scope_of here) expression

known-reduction : (operator : ReductionOp) (around own : ℤ) → IsKnownResult (reduction_result operator around own)
known-reduction reduction.Add around own = search (known-choice, known-ok, known-err, overflow)
known-reduction reduction.Multiply around own = search (known-choice, known-ok, known-err, overflow)
known-reduction reduction.Max around own = known-ok _
known-reduction reduction.Min around own = known-ok _

ruleset known = (known-step, known-question, known-event, known-end, known-result, known-either, known-binds, known-call, known-right, known-returns, known-value, known-all, known-cell-of, known-new, known-test, known-or, known-reduction, known-ok, cells, calls, text)

known-step-of : (kind : NodeKind) (here : StepStart) (tree : Tree) (items : List Item) → IsKnown (makes_step kind here tree items)
known-step-of (node.Assign which) here tree items = search known
known-step-of (node.Bump which side) here tree items = search known
known-step-of other here tree items = known-step _

known-first-step : (kind : NodeKind) (here : StepStart) (tree : Tree) (items : List Item) → IsKnown (makes_first_step kind here tree items)
known-first-step node.Init here tree items = search known
known-first-step other here tree items = known-step-of other here tree items

known-return : (kind : NodeKind) (here : StepStart) (tree : Tree) → IsKnown (begin_return_of kind here tree)
known-return node.Call here tree = known-call here tree here.task.env target.Return
known-return node.TestLock here tree = known-event _ _
known-return other here tree = search known

known-lock : (which : LockCall) (here : StepStart) (tree : Tree) → IsKnown (begin_lock_call which here tree)
known-lock lock.Init here tree = known-event _ _
known-lock lock.Destroy here tree = known-event _ _
known-lock lock.Set here tree = known-event _ _
known-lock lock.Unset here tree = known-event _ _

known-local : (kind : NodeKind) (here : StepStart) (tree : Tree) → IsKnown (begin_local_set kind here tree)
known-local node.Call here tree = search known
known-local node.TestLock here tree = search known
known-local other here tree = search known

known-declares : (kind : NodeKind) (here : StepStart) (tree : Tree) → IsKnown (declares kind here tree)
known-declares node.LocalSet here tree = known-local (kind_of (child_at tree 0)) here tree
known-declares other here tree = search known

known-standalone : (which : Standalone) (tree : Tree) → IsKnown (begin_standalone which tree)
known-standalone standalone.Barrier tree = known-event _ _
known-standalone standalone.Taskwait tree = known-event _ _

known-construct : (which : Directive) (here : StepStart) (tree : Tree) → IsKnown (begin_construct which here tree)
known-construct directive.Parallel here tree = search known
known-construct directive.For here tree = search known
known-construct directive.Sections here tree = known-event _ _
known-construct directive.Single here tree = known-event _ _
known-construct directive.ParallelFor here tree = search known
known-construct directive.ParallelSections here tree = search known
known-construct directive.Masked here tree = known-event _ _
known-construct directive.Master here tree = known-event _ _
known-construct directive.Critical here tree = known-event _ _
known-construct directive.Task here tree = search known

known-inside : (kind : NodeKind) (here : StepStart) (tree : Tree) → IsKnown (begin_inside kind here tree)
known-inside (node.Construct directive.ParallelFor) here tree = search known
known-inside (node.Construct directive.ParallelSections) here tree = known-event _ _
known-inside other here tree = known-step _

known-statement : (kind : NodeKind) (here : StepStart) (tree : Tree) → IsKnown (begin_statement kind here tree)
known-statement node.Empty here tree = known-step _
known-statement node.Block here tree = known-step _
known-statement node.If here tree = search known
known-statement node.While here tree = search known
known-statement node.For here tree = known-first-step (kind_of (child_at tree 0)) here (child_at tree 0) (Test tree (length here.task.env) ∷ [])
known-statement node.Return here tree = known-return (kind_of (child_at tree 0)) here (child_at tree 0)
known-statement node.SetCall here tree = search known
known-statement node.Step here tree = known-step-of (kind_of (child_at tree 0)) here (child_at tree 0) []
known-statement node.Called here tree = known-right (kind_of (child_at tree 0)) here (child_at tree 0) here.task.env target.Nowhere
known-statement node.Print here tree = search known
known-statement (node.LockCall which) here tree = known-lock which here tree
known-statement (node.Standalone which) here tree = known-standalone which tree
known-statement (node.Construct which) here tree = known-construct which here tree
known-statement other here tree = known-step _

known-item : (item : Item) (here : StepStart) → IsKnown (step_of item here)
known-item (Start tree) here = known-statement (kind_of tree) here tree
known-item (Declare tree) here = known-declares (kind_of tree) here tree
known-item (Leave names) here = known-step _
known-item (Test tree names) here = search known
known-item (Third tree names) here = known-step-of (kind_of (child_at tree 2)) here (child_at tree 2) (Test tree names ∷ [])
known-item (Initialise tree entry) here = known-right (kind_of (child_at tree 0)) here (child_at tree 0) (here.task.env ++ entry ∷ []) (target.Cell entry.first)
known-item (Return number) here = known-returns here.task.calls here number
known-item FallOff here = known-returns here.task.calls here (pos 0)
known-item (Forked construct) here = known-event _ _
known-item (Inside construct) here = known-inside (kind_of construct) here construct
known-item (MakeCells construct) here = search known
known-item (NextChunk loop) here = known-question _ _
known-item (Iterations loop at upto) here = known-step _
known-item (NextSection construct names) here = known-question _ _
known-item (Combine operator name names) here = search known
known-item (EndWork construct kind count names) here = known-event _ _
known-item (EndMasked construct) here = known-event _ _
known-item (Sync tree kind stage) here = known-event _ _
known-item (Acquire tree kind id) here = known-event _ _
known-item (Release tree id) here = known-event _ _
known-item (TestLock call id to) here = known-question _ _
known-item (Tested to) here = known-step _

known-at : (items : List Item) (program : TreeView) (view : View) (now : Moment) → IsKnown (step_at items program view now)
known-at [] program view now = known-end _
known-at (item ∷ items) program view now = known-item item (record { program = program; view = view; task = record now.task { todo = items }; store = now.store })

-- the traps and limits of every task
pub known_silent : (program : TreeView) (view : View) (now : Moment) → IsKnown (silent program view now)
unfolding silent
known_silent program view now = known-at (items_from_next view now.task.todo) program view now
