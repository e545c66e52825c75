-- An event is of the item that stands next, and stands at its tree.
use Rattle.std.specs.Prelude.{ℕ, ◌≡◌, if◌then◌else◌, Bool, true, false, List, [], ◌∷◌, ◌++◌, Result, Ok, Err, refl, ℤ, pos}
use Rattle.std.proofs.Common.{ap, subst, sym}
use Rattle.c_syntax.specs.declared.node.Directive.{Directive}
use Rattle.c_syntax.specs.declared.node.Directive.TheVariants as directive
use Rattle.c_syntax.specs.declared.node.LockCall.{LockCall}
use Rattle.c_syntax.specs.declared.node.LockCall.TheVariants as lock
use Rattle.c_syntax.specs.declared.node.Standalone.{Standalone}
use Rattle.c_syntax.specs.declared.node.Standalone.TheVariants as standalone
use Rattle.c_syntax.specs.declared.node.NodeKind.{NodeKind}
use Rattle.c_syntax.specs.declared.node.NodeKind.TheVariants as node
use Rattle.c_syntax.specs.language.Tree.{Tree, kind_of}
use Rattle.c_syntax.specs.language.Numbered.{TreeView}
use Rattle.c_check.specs.Loops.{child_at}
use Rattle.c_model.specs.declared.entry.Entry.{Entry}
use Rattle.c_model.specs.declared.point.MutexKind.TheVariants as mutex
use Rattle.c_model.specs.declared.point.Point.{Point}
use Rattle.c_model.specs.declared.point.Point.TheVariants.{MutexAcquire, TaskCreate, WorkBegin}
use Rattle.c_model.specs.declared.point.Target.{Target}
use Rattle.c_model.specs.declared.point.Target.TheVariants as target
use Rattle.c_model.specs.declared.view.View.{View}
use Rattle.c_model.specs.Program.{place_of}
use Rattle.c_model.specs.StepOutcomes.{scope_of, value_here, with_result}
use Rattle.c_model.specs.Value.{cell_of, is_zero}
use Rattle.c_model.specs.declared.limits.TheConstants.{CELLS}
use Rattle.c_model.specs.declared.point.Work.{Work}
use Rattle.c_model.specs.Calls.{begin_call, begin_lock_call, begin_return_of, begin_right, lock_id}
use Rattle.c_model.specs.AfterEvents.{call_in}
use Rattle.c_model.specs.Clauses.{condition_of, requested_threads}
use Rattle.c_model.specs.Constructs.{begin_loop, begin_parallel, begin_task, value_or}
use Rattle.c_model.specs.Loops.{loop_of}
use Rattle.c_model.specs.Task.{StepStart, Item, Moment, Outcome}
use Rattle.c_model.specs.Task.Item.{Start, Initialise, Forked, Inside, EndWork, EndMasked, Sync, Acquire, Release}
use Rattle.c_model.specs.Task.Outcome.{StepsTo, Asks, Occurs, Ends, Traps, Limits}
use Rattle.c_model.specs.Step.{begin_construct, begin_inside, begin_standalone, begin_statement, items_from_next, settled_task, silent, step_at, step_of}
use Rattle.c_model.proofs.Fitting.{Fits}
use Rattle.c_model.specs.Occurring.{IsFirstStage, IsOfItem, IsOfNext, IsOfTest, IsTreeOf, IsTreeOfNext}
use Rattle.c_model.proofs.Standing.{fits-call, fits-item, fits-return, fits-statement}

-- the event is of the first of these items, and stands at its tree
record IsOfFirst (point : Point) (tree : Tree) (items : List Item) : Type 0 where
  is_of : IsOfNext point items
  is_at : IsTreeOfNext tree items

-- where an event occurs, it is of the first of these items
unfoldable IsEventOf : List Item → Outcome → Type 0
IsEventOf items (Occurs point tree) = IsOfFirst point tree items
IsEventOf items other = Unit {0}

of-quiet : (items : List Item) (outcome : Outcome) → Fits outcome false → IsEventOf items outcome
unfolding IsEventOf Fits
of-quiet items (StepsTo next) fits = tt
of-quiet items (Asks ask tree) fits = tt
of-quiet items (Occurs point tree) fits = absurd fits
of-quiet items (Ends number) fits = tt
of-quiet items (Traps trap) fits = tt
of-quiet items (Limits limit) fits = tt

of-result : {A : Type 0} (items : List Item) (result : Result A ℕ) (next : A → Outcome) → ((a : A) → IsEventOf items (next a)) → IsEventOf items (with_result result next)
unfolding IsEventOf
of-result items (Ok a) next each = each a
of-result items (Err trap) next each = tt

-- an event that is of an item, at its tree
of-event : (point : Point) (tree : Tree) (item : Item) (items : List Item) → IsOfItem point item → IsTreeOf tree item → IsEventOf (item ∷ items) (Occurs point tree)
unfolding IsEventOf IsOfNext IsTreeOfNext
of-event point tree item items is at = record { is_of = is; is_at = at }

-- the call in a statement, and a construct or directive
at-call : (kind : NodeKind) (tree : Tree) → kind_of tree ≡ kind → IsTreeOf (call_in kind tree) (Start tree)
at-call kind tree is = ap (λ kind. call_in kind tree) (sym is)

of-right : (kind : NodeKind) (here : StepStart) (call : Tree) (env : List Entry) (to : Target) (item : Item) (items : List Item) → IsOfItem (MutexAcquire (place_of call) (lock_id here call) mutex.TestLock to) item → IsTreeOf call item → IsEventOf (item ∷ items) (begin_right kind here call env to)
of-right node.TestLock here call env to item items is at = of-event _ call item items is at
of-right other here call env to item items is at = of-quiet (item ∷ items) (begin_call here call env to) (fits-call here call env to)

of-return : (kind : NodeKind) (here : StepStart) (right tree : Tree) (items : List Item) → IsTreeOf right (Start tree) → IsEventOf (Start tree ∷ items) (begin_return_of kind here right)
unfolding IsOfItem
of-return node.TestLock here right tree items at = of-event _ right (Start tree) items tt at
of-return other here right tree items at = of-quiet (Start tree ∷ items) (begin_return_of other here right) (fits-return other here right)

of-lock : (which : LockCall) (here : StepStart) (tree : Tree) (items : List Item) → IsTreeOf tree (Start tree) → IsEventOf (Start tree ∷ items) (begin_lock_call which here tree)
unfolding IsOfItem
of-lock lock.Init here tree items at = of-event _ tree (Start tree) items tt at
of-lock lock.Destroy here tree items at = of-event _ tree (Start tree) items tt at
of-lock lock.Set here tree items at = of-event _ tree (Start tree) items tt at
of-lock lock.Unset here tree items at = of-event _ tree (Start tree) items tt at

of-standalone : (which : Standalone) (tree : Tree) (items : List Item) → IsTreeOf tree (Start tree) → IsEventOf (Start tree ∷ items) (begin_standalone which tree)
unfolding IsOfItem IsFirstStage
of-standalone standalone.Barrier tree items at = of-event _ tree (Start tree) items tt at
of-standalone standalone.Taskwait tree items at = of-event _ tree (Start tree) items tt at

of-parallel : (here : StepStart) (tree : Tree) (items : List Item) → IsTreeOf tree (Start tree) → IsEventOf (Start tree ∷ items) (begin_parallel here tree)
unfolding IsOfItem
of-parallel here tree items at =
    of-result (Start tree ∷ items) (value_or (pos here.view.max) here (requested_threads tree)) _ (λ number. of-event _ tree (Start tree) items tt at)

of-loop : (here : StepStart) (tree : Tree) (item : Item) (items : List Item) → ((work : Work) → IsOfItem (WorkBegin (place_of tree) work) item) → IsTreeOf tree item → IsEventOf (item ∷ items) (begin_loop here tree)
of-loop here tree item items is at =
    of-result (item ∷ items) (value_here here (loop_of tree).start) _ (λ start.
    of-result (item ∷ items) (value_here here (loop_of tree).end) _ (λ end. of-event _ tree item items (is _) at))

of-creates : (room : Bool) (here : StepStart) (tree : Tree) (number : ℤ) (items : List Item) → IsTreeOf tree (Start tree) → IsEventOf (Start tree ∷ items) (if room then Limits CELLS else Occurs (TaskCreate (place_of tree) (is_zero number)) tree)
unfolding IsEventOf IsOfItem
of-creates true here tree number items at = tt
of-creates false here tree number items at = of-event _ tree (Start tree) items tt at

of-task : (here : StepStart) (tree : Tree) (items : List Item) → IsTreeOf tree (Start tree) → IsEventOf (Start tree ∷ items) (begin_task here tree)
of-task here tree items at =
    of-result (Start tree ∷ items) (value_or (pos 1) here (condition_of tree)) _ (λ number. of-creates _ here tree number items at)

of-construct : (which : Directive) (here : StepStart) (tree : Tree) (items : List Item) → IsTreeOf tree (Start tree) → IsEventOf (Start tree ∷ items) (begin_construct which here tree)
unfolding IsOfItem
of-construct directive.Parallel here tree items at = of-parallel here tree items at
of-construct directive.For here tree items at = of-loop here tree (Start tree) items (λ work. tt) at
of-construct directive.Sections here tree items at = of-event _ tree (Start tree) items tt at
of-construct directive.Single here tree items at = of-event _ tree (Start tree) items tt at
of-construct directive.ParallelFor here tree items at = of-parallel here tree items at
of-construct directive.ParallelSections here tree items at = of-parallel here tree items at
of-construct directive.Masked here tree items at = of-event _ tree (Start tree) items tt at
of-construct directive.Master here tree items at = of-event _ tree (Start tree) items tt at
of-construct directive.Critical here tree items at = of-event _ tree (Start tree) items tt at
of-construct directive.Task here tree items at = of-task here tree items at

of-inside : (kind : NodeKind) (here : StepStart) (tree : Tree) (items : List Item) → IsEventOf (Inside tree ∷ items) (begin_inside kind here tree)
unfolding IsEventOf IsOfItem
of-inside (node.Construct directive.ParallelFor) here tree items = of-loop here tree (Inside tree) items (λ work. tt) refl
of-inside (node.Construct directive.ParallelSections) here tree items = of-event _ tree (Inside tree) items tt refl
of-inside other here tree items = tt

of-statement : (kind : NodeKind) (here : StepStart) (tree : Tree) (items : List Item) → kind_of tree ≡ kind → IsEventOf (Start tree ∷ items) (begin_statement kind here tree)
unfolding IsOfItem
of-statement node.Return here tree items is =
    of-return (kind_of (child_at tree 0)) here (child_at tree 0) tree items (at-call node.Return tree is)
of-statement node.SetCall here tree items is =
    of-result (Start tree ∷ items) (cell_of (scope_of here) (child_at tree 0)) _ (λ cell.
    of-right (kind_of (child_at tree 1)) here (child_at tree 1) here.task.env (target.Cell cell) (Start tree) items tt (at-call node.SetCall tree is))
of-statement node.Called here tree items is =
    of-right (kind_of (child_at tree 0)) here (child_at tree 0) here.task.env target.Nowhere (Start tree) items tt (at-call node.Called tree is)
of-statement (node.LockCall which) here tree items is = of-lock which here tree items (at-call (node.LockCall which) tree is)
of-statement (node.Standalone which) here tree items is = of-standalone which tree items (at-call (node.Standalone which) tree is)
of-statement (node.Construct which) here tree items is = of-construct which here tree items (at-call (node.Construct which) tree is)
of-statement other here tree items is = of-quiet (Start tree ∷ items) (begin_statement other here tree) (fits-statement other here tree)

of-item : (item : Item) (here : StepStart) (items : List Item) → IsEventOf (item ∷ items) (step_of item here)
unfolding IsOfItem IsOfTest
of-item (Start tree) here items = of-statement (kind_of tree) here tree items refl
of-item (Initialise tree entry) here items =
    of-right (kind_of (child_at tree 0)) here (child_at tree 0) (here.task.env ++ entry ∷ []) (target.Cell entry.first) (Initialise tree entry) items tt refl
of-item (Forked construct) here items = of-event _ construct (Forked construct) items tt tt
of-item (Inside construct) here items = of-inside (kind_of construct) here construct items
of-item (EndWork construct kind count names) here items = of-event _ construct (EndWork construct kind count names) items tt refl
of-item (EndMasked construct) here items = of-event _ construct (EndMasked construct) items tt tt
of-item (Sync tree kind stage) here items = of-event _ tree (Sync tree kind stage) items tt refl
of-item (Acquire tree kind id) here items = of-event _ tree (Acquire tree kind id) items tt tt
of-item (Release tree id) here items = of-event _ tree (Release tree id) items tt tt
of-item other here items = of-quiet (other ∷ items) (step_of other here) (fits-item other here)

of-next : (items : List Item) (program : TreeView) (view : View) (now : Moment) → IsEventOf items (step_at items program view now)
unfolding IsEventOf
of-next [] program view now = tt
of-next (item ∷ items) program view now =
    of-item item (record { program = program; view = view; task = record now.task { todo = items }; store = now.store }) items

event-of-item : (item : Item) (here : StepStart) (point : Point) (tree : Tree) → step_of item here ≡ Occurs point tree → IsOfFirst point tree (item ∷ [])
unfolding IsEventOf
event-of-item item here point tree is = subst (IsEventOf (item ∷ [])) is (of-item item here [])

-- the event of an item's step is of this item
pub event_is_of_item : (item : Item) (here : StepStart) (point : Point) (tree : Tree) → step_of item here ≡ Occurs point tree → IsOfItem point item
unfolding IsOfNext
event_is_of_item item here point tree is = (event-of-item item here point tree is).is_of

pub event_is_at_item : (item : Item) (here : StepStart) (point : Point) (tree : Tree) → step_of item here ≡ Occurs point tree → IsTreeOf tree item
unfolding IsTreeOfNext
event_is_at_item item here point tree is = (event-of-item item here point tree is).is_at

event-of-first : (program : TreeView) (view : View) (now : Moment) (point : Point) (tree : Tree) → silent program view now ≡ Occurs point tree → IsOfFirst point tree (items_from_next view now.task.todo)
unfolding silent IsEventOf
event-of-first program view now point tree is =
    subst (IsEventOf (items_from_next view now.task.todo)) is (of-next (items_from_next view now.task.todo) program view now)

pub event_is_of_next : (program : TreeView) (view : View) (now : Moment) (point : Point) (tree : Tree) → silent program view now ≡ Occurs point tree → IsOfNext point (settled_task view now.task).todo
event_is_of_next program view now point tree is = (event-of-first program view now point tree is).is_of

pub event_is_at_next : (program : TreeView) (view : View) (now : Moment) (point : Point) (tree : Tree) → silent program view now ≡ Occurs point tree → IsTreeOfNext tree (settled_task view now.task).todo
event_is_at_next program view now point tree is = (event-of-first program view now point tree is).is_at
