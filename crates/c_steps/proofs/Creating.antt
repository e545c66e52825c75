-- Where an explicit task is created, its construct stands next, and there is room for its cells.
use Rattle.std.proofs.Common.{◌≡◌, ◌≤◌, ◌++◌, nat_lt, if◌then◌else◌, ℕ, Bool, true, false, List, [], ◌∷◌, length, slice_get, Result, Ok, Err, ℤ, pos, refl, sym, subst, arith}
use Rattle.c_syntax.specs.declared.node.Directive.{Directive}
use Rattle.c_syntax.specs.declared.node.Directive.TheVariants as directive
use Rattle.c_syntax.specs.declared.node.LockCall.{LockCall}
use Rattle.c_syntax.specs.declared.node.LockCall.TheVariants as lock
use Rattle.c_syntax.specs.declared.node.Standalone.{Standalone}
use Rattle.c_syntax.specs.declared.node.Standalone.TheVariants as standalone
use Rattle.c_syntax.specs.declared.node.NodeKind.{NodeKind}
use Rattle.c_syntax.specs.declared.node.NodeKind.TheVariants as node
use Rattle.c_syntax.specs.language.Tree.{Tree, kind_of}
use Rattle.c_syntax.specs.language.Numbered.{TreeView, tree_at}
use Rattle.c_check.specs.Loops.{child_at}
use Rattle.c_model.specs.declared.entry.Entry.{Entry}
use Rattle.c_model.specs.declared.limits.TheConstants.{CELLS, CELL_LIMIT}
use Rattle.c_model.specs.declared.point.Point.TheVariants.{TaskCreate}
use Rattle.c_model.specs.declared.point.Target.{Target}
use Rattle.c_model.specs.declared.point.Target.TheVariants as target
use Rattle.c_model.specs.declared.view.View.{View}
use Rattle.c_model.specs.Begin.{created_construct}
use Rattle.c_model.specs.Calls.{begin_lock_call, begin_return_of, begin_right}
use Rattle.c_model.specs.Cells.{Bound}
use Rattle.c_model.specs.Clauses.{condition_of, requested_threads}
use Rattle.c_model.specs.StepOutcomes.{bound_of, scope_of, value_here, with_result}
use Rattle.c_model.specs.Constructs.{begin_loop, begin_parallel, begin_task, value_or}
use Rattle.c_model.specs.Copies.{with_task_cells}
use Rattle.c_model.specs.Loops.{loop_of}
use Rattle.c_model.specs.Program.{place_of}
use Rattle.c_model.proofs.Fitting.{Fits}
use Rattle.c_model.specs.Step.{begin_construct, begin_inside, begin_standalone, begin_statement, items_from_next, silent, step_at, step_of}
use Rattle.c_model.specs.Task.{StepStart, Item, Moment, Outcome, Store, Task}
use Rattle.c_model.specs.Task.Item.{Start, Initialise, Forked, Inside, EndWork, EndMasked, Sync, Acquire, Release}
use Rattle.c_model.specs.Task.Outcome.{StepsTo, Asks, Occurs, Ends, Traps, Limits}
use Rattle.c_model.specs.Value.{cell_of, is_zero}
use Rattle.c_model.proofs.Standing.{fits-call, fits-item, fits-return, fits-statement}
use Rattle.c_steps.specs.Advancing.{IsLeft}
use Rattle.c_steps.specs.Beginning.{IsCreation}
use Rattle.c_steps.specs.ControlView.{ControlView, bound_in, moment_at}
use Rattle.c_steps.specs.Items.{todo_at}

-- the first of these items creates an explicit task, for whose cells there is room
pub record IsCreating (program : TreeView) (around : Bound) (items : List Item) : Type 0 where
  pub creation : IsCreation (slice_get items 0)
  pub room : length (with_task_cells program around (created_construct items)).cells ≤ CELL_LIMIT

-- where a task is created, the first of these items does
unfoldable IsCreatedBy : TreeView → Bound → List Item → Outcome → Type 0
IsCreatedBy program around items (Occurs (TaskCreate codeptr undeferred) tree) = IsCreating program around items
IsCreatedBy program around items other = Unit {0}

module _ (program : TreeView) (around : Bound) (items : List Item) where
  by-quiet : (outcome : Outcome) → Fits outcome false → IsCreatedBy program around items outcome
  unfolding IsCreatedBy Fits
  by-quiet (StepsTo next) fits = tt
  by-quiet (Asks ask tree) fits = tt
  by-quiet (Occurs point tree) fits = absurd fits
  by-quiet (Ends number) fits = tt
  by-quiet (Traps trap) fits = tt
  by-quiet (Limits limit) fits = tt

  by-result : {A : Type 0} (result : Result A ℕ) (next : A → Outcome) → ((a : A) → IsCreatedBy program around items (next a)) → IsCreatedBy program around items (with_result result next)
  unfolding IsCreatedBy
  by-result (Ok a) next each = each a
  by-result (Err trap) next each = tt

  by-right : (kind : NodeKind) (here : StepStart) (call : Tree) (env : List Entry) (to : Target) → IsCreatedBy program around items (begin_right kind here call env to)
  unfolding IsCreatedBy
  by-right node.TestLock here call env to = tt
  by-right other here call env to = by-quiet (begin_right other here call env to) (fits-call here call env to)

  by-return : (kind : NodeKind) (here : StepStart) (right : Tree) → IsCreatedBy program around items (begin_return_of kind here right)
  unfolding IsCreatedBy
  by-return node.TestLock here right = tt
  by-return other here right = by-quiet (begin_return_of other here right) (fits-return other here right)

  by-lock : (which : LockCall) (here : StepStart) (tree : Tree) → IsCreatedBy program around items (begin_lock_call which here tree)
  unfolding IsCreatedBy
  by-lock lock.Init here tree = tt
  by-lock lock.Destroy here tree = tt
  by-lock lock.Set here tree = tt
  by-lock lock.Unset here tree = tt

  by-standalone : (which : Standalone) (tree : Tree) → IsCreatedBy program around items (begin_standalone which tree)
  unfolding IsCreatedBy
  by-standalone standalone.Barrier tree = tt
  by-standalone standalone.Taskwait tree = tt

  by-parallel : (here : StepStart) (tree : Tree) → IsCreatedBy program around items (begin_parallel here tree)
  unfolding IsCreatedBy
  by-parallel here tree = by-result (value_or (pos here.view.max) here (requested_threads tree)) _ (λ number. tt)

  by-loop : (here : StepStart) (tree : Tree) → IsCreatedBy program around items (begin_loop here tree)
  unfolding IsCreatedBy
  by-loop here tree = by-result (value_here here (loop_of tree).start) _ (λ start. by-result (value_here here (loop_of tree).end) _ (λ end. tt))

  by-inside : (kind : NodeKind) (here : StepStart) (tree : Tree) → IsCreatedBy program around items (begin_inside kind here tree)
  unfolding IsCreatedBy
  by-inside (node.Construct directive.ParallelFor) here tree = by-loop here tree
  by-inside (node.Construct directive.ParallelSections) here tree = tt
  by-inside other here tree = tt

  by-creates : (full : Bool) (tree : Tree) (number : ℤ) → (full ≡ false → IsCreating program around items) → IsCreatedBy program around items (if full then Limits CELLS else Occurs (TaskCreate (place_of tree) (is_zero number)) tree)
  unfolding IsCreatedBy
  by-creates true tree number creating = tt
  by-creates false tree number creating = creating refl

within : (count : ℕ) → nat_lt CELL_LIMIT count ≡ false → count ≤ CELL_LIMIT
within count is = grind (arith, is)

module _ (here : StepStart) (items : List Item) where
  by-task : (tree : Tree) → kind_of tree ≡ node.Construct directive.Task → IsCreatedBy here.program (bound_of here) (Start tree ∷ items) (begin_task here tree)
  by-task tree is =
      by-result here.program (bound_of here) (Start tree ∷ items) (value_or (pos 1) here (condition_of tree)) _ (λ number.
      by-creates here.program (bound_of here) (Start tree ∷ items) _ tree number (λ few.
      record { creation = rw is tt; room = within (length (with_task_cells here.program (bound_of here) tree).cells) few }))

  by-construct : (which : Directive) (tree : Tree) → kind_of tree ≡ node.Construct which → IsCreatedBy here.program (bound_of here) (Start tree ∷ items) (begin_construct which here tree)
  unfolding IsCreatedBy
  by-construct directive.Parallel tree is = by-parallel here.program (bound_of here) (Start tree ∷ items) here tree
  by-construct directive.For tree is = by-loop here.program (bound_of here) (Start tree ∷ items) here tree
  by-construct directive.Sections tree is = tt
  by-construct directive.Single tree is = tt
  by-construct directive.ParallelFor tree is = by-parallel here.program (bound_of here) (Start tree ∷ items) here tree
  by-construct directive.ParallelSections tree is = by-parallel here.program (bound_of here) (Start tree ∷ items) here tree
  by-construct directive.Masked tree is = tt
  by-construct directive.Master tree is = tt
  by-construct directive.Critical tree is = tt
  by-construct directive.Task tree is = by-task tree is

  by-statement : (kind : NodeKind) (tree : Tree) → kind_of tree ≡ kind → IsCreatedBy here.program (bound_of here) (Start tree ∷ items) (begin_statement kind here tree)
  by-statement node.Return tree is = by-return here.program (bound_of here) (Start tree ∷ items) (kind_of (child_at tree 0)) here (child_at tree 0)
  by-statement node.SetCall tree is =
      by-result here.program (bound_of here) (Start tree ∷ items) (cell_of (scope_of here) (child_at tree 0)) _ (λ cell.
      by-right here.program (bound_of here) (Start tree ∷ items) (kind_of (child_at tree 1)) here (child_at tree 1) here.task.env (target.Cell cell))
  by-statement node.Called tree is = by-right here.program (bound_of here) (Start tree ∷ items) (kind_of (child_at tree 0)) here (child_at tree 0) here.task.env target.Nowhere
  by-statement (node.LockCall which) tree is = by-lock here.program (bound_of here) (Start tree ∷ items) which here tree
  by-statement (node.Standalone which) tree is = by-standalone here.program (bound_of here) (Start tree ∷ items) which tree
  by-statement (node.Construct which) tree is = by-construct which tree is
  by-statement other tree is = by-quiet here.program (bound_of here) (Start tree ∷ items) (begin_statement other here tree) (fits-statement other here tree)

  by-item : (item : Item) → IsCreatedBy here.program (bound_of here) (item ∷ items) (step_of item here)
  unfolding IsCreatedBy
  by-item (Start tree) = by-statement (kind_of tree) tree refl
  by-item (Initialise tree entry) =
      by-right here.program (bound_of here) (Initialise tree entry ∷ items) (kind_of (child_at tree 0)) here (child_at tree 0) (here.task.env ++ entry ∷ []) (target.Cell entry.first)
  by-item (Forked construct) = tt
  by-item (Inside construct) = by-inside here.program (bound_of here) (Inside construct ∷ items) (kind_of construct) here construct
  by-item (EndWork construct kind count names) = tt
  by-item (EndMasked construct) = tt
  by-item (Sync tree kind stage) = tt
  by-item (Acquire tree kind id) = tt
  by-item (Release tree id) = tt
  by-item other = by-quiet here.program (bound_of here) (other ∷ items) (step_of other here) (fits-item other here)

abbrev around : Moment → Bound
around now = record { env = now.task.env; cells = now.store.cells }

module _ (program : TreeView) (view : View) where
  by-next : (items : List Item) (now : Moment) → IsCreatedBy program (around now) items (step_at items program view now)
  unfolding IsCreatedBy
  by-next [] now = tt
  by-next (item ∷ items) now =
      by-item (record { program = program; view = view; task = record now.task { todo = items }; store = now.store }) items item

  -- what stands next then
  pub creating_next : (now : Moment) (codeptr : ℕ) (undeferred : Bool) (tree : Tree) → silent program view now ≡ Occurs (TaskCreate codeptr undeferred) tree → IsCreating program (around now) (items_from_next view now.task.todo)
  unfolding silent IsCreatedBy
  creating_next now codeptr undeferred tree is =
      subst (IsCreatedBy program (around now) (items_from_next view now.task.todo)) is (by-next (items_from_next view now.task.todo) now)

  module _ (old new : ControlView) (before after : Store) (codeptr : ℕ) (undeferred : Bool) (at : ℕ) (left : IsLeft program view old before new after) (event : Occurs (TaskCreate codeptr undeferred) (tree_at program.trees at) ≡ silent program view (moment_at program old before)) where
    -- when an advance has answered that a task is created, the task can begin
    creating-stands : IsCreating program (bound_in program new after) (todo_at program new.frames)
    creating-stands =
        let creating = creating_next (moment_at program old before) codeptr undeferred (tree_at program.trees at) (sym event) in
        let settled = subst (λ (task : Task). IsCreating program (record { env = task.env; cells = before.cells }) task.todo) (sym left.task) creating in
        subst (λ (store : Store). IsCreating program (bound_in program new store) (todo_at program new.frames)) (sym left.store) settled

    pub creation_stands : IsCreation (slice_get (todo_at program new.frames) 0)
    creation_stands = creating-stands.creation

    pub creation_fits : length (with_task_cells program (bound_in program new after) (created_construct (todo_at program new.frames))).cells ≤ CELL_LIMIT
    creation_fits = creating-stands.room
