-- Behind each silent step, and behind each event that a step comes to, the cells that a task uses were made.
use Rattle.std.specs.Prelude.{ℕ, ◌+◌, ◌<◌, ◌≤◌, ◌≡◌, if◌then◌else◌, Bool, true, false, List, [], ◌∷◌, ◌++◌, length, take, slice_set, Some, Result, Ok, Err, ℤ, pos, refl}
use Rattle.std.specs.List.{All}
use Rattle.std.proofs.Common.{arith, sym, subst}
use Rattle.std.proofs.lemmas.List.{length-append, length-replicate, length-set}
use Rattle.std.proofs.lemmas.List.Elements.{All-cons, All-head, All-push, All-tail, All-take}
use Rattle.c_syntax.specs.declared.node.Directive.{Directive}
use Rattle.c_syntax.specs.declared.node.Directive.TheVariants as directive
use Rattle.c_syntax.specs.declared.node.LockCall.{LockCall}
use Rattle.c_syntax.specs.declared.node.LockCall.TheVariants as lock
use Rattle.c_syntax.specs.declared.node.NodeKind.{NodeKind}
use Rattle.c_syntax.specs.declared.node.NodeKind.TheVariants as node
use Rattle.c_syntax.specs.declared.node.Setting.{Setting}
use Rattle.c_syntax.specs.declared.node.Standalone.{Standalone}
use Rattle.c_syntax.specs.declared.node.Standalone.TheVariants as standalone
use Rattle.c_syntax.specs.language.Tree.{Tree, kind_of, name_of, number_of}
use Rattle.c_syntax.specs.language.Tree.Tree.{Node}
use Rattle.c_syntax.specs.language.Numbered.{TreeView}
use Rattle.c_check.specs.Loops.{child_at}
use Rattle.c_check.specs.Seen.{slot_of_name}
use Rattle.c_model.specs.declared.entry.Entry.{Entry}
use Rattle.c_model.specs.declared.point.MutexKind.TheVariants as mutex
use Rattle.c_model.specs.declared.point.Point.{Point}
use Rattle.c_model.specs.declared.point.Point.TheVariants.{MutexAcquire, WorkBegin}
use Rattle.c_model.specs.declared.point.SyncKind.{SyncKind}
use Rattle.c_model.specs.declared.point.SyncKind.TheVariants as sync
use Rattle.c_model.specs.declared.point.SyncStage.{SyncStage}
use Rattle.c_model.specs.declared.point.SyncStage.TheVariants as stage
use Rattle.c_model.specs.declared.point.Target.{Target}
use Rattle.c_model.specs.declared.point.Target.TheVariants as target
use Rattle.c_model.specs.declared.point.Work.{Work}
use Rattle.c_model.specs.declared.point.Work.TheVariants as work
use Rattle.c_model.specs.Parts.{flat_declarations, has_child, parts}
use Rattle.c_model.specs.Program.{body_of, function_named, parameters_of, place_of}
use Rattle.c_model.specs.Calls.{begin_call, begin_return_of, begin_right, bound_in, ends_test, enters, file_bound, lock_id, open_call, returns_to, value_cells, value_items}
use Rattle.c_model.specs.Calls.{begin_lock_call}
use Rattle.c_model.specs.Cells.{Bound, cell_at, entry_of, first_numbers, with_cells}
use Rattle.c_model.specs.Clauses.{Copying, Listed, condition_of, has_nowait, requested_threads}
use Rattle.c_model.specs.Clauses.Copying.{Private, First, Reduced}
use Rattle.c_model.specs.StepOutcomes.{binds, bound_of, goes_on, goes_on_with, scope_of, sets, value_here, with_result}
use Rattle.c_model.specs.Constructs.{begin_loop, begin_parallel, iterations_from, reduction_result, value_or}
use Rattle.c_model.specs.Copies.{combines, combining_all, combining_of, has_own_cells, listed_variables, makes_cells, with_own_cells}
use Rattle.c_model.specs.AfterEvents.{items_after, names_after, next_stage, tree_at_event, work_items}
use Rattle.c_model.specs.Loops.{iteration_value, loop_of}
use Rattle.c_model.specs.UsedCells.{AreItemsMade, IsCallMade, IsItemMade, IsMade, IsTargetMade, IsTaskMade}
use Rattle.c_model.specs.Scoped.{HasCells, Knows, names_of}
use Rattle.c_model.specs.Statements.{assigns, begin_local_set, begin_set_to_call, begin_set_to_value, branch_taken, declares, makes_first_step, makes_step, new_number, setting_of, test_value}
use Rattle.c_model.specs.Step.{begin_construct, begin_inside, begin_standalone, begin_statement, step_of}
use Rattle.c_model.specs.Task.{StepStart, Item, Moment, OpenCall, Outcome, SharedLoop, is_declarator, items_of_parts}
use Rattle.c_model.specs.Task.Item.{Start, Declare, Leave, Test, Third, Initialise, Return, FallOff, Forked, Inside, MakeCells, NextChunk, Iterations, NextSection, Combine, EndWork, EndMasked, Sync, Acquire, Release, TestLock, Tested}
use Rattle.c_model.specs.Task.Outcome.{StepsTo, Occurs, Limits}
use Rattle.c_model.specs.Value.{all_values, cell_of, is_zero}
use Rattle.c_model.proofs.MadeCells.{IsBoundMade, assigned_made, call_more, calls_more, cells_made, env_more, first_made, items_append, items_more, own_cells_made, parameters_made, value_items_made, value_length}
use Rattle.c_model.proofs.ScopeComing.{IsRoomFor}

-- what comes of an event
pub record LeavesMade (here : StepStart) (item : Item) (point : Point) : Type 0 where
  pub items : (executes : Bool) → AreItemsMade (length here.store.cells) (items_after point executes (length here.task.env) item)
  pub env : All (IsMade (length here.store.cells)) (names_after point item here.task.env)

pub record StaysMade (here : StepStart) (next : Moment) : Type 0 where
  pub task : IsTaskMade here.program (length next.store.cells) next.task
  pub grows : length here.store.cells ≤ length next.store.cells

unfoldable pub KeepsMade : StepStart → Item → Outcome → Type 0
KeepsMade here item (StepsTo next) = StaysMade here next
KeepsMade here item (Occurs point tree) = LeavesMade here item point
KeepsMade here item other = Unit {0}

pub record HasMade (here : StepStart) (item : Item) : Type 0 where
  pub scoped : IsRoomFor here item
  pub task : IsTaskMade here.program (length here.store.cells) here.task
  pub its : IsItemMade (length here.store.cells) item

-- lists of items that use no cell of their own
parts-made : (count : ℕ) (trees : List Tree) → AreItemsMade count (items_of_parts trees)
unfolding AreItemsMade
parts-made count [] = tt
parts-made count (tree ∷ trees) = (part (is_declarator (kind_of tree)), parts-made count trees)
  where
    part : (declares : Bool) → IsItemMade count (if declares then Declare tree else Start tree)
    part true = tt
    part false = tt

pub chosen_made : (count : ℕ) (more : Bool) (loop : SharedLoop) (at upto : ℕ) → IsItemMade count (if more then Iterations loop at upto else NextChunk loop)
chosen_made count true loop at upto = tt
chosen_made count false loop at upto = tt

combining-made : (count around : ℕ) (one : Listed) (copying : Copying) → AreItemsMade count (combining_of around one copying)
unfolding AreItemsMade
combining-made count around one Private = tt
combining-made count around one First = tt
combining-made count around one (Reduced operator) = (tt, tt)

combining-all-made : (count around : ℕ) (listed : List Listed) → AreItemsMade count (combining_all around listed)
unfolding combining_all AreItemsMade
combining-all-made count around [] = tt
combining-all-made count around (one ∷ rest) = items_append count (combining_of around one one.copying) (combining_all around rest) (combining-made count around one one.copying) (combining-all-made count around rest)

pub combines_made : (count : ℕ) (construct : Tree) (around : ℕ) → AreItemsMade count (combines construct around)
combines_made count construct around = combining-all-made count around (listed_variables construct)

making-made : (count : ℕ) (has : Bool) (construct : Tree) → AreItemsMade count (if has then MakeCells construct ∷ [] else [])
unfolding AreItemsMade
making-made count true construct = (tt, tt)
making-made count false construct = tt

pub makes_made : (count : ℕ) (construct : Tree) → AreItemsMade count (makes_cells construct)
makes_made count construct = making-made count (has_own_cells construct) construct

work-made : (count : ℕ) (kind : Work) (construct : Tree) (names : ℕ) (executes : Bool) → AreItemsMade count (work_items kind construct names executes)
unfolding AreItemsMade
work-made count (work.Loop start number step schedule) construct names executes = (tt, tt)
work-made count (work.Sections number) construct names executes = (tt, tt)
work-made count work.Single construct names true = (tt, (tt, tt))
work-made count work.Single construct names false = (tt, tt)

stage-made : (count : ℕ) (tree : Tree) (kind : SyncKind) (at : SyncStage) → AreItemsMade count (next_stage tree kind at)
unfolding AreItemsMade
stage-made count tree kind stage.RegionBegin = (tt, tt)
stage-made count tree kind stage.WaitBegin = (tt, tt)
stage-made count tree kind stage.WaitEnd = (tt, tt)
stage-made count tree kind stage.RegionEnd = tt

barrier-made : (count : ℕ) (nowait : Bool) (construct : Tree) → AreItemsMade count (if nowait then [] else Sync construct sync.Worksharing stage.RegionBegin ∷ [])
unfolding AreItemsMade
barrier-made count true construct = tt
barrier-made count false construct = (tt, tt)

branch-made : (count : ℕ) (zero has : Bool) (tree : Tree) → AreItemsMade count (if zero then (if has then Start (child_at tree 2) ∷ [] else []) else Start (child_at tree 1) ∷ [])
unfolding AreItemsMade
branch-made count true true tree = (tt, tt)
branch-made count true false tree = tt
branch-made count false has tree = (tt, tt)

again-made : (count : ℕ) (over : Bool) (body tree : Tree) → AreItemsMade count (if over then [] else Start body ∷ Start tree ∷ [])
unfolding AreItemsMade
again-made count true body tree = tt
again-made count false body tree = (tt, (tt, tt))

-- a declarator has cells
declared-has : (program : TreeView) (names : List ℕ) (tree : Tree) → Knows program names tree → HasCells tree
unfolding Knows
declared-has program names (Node node.LocalArray spot name number text children) knows = omega (arith, length-replicate number (pos 0), knows.0)
declared-has program names (Node node.GlobalArray spot name number text children) knows = omega (arith, length-replicate number (pos 0), knows.0)
declared-has program names (Node other spot name number text children) knows = omega arith

module _ (here : StepStart) (item : Item) (has : HasMade here item) where
  -- outcomes
  made-limit : (limit : ℕ) → KeepsMade here item (Limits limit)
  unfolding KeepsMade
  made-limit limit = tt

  made-step : (next : Moment) → StaysMade here next → KeepsMade here item (StepsTo next)
  unfolding KeepsMade
  made-step next is = is

  made-event : (point : Point) (tree : Tree) → LeavesMade here item point → KeepsMade here item (Occurs point tree)
  unfolding KeepsMade
  made-event point tree is = is

  made-choice : (choice : Bool) (one other : Outcome) → KeepsMade here item one → KeepsMade here item other → KeepsMade here item (if choice then one else other)
  made-choice true one other first second = first
  made-choice false one other first second = second

  made-result : {A : Type 0} (result : Result A ℕ) (next : A → Outcome) → ((a : A) → result ≡ Ok a → KeepsMade here item (next a)) → KeepsMade here item (with_result result next)
  unfolding KeepsMade
  made-result (Ok a) next each = each a refl
  made-result (Err trap) next each = tt

  -- the same cells, with these items before what remains
  same-made : (items : List Item) → AreItemsMade (length here.store.cells) items → IsTaskMade here.program (length here.store.cells) (record here.task { todo = items ++ here.task.todo })
  same-made items are = record { file = has.task.file; env = has.task.env; todo = items_append (length here.store.cells) items here.task.todo are has.task.todo; calls = has.task.calls }

  made-on : (items : List Item) → AreItemsMade (length here.store.cells) items → KeepsMade here item (goes_on here items)
  made-on items are = made-step _ (record { task = same-made items are; grows = omega arith })

  made-with : (names : ℕ) → KeepsMade here item (goes_on_with here names [])
  made-with names = made-step _ (record { task = record { file = has.task.file; env = All-take (IsMade (length here.store.cells)) names here.task.env has.task.env; todo = has.task.todo; calls = has.task.calls }; grows = omega arith })

  made-sets : (cell : ℕ) (number : ℤ) (items : List Item) → AreItemsMade (length here.store.cells) items → KeepsMade here item (sets here cell number items)
  made-sets cell number items are =
      let same : length (slice_set here.store.cells cell number) ≡ length here.store.cells = length-set here.store.cells cell number in
      made-step _ (record { task = subst (λ (count : ℕ). IsTaskMade here.program count (record here.task { todo = items ++ here.task.todo })) (sym same) (same-made items are); grows = omega (arith, same) })

  -- more cells
  made-binds : (bound : Bound) (items : List Item) → IsBoundMade (length here.store.cells) bound → AreItemsMade (length bound.cells) items → KeepsMade here item (binds here bound items)
  made-binds bound items is are =
      let more = length bound.cells in
      made-choice _ (Limits _) _ (made-limit _) (made-step _ (record {
        task = record {
          file = env_more (length here.store.cells) more is.grows _ has.task.file;
          env = is.env;
          todo = items_append more items here.task.todo are (items_more (length here.store.cells) more is.grows here.task.todo has.task.todo);
          calls = calls_more (length here.store.cells) more is.grows here.task.calls has.task.calls;
        };
        grows = is.grows;
      }))

  bound-here : IsBoundMade (length here.store.cells) (bound_of here)
  bound-here = record { env = has.task.env; grows = omega arith }

  made-bound : (name slot : ℕ) (numbers : List ℤ) (items : List Item) → 0 < length numbers → AreItemsMade (length (here.store.cells ++ numbers)) items → KeepsMade here item (binds here (with_cells (bound_of here) name slot numbers) items)
  made-bound name slot numbers items some are = made-binds (with_cells (bound_of here) name slot numbers) items (cells_made (length here.store.cells) (bound_of here) name slot numbers some bound-here) are

  -- calls
  made-enters : (function : Tree) (call : OpenCall) (bound : Bound) → IsBoundMade (length here.store.cells) bound → IsCallMade (length here.store.cells) call → KeepsMade here item (enters here function call bound)
  unfolding AreItemsMade
  made-enters function call bound is opened =
      let more = length bound.cells in
      let entered : IsTaskMade here.program more (record here.task { todo = Start (body_of function) ∷ FallOff ∷ []; env = bound.env; calls = call ∷ here.task.calls }) =
      record {
        file = env_more (length here.store.cells) more is.grows _ has.task.file;
        env = is.env;
        todo = (tt, (tt, tt));
        calls = All-cons (IsCallMade more) call here.task.calls (call_more (length here.store.cells) more is.grows call opened) (calls_more (length here.store.cells) more is.grows here.task.calls has.task.calls);
      }
      in
      let stays : StaysMade here (record { task = record here.task { todo = Start (body_of function) ∷ FallOff ∷ []; env = bound.env; calls = call ∷ here.task.calls }; store = record here.store { cells = bound.cells } }) = record { task = entered; grows = is.grows } in
      search (made-choice, made-limit, made-step, stays)

  made-call : (call : Tree) (env : List Entry) (to : Target) → All (IsMade (length here.store.cells)) env → IsTargetMade (length here.store.cells) to → KeepsMade here item (begin_call here call env to)
  made-call call env to are is =
      made-result (all_values (scope_of here) (parts call)) _ (λ numbers found.
      made-enters (function_named here.program (name_of call)) (open_call here env to) (bound_in here (function_named here.program (name_of call)) numbers)
      (parameters_made here.program (length here.store.cells) (parameters_of (function_named here.program (name_of call))) (record { env = (file_bound here.program).env; cells = here.store.cells }) numbers
      (record { env = has.task.file; grows = omega arith }))
      (record { env = are; todo = has.task.todo; to = is }))

  made-right : (kind : NodeKind) (call : Tree) (env : List Entry) (to : Target) → All (IsMade (length here.store.cells)) env → IsTargetMade (length here.store.cells) to
      → All (IsMade (length here.store.cells)) (names_after (MutexAcquire (place_of call) (lock_id here call) mutex.TestLock to) item here.task.env) → KeepsMade here item (begin_right kind here call env to)
  unfolding AreItemsMade
  made-right node.TestLock call env to are is tested = made-event _ call (record { items = λ executes. (is, tt); env = tested })
  made-right other call env to are is tested = made-call call env to are is

  made-returns : (opened : List OpenCall) (number : ℤ) → All (IsCallMade (length here.store.cells)) opened → KeepsMade here item (returns_to opened here number)
  unfolding AreItemsMade
  made-returns [] number are = made-step _ (record { task = record { file = has.task.file; env = has.task.env; todo = tt; calls = has.task.calls }; grows = omega arith })
  made-returns (call ∷ rest) number are =
      let count = length here.store.cells in
      let first = All-head (IsCallMade count) call rest are in
      let same : length (value_cells call.to number here.store.cells) ≡ count = value_length call.to number here.store.cells in
      made-step _ (record {
        task = subst (λ (count : ℕ). IsTaskMade here.program count (record { todo = value_items call.to number ++ call.todo; env = call.env; calls = rest; returned = Some number })) (sym same)
            (record { file = has.task.file; env = first.env; todo = items_append count (value_items call.to number) call.todo (value_items_made count call.to number) first.todo; calls = All-tail (IsCallMade count) call rest are });
        grows = omega (arith, same);
      })

  made-tested : (to : Target) → KeepsMade here item (ends_test here to)
  made-tested to =
      let same : length (value_cells to (pos 1) here.store.cells) ≡ length here.store.cells = value_length to (pos 1) here.store.cells in
      made-step _ (record {
        task = subst (λ (count : ℕ). IsTaskMade here.program count (record here.task { todo = value_items to (pos 1) ++ here.task.todo })) (sym same) (same-made (value_items to (pos 1)) (value_items_made (length here.store.cells) to (pos 1)));
        grows = omega (arith, same);
      })

  made-return : (kind : NodeKind) (right : Tree) → All (IsMade (length here.store.cells)) (names_after (MutexAcquire (place_of right) (lock_id here right) mutex.TestLock target.Return) item here.task.env) → KeepsMade here item (begin_return_of kind here right)
  made-return node.Call right tested = made-call right here.task.env target.Return has.task.env tt
  made-return node.TestLock right tested = made-right node.TestLock right here.task.env target.Return has.task.env tt tested
  made-return other right tested = made-result (value_here here right) _ (λ number found. made-returns here.task.calls number has.task.calls)

  -- declarators and assignments
  made-set-to-value : (named expression : Tree) (items : List Item) → ((count : ℕ) → AreItemsMade count items) → KeepsMade here item (begin_set_to_value here named expression items)
  made-set-to-value named expression items are =
      made-result (value_here here expression) _ (λ number found. made-bound (name_of named) (slot_of_name here.program named) (number ∷ []) items (omega arith) (are _))

  made-set-to-call : (tree : Tree) → KeepsMade here item (begin_set_to_call here tree)
  unfolding AreItemsMade
  made-set-to-call tree =
      let count = length here.store.cells in
      let longer : length (here.store.cells ++ pos 0 ∷ []) ≡ count + 1 = length-append here.store.cells (pos 0 ∷ []) in
      let fewer : count ≤ length (here.store.cells ++ pos 0 ∷ []) = omega (arith, longer) in
      let more = length (here.store.cells ++ pos 0 ∷ []) in
      made-choice _ (Limits _) _ (made-limit _) (made-step _ (record {
        task = record {
          file = env_more count more fewer _ has.task.file;
          env = env_more count more fewer here.task.env has.task.env;
          todo = (record { has_cell = omega arith; within = omega (arith, longer) }, items_more count more fewer here.task.todo has.task.todo);
          calls = calls_more count more fewer here.task.calls has.task.calls;
        };
        grows = fewer;
      }))

  made-local : (kind : NodeKind) (tree : Tree) → KeepsMade here item (begin_local_set kind here tree)
  unfolding AreItemsMade
  made-local node.Call tree = made-set-to-call tree
  made-local node.TestLock tree = made-set-to-call tree
  made-local other tree = made-set-to-value tree (child_at tree 0) [] (λ count. tt)

  made-declares : (kind : NodeKind) (tree : Tree) → HasCells tree → KeepsMade here item (declares kind here tree)
  unfolding AreItemsMade
  made-declares node.LocalSet tree cells = made-local (kind_of (child_at tree 0)) tree
  made-declares other tree cells = made-bound (name_of tree) (slot_of_name here.program tree) (first_numbers (kind_of tree) (number_of tree)) [] cells tt

  made-assigns : (which : Setting) (place : Tree) (right : Result ℤ ℕ) (items : List Item) → AreItemsMade (length here.store.cells) items → KeepsMade here item (assigns here which place right items)
  made-assigns which place right items are =
      made-result (cell_of (scope_of here) place) _ (λ cell found.
      made-result (new_number which (cell_at here.store.cells cell) right) _ (λ number also. made-sets cell number items are))

  made-makes : (kind : NodeKind) (tree : Tree) (items : List Item) → AreItemsMade (length here.store.cells) items → KeepsMade here item (makes_step kind here tree items)
  made-makes (node.Assign which) tree items are = made-assigns which (child_at tree 0) (value_here here (child_at tree 1)) items are
  made-makes (node.Bump which side) tree items are = made-assigns (setting_of which) (child_at tree 0) (Ok (pos 1)) items are
  made-makes other tree items are = made-on items are

  made-init : (has : Bool) (tree : Tree) (items : List Item) → ((count : ℕ) → AreItemsMade count items) → KeepsMade here item (if has then begin_set_to_value here (child_at tree 0) (child_at tree 1) items else goes_on here items)
  made-init true tree items are = made-set-to-value (child_at tree 0) (child_at tree 1) items are
  made-init false tree items are = made-on items (are (length here.store.cells))

  made-first : (kind : NodeKind) (tree : Tree) (items : List Item) → ((count : ℕ) → AreItemsMade count items) → KeepsMade here item (makes_first_step kind here tree items)
  made-first node.Init tree items are = made-init (has_child tree 0) tree items are
  made-first other tree items are = made-makes other tree items (are (length here.store.cells))

-- the work of a construct begins
begun-made : (here : StepStart) (item : Item) (construct : Tree) (codeptr : ℕ) (kind : Work) → HasMade here item → KeepsMade here item (Occurs (WorkBegin codeptr kind) construct)
begun-made here item construct codeptr kind has =
    let count = length here.store.cells in
    let tree = tree_at_event item in
    made-event here item has (WorkBegin codeptr kind) construct (record {
      items = λ executes. items_append count (makes_cells tree) (work_items kind tree (length here.task.env) executes) (makes_made count tree) (work-made count kind tree (length here.task.env) executes);
      env = has.task.env;
    })

made-loop : (here : StepStart) (item : Item) (construct : Tree) → HasMade here item → KeepsMade here item (begin_loop here construct)
made-loop here item construct has =
    made-result here item has (value_here here (loop_of construct).start) _ (λ start found.
    made-result here item has (value_here here (loop_of construct).end) _ (λ end also. begun-made here item construct _ _ has))

-- statements
module _ (here : StepStart) (construct : Tree) (has : HasMade here (Start construct)) where
  unfolded : (point : Point) → All (IsMade (length here.store.cells)) (names_after point (Start construct) here.task.env) → ((executes : Bool) → AreItemsMade (length here.store.cells) (items_after point executes (length here.task.env) (Start construct))) → KeepsMade here (Start construct) (Occurs point construct)
  unfolded point env items = made-event here (Start construct) has point construct (record { items = items; env = env })

  made-parallel : KeepsMade here (Start construct) (begin_parallel here construct)
  unfolding AreItemsMade
  made-parallel = made-result here (Start construct) has (value_or (pos here.view.max) here (requested_threads construct)) _ (λ number found. unfolded _ has.task.env (λ executes. (tt, tt)))

  made-construct : (which : Directive) → KeepsMade here (Start construct) (begin_construct which here construct)
  unfolding AreItemsMade
  made-construct directive.Parallel = made-parallel
  made-construct directive.ParallelFor = made-parallel
  made-construct directive.ParallelSections = made-parallel
  made-construct directive.For = made-loop here (Start construct) construct has
  made-construct directive.Sections = begun-made here (Start construct) construct _ _ has
  made-construct directive.Single = begun-made here (Start construct) construct _ _ has
  made-construct directive.Masked = unfolded _ has.task.env (λ executes. (tt, (tt, tt)))
  made-construct directive.Master = unfolded _ has.task.env (λ executes. (tt, (tt, tt)))
  made-construct directive.Critical = unfolded _ has.task.env (λ executes. (tt, (tt, (tt, tt))))
  made-construct directive.Task =
      made-result here (Start construct) has (value_or (pos 1) here (condition_of construct)) _ (λ number found.
      made-choice here (Start construct) has _ (Limits _) _ (made-limit here (Start construct) has _) (unfolded _ has.task.env (λ executes. tt)))

  made-standalone : (which : Standalone) → KeepsMade here (Start construct) (begin_standalone which construct)
  unfolding AreItemsMade
  made-standalone standalone.Barrier = unfolded _ has.task.env (λ executes. (tt, tt))
  made-standalone standalone.Taskwait = unfolded _ has.task.env (λ executes. (tt, tt))

  made-lock : (which : LockCall) → KeepsMade here (Start construct) (begin_lock_call which here construct)
  unfolding AreItemsMade
  made-lock lock.Init = unfolded _ has.task.env (λ executes. tt)
  made-lock lock.Destroy = unfolded _ has.task.env (λ executes. tt)
  made-lock lock.Set = unfolded _ has.task.env (λ executes. (tt, tt))
  made-lock lock.Unset = unfolded _ has.task.env (λ executes. tt)

made-statement : (here : StepStart) (tree : Tree) → HasMade here (Start tree) → KeepsMade here (Start tree) (begin_statement (kind_of tree) here tree)
unfolding Knows AreItemsMade
made-statement here (Node node.Block spot name number text children) has =
    let tree = Node node.Block spot name number text children in
    made-on here (Start tree) has (items_of_parts (flat_declarations (parts tree)) ++ Leave (length here.task.env) ∷ [])
    (items_append (length here.store.cells) (items_of_parts (flat_declarations (parts tree))) (Leave (length here.task.env) ∷ []) (parts-made (length here.store.cells) (flat_declarations (parts tree))) (tt, tt))
made-statement here (Node node.If spot name number text children) has =
    let tree = Node node.If spot name number text children in
    made-result here (Start tree) has (value_here here (child_at tree 0)) _ (λ value found. made-on here (Start tree) has (branch_taken tree value) (branch-made (length here.store.cells) (is_zero value) (has_child tree 2) tree))
made-statement here (Node node.While spot name number text children) has =
    let tree = Node node.While spot name number text children in
    made-result here (Start tree) has (value_here here (child_at tree 0)) _ (λ value found. made-on here (Start tree) has (if is_zero value then [] else Start (child_at tree 1) ∷ Start tree ∷ []) (again-made (length here.store.cells) (is_zero value) (child_at tree 1) tree))
made-statement here (Node node.For spot name number text children) has =
    let tree = Node node.For spot name number text children in
    made-first here (Start tree) has (kind_of (child_at tree 0)) (child_at tree 0) (Test tree (length here.task.env) ∷ []) (λ count. (tt, tt))
made-statement here (Node node.Return spot name number text children) has =
    let tree = Node node.Return spot name number text children in
    made-return here (Start tree) has (kind_of (child_at tree 0)) (child_at tree 0) has.task.env
made-statement here (Node node.SetCall spot name number text children) has =
    let tree = Node node.SetCall spot name number text children in
    made-result here (Start tree) has (cell_of (scope_of here) (child_at tree 0)) _ (λ cell found.
    made-right here (Start tree) has (kind_of (child_at tree 1)) (child_at tree 1) here.task.env (target.Cell cell) has.task.env
    (assigned_made (scope_of here) (child_at tree 0) cell has.task.env has.scoped.now.0.0 found)
    has.task.env)
made-statement here (Node node.Step spot name number text children) has =
    let tree = Node node.Step spot name number text children in
    made-makes here (Start tree) has (kind_of (child_at tree 0)) (child_at tree 0) [] tt
made-statement here (Node node.Called spot name number text children) has =
    let tree = Node node.Called spot name number text children in
    made-right here (Start tree) has (kind_of (child_at tree 0)) (child_at tree 0) here.task.env target.Nowhere has.task.env tt has.task.env
made-statement here (Node node.Print spot name number text children) has =
    let tree = Node node.Print spot name number text children in
    made-result here (Start tree) has (all_values (scope_of here) (parts tree)) _ (λ numbers found.
    made-choice here (Start tree) has _ (Limits _) _ (made-limit here (Start tree) has _) (made-step here (Start tree) has _ (record { task = has.task; grows = omega arith })))
made-statement here (Node (node.LockCall which) spot name number text children) has = made-lock here (Node (node.LockCall which) spot name number text children) has which
made-statement here (Node (node.Standalone which) spot name number text children) has = made-standalone here (Node (node.Standalone which) spot name number text children) has which
made-statement here (Node (node.Construct which) spot name number text children) has = made-construct here (Node (node.Construct which) spot name number text children) has which
made-statement here (Node kind spot name number text children) has = made-on here (Start (Node kind spot name number text children)) has [] tt

made-inside : (here : StepStart) (kind : NodeKind) (construct : Tree) → HasMade here (Inside construct) → KeepsMade here (Inside construct) (begin_inside kind here construct)
unfolding AreItemsMade
made-inside here (node.Construct directive.ParallelFor) construct has = made-loop here (Inside construct) construct has
made-inside here (node.Construct directive.ParallelSections) construct has = begun-made here (Inside construct) construct _ _ has
made-inside here other construct has = made-on here (Inside construct) has [] tt

pub made_item : (item : Item) (here : StepStart) → HasMade here item → KeepsMade here item (step_of item here)
unfolding KeepsMade AreItemsMade
made_item (Start tree) here has = made-statement here tree has
made_item (Declare tree) here has = made-declares here (Declare tree) has (kind_of tree) tree (declared-has here.program (names_of here.task.env) tree has.scoped.now.0)
made_item (Leave names) here has = made-with here (Leave names) has names
made_item (Test tree names) here has =
    made-result here (Test tree names) has (test_value here tree) _ (λ number found.
    made-choice here (Test tree names) has (is_zero number) (goes_on_with here names []) (goes_on here (Start (child_at tree 3) ∷ Third tree names ∷ []))
    (made-with here (Test tree names) has names) (made-on here (Test tree names) has (Start (child_at tree 3) ∷ Third tree names ∷ []) (tt, (tt, tt))))
made_item (Third tree names) here has = made-makes here (Third tree names) has (kind_of (child_at tree 2)) (child_at tree 2) (Test tree names ∷ []) (tt, tt)
made_item (Initialise tree entry) here has =
    let pushed = All-push (IsMade (length here.store.cells)) here.task.env entry has.task.env has.its in
    made-right here (Initialise tree entry) has (kind_of (child_at tree 0)) (child_at tree 0) (here.task.env ++ entry ∷ []) (target.Cell entry.first) pushed (first_made (length here.store.cells) entry has.its) pushed
made_item (Return number) here has = made-returns here (Return number) has here.task.calls number has.task.calls
made_item FallOff here has = made-returns here FallOff has here.task.calls (pos 0) has.task.calls
made_item (Forked construct) here has = record { items = λ executes. tt; env = has.task.env }
made_item (Inside construct) here has = made-inside here (kind_of construct) construct has
made_item (MakeCells construct) here has =
    made-binds here (MakeCells construct) has (with_own_cells here.program (bound_of here) construct) [] (own_cells_made here.program (bound_of here) construct has.task.env has.scoped.now.0.listed) tt
made_item (NextChunk loop) here has = tt
made_item (Iterations loop at upto) here has =
    made-sets here (Iterations loop at upto) has (entry_of here.task.env (name_of (loop_of loop.construct).variable)).first (iteration_value loop.start loop.step at)
    (Start (loop_of loop.construct).body ∷ iterations_from loop (at + 1) upto ∷ []) (tt, (chosen_made (length here.store.cells) _ loop (at + 1) upto, tt))
made_item (NextSection construct names) here has = tt
made_item (Combine operator name names) here has =
    made-result here (Combine operator name names) has (reduction_result operator _ _) _ (λ number found. made-sets here (Combine operator name names) has (entry_of (take names here.task.env) name).first number [] tt)
made_item (EndWork construct kind count names) here has =
    record { items = λ executes. barrier-made (length here.store.cells) (has_nowait construct) construct; env = All-take (IsMade (length here.store.cells)) names here.task.env has.task.env }
made_item (EndMasked construct) here has = record { items = λ executes. tt; env = has.task.env }
made_item (Sync tree kind at) here has = record { items = λ executes. stage-made (length here.store.cells) tree kind at; env = has.task.env }
made_item (Acquire tree kind id) here has = record { items = λ executes. tt; env = has.task.env }
made_item (Release tree id) here has = record { items = λ executes. tt; env = has.task.env }
made_item (TestLock call id to) here has = tt
made_item (Tested to) here has = made-tested here (Tested to) has to
