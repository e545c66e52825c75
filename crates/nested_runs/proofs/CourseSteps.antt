-- A step of a member's code before its region's barrier leaves the barrier ahead: what comes to stand next is no such barrier, and returns only where
-- the item does that it comes of.
use Rattle.std.specs.Prelude.{ℕ, ◌+◌, ◌≡◌, ◌&&◌, not, if◌then◌else◌, Bool, true, false, IsTrue, List, [], ◌∷◌, ◌++◌, length, take, Result, Ok, Err, ℤ, pos, refl}
use Rattle.std.proofs.Common.{sym, subst}
use Rattle.c_syntax.specs.declared.node.Directive.{Directive}
use Rattle.c_syntax.specs.declared.node.Directive.TheVariants as directive
use Rattle.c_syntax.specs.declared.node.LockCall.{LockCall}
use Rattle.c_syntax.specs.declared.node.LockCall.TheVariants as lock
use Rattle.c_syntax.specs.declared.node.NodeKind.{NodeKind}
use Rattle.c_syntax.specs.declared.node.NodeKind.TheVariants as node
use Rattle.c_syntax.specs.declared.node.Setting.{Setting}
use Rattle.c_syntax.specs.declared.node.Standalone.{Standalone}
use Rattle.c_syntax.specs.declared.node.Standalone.TheVariants as standalone
use Rattle.c_syntax.specs.language.Numbered.{TreeView}
use Rattle.c_syntax.specs.language.Tree.{Tree, children_of, kind_of, name_of}
use Rattle.c_syntax.specs.language.Tree.Tree.{Node}
use Rattle.c_check.specs.Loops.{child_at}
use Rattle.c_check.specs.Seen.{slot_of_name}
use Rattle.c_model.specs.declared.entry.Entry.{Entry}
use Rattle.c_model.specs.declared.point.Point.{Point}
use Rattle.c_model.specs.declared.point.Point.TheVariants.{Sync as SyncPoint, WorkBegin}
use Rattle.c_model.specs.declared.point.SyncKind.{SyncKind}
use Rattle.c_model.specs.declared.point.SyncKind.TheVariants as sync
use Rattle.c_model.specs.declared.point.SyncStage.{SyncStage}
use Rattle.c_model.specs.declared.point.SyncStage.TheVariants as stage
use Rattle.c_model.specs.declared.point.Target.{Target}
use Rattle.c_model.specs.declared.point.Target.TheVariants as target
use Rattle.c_model.specs.declared.point.Work.{Work}
use Rattle.c_model.specs.declared.point.Work.TheVariants as work
use Rattle.c_model.specs.declared.view.View.{View}
use Rattle.c_model.specs.Parts.{flat_declarations, has_child, parts}
use Rattle.c_model.specs.Program.{body_of, function_named, place_of}
use Rattle.c_model.specs.Cells.{Bound, cell_at, entry_of, with_cells, with_declarator}
use Rattle.c_model.specs.Value.{all_values, cell_of, is_zero}
use Rattle.c_model.specs.Calls.{begin_call, begin_lock_call, begin_return_of, begin_right, bound_in, ends_test, enters, open_call, returns_to, value_items}
use Rattle.c_model.specs.Clauses.{condition_of, construct_statement, has_nowait, requested_threads}
use Rattle.c_model.specs.StepOutcomes.{binds, bound_of, goes_on, goes_on_with, scope_of, sets, value_here, with_result}
use Rattle.c_model.specs.Constructs.{begin_critical, begin_loop, begin_masked, begin_parallel, begin_sections, begin_single, begin_task, iterations_from, reduction_result, value_or}
use Rattle.c_model.specs.Copies.{makes_cells, with_own_cells}
use Rattle.c_model.specs.AfterEvents.{items_after, next_stage, tree_at_event, work_items}
use Rattle.c_model.specs.Loops.{loop_of}
use Rattle.c_model.specs.Statements.{assigns, begin_local_set, begin_set_to_call, begin_set_to_value, branch_taken, declares, makes_first_step, makes_step, new_number, setting_of, test_for, test_value}
use Rattle.c_model.specs.Step.{begin_construct, begin_inside, begin_standalone, begin_statement, step_at, step_of}
use Rattle.c_model.specs.Task.{StepStart, Item, Moment, OpenCall, Outcome, Store, items_of_parts}
use Rattle.c_model.specs.Task.Item.{Start, Declare, Leave, Test, Third, Initialise, Return, FallOff, Forked, Inside, MakeCells, NextChunk, Iterations, NextSection, Combine, EndWork, EndMasked, Sync, Acquire, Release, TestLock, Tested}
use Rattle.c_model.specs.Task.Outcome.{StepsTo, Occurs, Ends, Limits}
use Rattle.c_brackets.specs.Orderly.{AreInOrder, HasNoReturn, IsProper, is_return, may_return}
use Rattle.c_brackets.specs.Returns.{ReturnsOutside, has_return, has_return_among}
use Rattle.c_brackets.proofs.OpenLists.{never}
use Rattle.c_brackets.proofs.ReturnTrees.{IsFree, body_free, return_at, statement_free}
use Rattle.c_brackets.proofs.TurningTasks.{here_at}
use Rattle.nested_runs.proofs.Standing.{has_no_barrier, is_ahead, is_region_barrier, is_returned_first}
use Rattle.nested_runs.proofs.CourseItems.{AreAllowed, ahead-behind, ahead-more, ahead-returned, allowed-both, block-allowed, both-true, first-true, iterations-allowed, makes-allowed, not-returned, rest-true, stands-before, value-allowed}

-- a silent step of the item
pub record GoesAhead (here : StepStart) (item : Item) (next : Moment) : Type 0 where
  pub ahead : is_ahead (item ∷ here.task.todo) here.task.calls ≡ true → is_ahead next.task.todo next.task.calls ≡ true

-- an event of the item
abbrev pub is_barrier_point : Point → Bool
is_barrier_point (SyncPoint codeptr sync.Parallel at) = true
is_barrier_point other = false

pub record LeadsAlong (item : Item) (point : Point) : Type 0 where
  pub same : is_barrier_point point ≡ is_region_barrier item
  pub allowed : (executes : Bool) (names : ℕ) → is_region_barrier item ≡ false → AreAllowed (may_return item) (items_after point executes names item)

unfoldable pub Walks : StepStart → Item → Outcome → Type 0
Walks here item (StepsTo next) = GoesAhead here item next
Walks here item (Occurs point tree) = LeadsAlong item point
Walks here item (Ends number) = ⊥
Walks here item other = Unit {0}

-- outcomes
walks-choice : (here : StepStart) (item : Item) (choice : Bool) (one other : Outcome) → Walks here item one → Walks here item other
    → Walks here item (if choice then one else other)
walks-choice here item true one other first second = first
walks-choice here item false one other first second = second

walks-limit : (here : StepStart) (item : Item) (limit : ℕ) → Walks here item (Limits limit)
unfolding Walks
walks-limit here item limit = tt

walks-step : (here : StepStart) (item : Item) (next : Moment) → GoesAhead here item next → Walks here item (StepsTo next)
unfolding Walks
walks-step here item next goes = goes

walks-unless : (here : StepStart) (item : Item) (choice : Bool) (limit : ℕ) (next : Moment) → GoesAhead here item next
    → Walks here item (if choice then Limits limit else StepsTo next)
walks-unless here item choice limit next goes =
    walks-choice here item choice (Limits limit) (StepsTo next) (walks-limit here item limit) (walks-step here item next goes)

walks-event : (here : StepStart) (item : Item) (point : Point) (tree : Tree) → LeadsAlong item point → Walks here item (Occurs point tree)
unfolding Walks
walks-event here item point tree leads = leads

walks-result : {A : Type 0} (here : StepStart) (item : Item) (result : Result A ℕ) (next : A → Outcome) → ((a : A) → Walks here item (next a))
    → Walks here item (with_result result next)
unfolding Walks
walks-result here item (Ok a) next each = each a
walks-result here item (Err trap) next each = tt

-- the function that called goes on
returned : (items : List Item) (call : OpenCall) (calls : List OpenCall) (number : ℤ) → is_ahead items (call ∷ calls) ≡ true
    → is_ahead (value_items call.to number ++ call.todo) calls ≡ true
returned items call calls number ahead =
    let kept = rest-true (has_no_barrier items) (not (is_returned_first call calls) && is_ahead call.todo calls) ahead in
    ahead-returned call calls number (first-true (not (is_returned_first call calls)) (is_ahead call.todo calls) kept)
    (rest-true (not (is_returned_first call calls)) (is_ahead call.todo calls) kept)

-- Of an item that is no region's barrier.
module _ (here : StepStart) (item : Item) (plain : is_region_barrier item ≡ false) where
  moves : (items : List Item) (env : List Entry) (store : Store) → AreAllowed (may_return item) items
      → GoesAhead here item (record { task = record here.task { todo = items ++ here.task.todo; env = env }; store = store })
  moves items env store are = record { ahead = λ ahead. ahead-more item items here.task.todo here.task.calls plain are ahead }

  walks-on : (items : List Item) → AreAllowed (may_return item) items → Walks here item (goes_on here items)
  walks-on items are = walks-step here item _ (moves items here.task.env here.store are)

  walks-with : (names : ℕ) (items : List Item) → AreAllowed (may_return item) items → Walks here item (goes_on_with here names items)
  walks-with names items are = walks-step here item _ (moves items (take names here.task.env) here.store are)

  walks-sets : (cell : ℕ) (number : ℤ) (items : List Item) → AreAllowed (may_return item) items → Walks here item (sets here cell number items)
  walks-sets cell number items are = walks-step here item _ (moves items here.task.env _ are)

  walks-binds : (bound : Bound) (items : List Item) → AreAllowed (may_return item) items → Walks here item (binds here bound items)
  walks-binds bound items are = walks-unless here item _ _ _ (moves items bound.env _ are)

  -- a function returns, and one is called
  walks-returns : (opened : List OpenCall) (number : ℤ) → here.task.calls ≡ opened → IsTrue (may_return item) → Walks here item (returns_to opened here number)
  walks-returns [] number are may =
      walks-step here item _ (record {
        ahead = λ ahead.
            let before = stands-before item here.task.todo plain (subst (λ (calls : List OpenCall). is_ahead (item ∷ here.task.todo) calls ≡ true) are ahead) in
            never (subst (λ (is : Bool). IsTrue is) before.stays may);
      })
  walks-returns (call ∷ rest) number are may =
      walks-step here item _ (record {
        ahead = λ ahead.
            returned here.task.todo call rest number
            (subst (λ (calls : List OpenCall). is_ahead here.task.todo calls ≡ true) are (ahead-behind item here.task.todo here.task.calls plain ahead));
      })

  walks-enters : (function : Tree) (env : List Entry) (to : Target) (bound : Bound) → (IsTrue (is_return to) → IsTrue (may_return item))
      → Walks here item (enters here function (open_call here env to) bound)
  walks-enters function env to bound returns =
      let next : Moment = record {
        task = record {
          todo = Start (body_of function) ∷ FallOff ∷ [];
          env = bound.env;
          calls = open_call here env to ∷ here.task.calls;
          returned = here.task.returned;
        };
        store = record here.store { cells = bound.cells };
      } in
      let goes : GoesAhead here item next = record {
        ahead = λ ahead.
            both-true _ _ (not-returned item here.task.todo here.task.calls (open_call here env to) plain returns ahead)
            (ahead-behind item here.task.todo here.task.calls plain ahead);
      } in
      search (walks-choice, walks-limit, walks-step, goes)

  walks-call : (call : Tree) (env : List Entry) (to : Target) → (IsTrue (is_return to) → IsTrue (may_return item))
      → Walks here item (begin_call here call env to)
  walks-call call env to returns =
      walks-result here item (all_values (scope_of here) (parts call)) _ (λ numbers.
      walks-enters (function_named here.program (name_of call)) env to (bound_in here (function_named here.program (name_of call)) numbers) returns)

  walks-right : (kind : NodeKind) (call : Tree) (env : List Entry) (to : Target) → (IsTrue (is_return to) → IsTrue (may_return item))
      → Walks here item (begin_right kind here call env to)
  walks-right node.TestLock call env to returns =
      walks-event here item _ call (record { same = sym plain; allowed = λ executes names is. ((refl, returns), tt) })
  walks-right other call env to returns = walks-call call env to returns

  walks-return : (kind : NodeKind) (right : Tree) → IsTrue (may_return item) → Walks here item (begin_return_of kind here right)
  walks-return node.Call right may = walks-call right here.task.env target.Return (λ is. may)
  walks-return node.TestLock right may = walks-right node.TestLock right here.task.env target.Return (λ is. may)
  walks-return other right may = walks-result here item (value_here here right) _ (λ number. walks-returns here.task.calls number refl may)

  walks-tested : (to : Target) → (IsTrue (is_return to) → IsTrue (may_return item)) → Walks here item (ends_test here to)
  walks-tested to returns = walks-step here item _ (moves (value_items to (pos 1)) here.task.env _ (value-allowed (may_return item) to (pos 1) returns))

  -- declarators and assignments
  walks-set-to-value : (named expression : Tree) (items : List Item) → AreAllowed (may_return item) items
      → Walks here item (begin_set_to_value here named expression items)
  walks-set-to-value named expression items are =
      walks-result here item (value_here here expression) _
      (λ number. walks-binds (with_cells (bound_of here) (name_of named) (slot_of_name here.program named) (number ∷ [])) items are)

  walks-set-to-call : (tree : Tree) → Walks here item (begin_set_to_call here tree)
  walks-set-to-call tree = walks-unless here item _ _ _ (moves (Initialise tree _ ∷ []) here.task.env _ ((refl, λ is. never is), tt))

  walks-local : (kind : NodeKind) (tree : Tree) → Walks here item (begin_local_set kind here tree)
  walks-local node.Call tree = walks-set-to-call tree
  walks-local node.TestLock tree = walks-set-to-call tree
  walks-local other tree = walks-set-to-value tree (child_at tree 0) [] tt

  walks-declares : (kind : NodeKind) (tree : Tree) → Walks here item (declares kind here tree)
  walks-declares node.LocalSet tree = walks-local (kind_of (child_at tree 0)) tree
  walks-declares other tree = walks-binds (with_declarator here.program (bound_of here) tree) [] tt

  walks-assigns : (which : Setting) (place : Tree) (right : Result ℤ ℕ) (items : List Item) → AreAllowed (may_return item) items
      → Walks here item (assigns here which place right items)
  walks-assigns which place right items are =
      walks-result here item (cell_of (scope_of here) place) _ (λ cell.
      walks-result here item (new_number which (cell_at here.store.cells cell) right) _ (λ number. walks-sets cell number items are))

  walks-makes : (kind : NodeKind) (tree : Tree) (items : List Item) → AreAllowed (may_return item) items → Walks here item (makes_step kind here tree items)
  walks-makes (node.Assign which) tree items are = walks-assigns which (child_at tree 0) (value_here here (child_at tree 1)) items are
  walks-makes (node.Bump which side) tree items are = walks-assigns (setting_of which) (child_at tree 0) (Ok (pos 1)) items are
  walks-makes other tree items are = walks-on items are

  walks-first : (kind : NodeKind) (tree : Tree) (items : List Item) → AreAllowed (may_return item) items
      → Walks here item (makes_first_step kind here tree items)
  walks-first node.Init tree items are =
      walks-choice here item (has_child tree 0) _ _ (walks-set-to-value (child_at tree 0) (child_at tree 1) items are) (walks-on items are)
  walks-first other tree items are = walks-makes other tree items are

  -- the work of a construct begins
  work-allowed : (may : Bool) (kind : Work) (construct : Tree) (names : ℕ) (executes : Bool) → IsFree (construct_statement construct)
      → AreAllowed may (work_items kind construct names executes)
  work-allowed may (work.Loop start count step schedule) construct names executes free = ((refl, λ is. never is), tt)
  work-allowed may (work.Sections count) construct names executes free = ((refl, λ is. never is), tt)
  work-allowed may work.Single construct names true free = ((refl, λ is. absurd (free is)), ((refl, λ is. never is), tt))
  work-allowed may work.Single construct names false free = ((refl, λ is. never is), tt)

  begun : (construct : Tree) (codeptr : ℕ) (kind : Work) → tree_at_event item ≡ construct → HasNoReturn construct → LeadsAlong item (WorkBegin codeptr kind)
  begun construct codeptr kind is free =
      record {
        same = sym plain;
        allowed = λ executes names none.
            allowed-both (may_return item) (makes_cells (tree_at_event item)) (work_items kind (tree_at_event item) names executes)
            (makes-allowed (may_return item) (tree_at_event item))
            (work-allowed (may_return item) kind (tree_at_event item) names executes
            (subst (λ (tree : Tree). IsFree (construct_statement tree)) (sym is) (statement_free construct free)));
      }

  walks-loop : (construct : Tree) → tree_at_event item ≡ construct → HasNoReturn construct → Walks here item (begin_loop here construct)
  walks-loop construct is free =
      walks-result here item (value_here here (loop_of construct).start) _ (λ start.
      walks-result here item (value_here here (loop_of construct).end) _ (λ end. walks-event here item _ construct (begun construct _ _ is free)))

  walks-sections : (construct : Tree) → tree_at_event item ≡ construct → HasNoReturn construct → Walks here item (begin_sections construct)
  walks-sections construct is free = walks-event here item _ construct (begun construct _ _ is free)

-- statements
branch-allowed : (zero has : Bool) (tree : Tree) (may : Bool) → (IsTrue (has_return_among (children_of tree)) → IsTrue may)
    → AreAllowed may (if zero then (if has then Start (child_at tree 2) ∷ [] else []) else Start (child_at tree 1) ∷ [])
branch-allowed true true tree may returns = ((refl, λ is. returns (return_at (children_of tree) 2 is)), tt)
branch-allowed true false tree may returns = tt
branch-allowed false has tree may returns = ((refl, λ is. returns (return_at (children_of tree) 1 is)), tt)

again-allowed : (over : Bool) (body tree : Tree) (may : Bool) → (IsTrue (has_return body) → IsTrue may) → (IsTrue (has_return tree) → IsTrue may)
    → AreAllowed may (if over then [] else Start body ∷ Start tree ∷ [])
again-allowed true body tree may inner outer = tt
again-allowed false body tree may inner outer = ((refl, inner), ((refl, outer), tt))

-- constructs
module _ (here : StepStart) (construct : Tree) (is : tree_at_event (Start construct) ≡ construct) (free : HasNoReturn construct) where
  statement-is-free : IsFree (construct_statement (tree_at_event (Start construct)))
  statement-is-free = subst (λ (tree : Tree). IsFree (construct_statement tree)) (sym is) (statement_free construct free)

  walks-parallel : Walks here (Start construct) (begin_parallel here construct)
  walks-parallel =
      walks-result here (Start construct) (value_or (pos here.view.max) here (requested_threads construct)) _ (λ number.
      walks-event here (Start construct) _ construct (record { same = refl; allowed = λ executes names none. ((refl, λ is. never is), tt) }))

  walks-masked : Walks here (Start construct) (begin_masked construct)
  walks-masked =
      walks-event here (Start construct) _ construct (record {
        same = refl;
        allowed = λ executes names none. ((refl, λ has. absurd (statement-is-free has)), ((refl, λ has. never has), tt));
      })

  walks-critical : Walks here (Start construct) (begin_critical here construct)
  walks-critical =
      walks-event here (Start construct) _ construct (record {
        same = refl;
        allowed = λ executes names none. ((refl, λ has. never has), ((refl, λ has. absurd (statement-is-free has)), ((refl, λ has. never has), tt)));
      })

  walks-task : Walks here (Start construct) (begin_task here construct)
  walks-task =
      walks-result here (Start construct) (value_or (pos 1) here (condition_of construct)) _ (λ number.
      walks-choice here (Start construct) _ _ _ (walks-limit here (Start construct) _)
      (walks-event here (Start construct) _ construct (record { same = refl; allowed = λ executes names none. tt })))

  walks-single : Walks here (Start construct) (begin_single construct)
  walks-single = walks-event here (Start construct) _ construct (begun here (Start construct) refl construct _ _ is free)

  walks-construct : (which : Directive) → Walks here (Start construct) (begin_construct which here construct)
  walks-construct directive.Parallel = walks-parallel
  walks-construct directive.For = walks-loop here (Start construct) refl construct is free
  walks-construct directive.Sections = walks-sections here (Start construct) refl construct is free
  walks-construct directive.Single = walks-single
  walks-construct directive.ParallelFor = walks-parallel
  walks-construct directive.ParallelSections = walks-parallel
  walks-construct directive.Masked = walks-masked
  walks-construct directive.Master = walks-masked
  walks-construct directive.Critical = walks-critical
  walks-construct directive.Task = walks-task

walks-standalone : (which : Standalone) (here : StepStart) (tree : Tree) → Walks here (Start tree) (begin_standalone which tree)
walks-standalone standalone.Barrier here tree =
    walks-event here (Start tree) _ tree (record { same = refl; allowed = λ executes names none. ((refl, λ has. never has), tt) })
walks-standalone standalone.Taskwait here tree =
    walks-event here (Start tree) _ tree (record { same = refl; allowed = λ executes names none. ((refl, λ has. never has), tt) })

walks-lock : (which : LockCall) (here : StepStart) (tree : Tree) → Walks here (Start tree) (begin_lock_call which here tree)
walks-lock lock.Init here tree = walks-event here (Start tree) _ tree (record { same = refl; allowed = λ executes names none. tt })
walks-lock lock.Destroy here tree = walks-event here (Start tree) _ tree (record { same = refl; allowed = λ executes names none. tt })
walks-lock lock.Set here tree =
    walks-event here (Start tree) _ tree (record { same = refl; allowed = λ executes names none. ((refl, λ has. never has), tt) })
walks-lock lock.Unset here tree = walks-event here (Start tree) _ tree (record { same = refl; allowed = λ executes names none. tt })

walks-statement : (here : StepStart) (tree : Tree) → IsProper (Start tree) → Walks here (Start tree) (begin_statement (kind_of tree) here tree)
unfolding ReturnsOutside has_return
walks-statement here (Node node.Block spot name number text children) proper =
    let tree = Node node.Block spot name number text children in
    walks-on here (Start tree) refl (items_of_parts (flat_declarations (parts tree)) ++ Leave (length here.task.env) ∷ [])
    (allowed-both (has_return_among children) (items_of_parts (flat_declarations (parts tree))) (Leave (length here.task.env) ∷ [])
    (block-allowed (has_return_among children) children (λ has. has)) ((refl, λ has. never has), tt))
walks-statement here (Node node.If spot name number text children) proper =
    let tree = Node node.If spot name number text children in
    walks-result here (Start tree) (value_here here (child_at tree 0)) _ (λ value.
    walks-on here (Start tree) refl (branch_taken tree value) (branch-allowed (is_zero value) (has_child tree 2) tree (has_return_among children) (λ has. has)))
walks-statement here (Node node.While spot name number text children) proper =
    let tree = Node node.While spot name number text children in
    walks-result here (Start tree) (value_here here (child_at tree 0)) _ (λ value.
    walks-on here (Start tree) refl (if is_zero value then [] else Start (child_at tree 1) ∷ Start tree ∷ [])
    (again-allowed (is_zero value) (child_at tree 1) tree (has_return_among children) (λ has. return_at children 1 has) (λ has. has)))
walks-statement here (Node node.For spot name number text children) proper =
    let tree = Node node.For spot name number text children in
    walks-first here (Start tree) refl (kind_of (child_at tree 0)) (child_at tree 0) (Test tree (length here.task.env) ∷ [])
    ((refl, λ has. return_at children 3 has), tt)
walks-statement here (Node node.Return spot name number text children) proper =
    let tree = Node node.Return spot name number text children in
    walks-return here (Start tree) refl (kind_of (child_at tree 0)) (child_at tree 0) refl
walks-statement here (Node node.SetCall spot name number text children) proper =
    let tree = Node node.SetCall spot name number text children in
    walks-result here (Start tree) (cell_of (scope_of here) (child_at tree 0)) _ (λ cell.
    walks-right here (Start tree) refl (kind_of (child_at tree 1)) (child_at tree 1) here.task.env (target.Cell cell) (λ has. never has))
walks-statement here (Node node.Step spot name number text children) proper =
    let tree = Node node.Step spot name number text children in
    walks-makes here (Start tree) refl (kind_of (child_at tree 0)) (child_at tree 0) [] tt
walks-statement here (Node node.Called spot name number text children) proper =
    let tree = Node node.Called spot name number text children in
    walks-right here (Start tree) refl (kind_of (child_at tree 0)) (child_at tree 0) here.task.env target.Nowhere (λ has. never has)
walks-statement here (Node node.Print spot name number text children) proper =
    let tree = Node node.Print spot name number text children in
    walks-result here (Start tree) (all_values (scope_of here) (parts tree)) _ (λ numbers.
    walks-unless here (Start tree) _ _ _ (moves here (Start tree) refl [] here.task.env _ tt))
walks-statement here (Node (node.LockCall which) spot name number text children) proper =
    walks-lock which here (Node (node.LockCall which) spot name number text children)
walks-statement here (Node (node.Standalone which) spot name number text children) proper =
    walks-standalone which here (Node (node.Standalone which) spot name number text children)
walks-statement here (Node (node.Construct which) spot name number text children) proper =
    walks-construct here (Node (node.Construct which) spot name number text children) refl proper which
walks-statement here (Node kind spot name number text children) proper =
    walks-on here (Start (Node kind spot name number text children)) refl [] tt

-- the parts of a plain loop
walks-test : (here : StepStart) (tree : Tree) (stay : ℕ) → Walks here (Test tree stay) (test_for here tree stay)
walks-test here tree stay =
    walks-result here (Test tree stay) (test_value here tree) _ (λ number.
    walks-choice here (Test tree stay) (is_zero number) (goes_on_with here stay []) (goes_on here (Start (child_at tree 3) ∷ Third tree stay ∷ []))
    (walks-with here (Test tree stay) refl stay [] tt)
    (walks-on here (Test tree stay) refl (Start (child_at tree 3) ∷ Third tree stay ∷ []) ((refl, λ has. has), ((refl, λ has. has), tt))))

walks-inside : (here : StepStart) (construct : Tree) → IsProper (Inside construct) → Walks here (Inside construct) (begin_inside (kind_of construct) here construct)
walks-inside here (Node (node.Construct directive.ParallelFor) spot name number text children) proper =
    let tree = Node (node.Construct directive.ParallelFor) spot name number text children in walks-loop here (Inside tree) refl tree refl proper
walks-inside here (Node (node.Construct directive.ParallelSections) spot name number text children) proper =
    let tree = Node (node.Construct directive.ParallelSections) spot name number text children in walks-sections here (Inside tree) refl tree refl proper
walks-inside here (Node kind spot name number text children) proper = walks-on here (Inside (Node kind spot name number text children)) refl [] tt

barrier-allowed : (may nowait : Bool) (construct : Tree) → AreAllowed may (if nowait then [] else Sync construct sync.Worksharing stage.RegionBegin ∷ [])
barrier-allowed may true construct = tt
barrier-allowed may false construct = ((refl, λ has. never has), tt)

sync-same : (codeptr : ℕ) (tree : Tree) (kind : SyncKind) (at : SyncStage)
    → is_barrier_point (SyncPoint codeptr kind at) ≡ is_region_barrier (Sync tree kind at)
sync-same codeptr tree sync.Barrier at = refl
sync-same codeptr tree sync.Taskwait at = refl
sync-same codeptr tree sync.Worksharing at = refl
sync-same codeptr tree sync.Parallel at = refl

stage-plain : (tree : Tree) (kind : SyncKind) (at next : SyncStage) → is_region_barrier (Sync tree kind at) ≡ false
    → is_region_barrier (Sync tree kind next) ≡ false
stage-plain tree sync.Barrier at next plain = refl
stage-plain tree sync.Taskwait at next plain = refl
stage-plain tree sync.Worksharing at next plain = refl
stage-plain tree sync.Parallel at next plain = absurd (cc)

stage-allowed : (may : Bool) (tree : Tree) (kind : SyncKind) (at : SyncStage) → is_region_barrier (Sync tree kind at) ≡ false
    → AreAllowed may (next_stage tree kind at)
stage-allowed may tree kind stage.RegionBegin plain = ((stage-plain tree kind stage.RegionBegin stage.WaitBegin plain, λ has. never has), tt)
stage-allowed may tree kind stage.WaitBegin plain = ((stage-plain tree kind stage.WaitBegin stage.WaitEnd plain, λ has. never has), tt)
stage-allowed may tree kind stage.WaitEnd plain = ((stage-plain tree kind stage.WaitEnd stage.RegionEnd plain, λ has. never has), tt)
stage-allowed may tree kind stage.RegionEnd plain = tt

pub walks-item : (item : Item) (here : StepStart) → IsProper item → Walks here item (step_of item here)
unfolding Walks
walks-item (Start tree) here proper = walks-statement here tree proper
walks-item (Declare tree) here proper = walks-declares here (Declare tree) refl (kind_of tree) tree
walks-item (Leave names) here proper = walks-with here (Leave names) refl names [] tt
walks-item (Test tree names) here proper = walks-test here tree names
walks-item (Third tree names) here proper =
    walks-makes here (Third tree names) refl (kind_of (child_at tree 2)) (child_at tree 2) (Test tree names ∷ []) ((refl, λ has. has), tt)
walks-item (Initialise tree entry) here proper =
    walks-right here (Initialise tree entry) refl (kind_of (child_at tree 0)) (child_at tree 0) (here.task.env ++ entry ∷ []) (target.Cell entry.first)
    (λ has. never has)
walks-item (Return number) here proper = walks-returns here (Return number) refl here.task.calls number refl refl
walks-item FallOff here proper = walks-returns here FallOff refl here.task.calls (pos 0) refl refl
walks-item (Forked construct) here proper = record { same = refl; allowed = λ executes names none. tt }
walks-item (Inside construct) here proper = walks-inside here construct proper
walks-item (MakeCells construct) here proper = walks-binds here (MakeCells construct) refl (with_own_cells here.program (bound_of here) construct) [] tt
walks-item (NextChunk loop) here proper = tt
walks-item (Iterations loop at upto) here proper =
    walks-sets here (Iterations loop at upto) refl _ _ (Start (loop_of loop.construct).body ∷ iterations_from loop (at + 1) upto ∷ [])
    ((refl, λ has. absurd (body_free loop.construct proper has)), (iterations-allowed false loop (at + 1) upto, tt))
walks-item (NextSection construct names) here proper = tt
walks-item (Combine operator name names) here proper =
    walks-result here (Combine operator name names) (reduction_result operator _ _) _ (λ number.
    walks-sets here (Combine operator name names) refl (entry_of _ name).first number [] tt)
walks-item (EndWork construct kind count names) here proper =
    record { same = refl; allowed = λ executes names none. barrier-allowed false (has_nowait construct) construct }
walks-item (EndMasked construct) here proper = record { same = refl; allowed = λ executes names none. tt }
walks-item (Sync tree kind at) here proper =
    record { same = sync-same (place_of tree) tree kind at; allowed = λ executes names none. stage-allowed false tree kind at none }
walks-item (Acquire tree kind id) here proper = record { same = refl; allowed = λ executes names none. tt }
walks-item (Release tree id) here proper = record { same = refl; allowed = λ executes names none. tt }
walks-item (TestLock call id to) here proper = tt
walks-item (Tested to) here proper = walks-tested here (Tested to) refl to (λ has. has)

pub walked : (program : TreeView) (view : View) (now : Moment) (item : Item) (items : List Item) (outcome : Outcome) → AreInOrder (item ∷ items)
    → step_at (item ∷ items) program view now ≡ outcome → Walks (here_at program view now items) item outcome
unfolding AreInOrder
walked program view now item items outcome are comes =
    subst (λ (outcome : Outcome). Walks (here_at program view now items) item outcome) comes (walks-item item (here_at program view now items) are.0.0)
