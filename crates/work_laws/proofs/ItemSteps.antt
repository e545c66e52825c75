-- What is so of each item of a task's code stays so: in silent steps, behind answers and events, and where codes begin.
use Rattle.std.proofs.Common.{ℕ, ℤ, ◌≡◌, ◌++◌, ◌+◌, nat_le, if◌then◌else◌, Bool, true, false, List, [], ◌∷◌, length, Result, Ok, Err, pos, refl, subst, sym, take, ap}
use Rattle.std.specs.Prelude.{Option, Some, None}
use Rattle.c_syntax.specs.declared.node.Directive.{Directive}
use Rattle.c_syntax.specs.declared.node.Directive.TheVariants as directive
use Rattle.c_syntax.specs.declared.node.LockCall.{LockCall}
use Rattle.c_syntax.specs.declared.node.LockCall.TheVariants as lock
use Rattle.c_syntax.specs.declared.node.NodeKind.{NodeKind}
use Rattle.c_syntax.specs.declared.node.NodeKind.TheVariants as node
use Rattle.c_syntax.specs.declared.node.Setting.{Setting}
use Rattle.c_syntax.specs.declared.node.Standalone.{Standalone}
use Rattle.c_syntax.specs.declared.node.Standalone.TheVariants as standalone
use Rattle.c_syntax.specs.language.Tree.{Tree, kind_of, name_of}
use Rattle.c_syntax.specs.language.Tree.Tree.{Node}
use Rattle.c_syntax.specs.language.Numbered.{TreeView}
use Rattle.c_check.specs.Loops.{child_at}
use Rattle.c_check.specs.Seen.{slot_of_name}
use Rattle.c_model.specs.declared.entry.Entry.{Entry}
use Rattle.c_model.specs.declared.point.Point.{Point}
use Rattle.c_model.specs.declared.point.Point.TheVariants as point
use Rattle.c_model.specs.declared.point.SyncKind.{SyncKind}
use Rattle.c_model.specs.declared.point.SyncKind.TheVariants as sync
use Rattle.c_model.specs.declared.point.SyncStage.{SyncStage}
use Rattle.c_model.specs.declared.point.SyncStage.TheVariants as stage
use Rattle.c_model.specs.declared.point.Target.{Target}
use Rattle.c_model.specs.declared.point.Target.TheVariants as target
use Rattle.c_model.specs.declared.point.Work.{Work}
use Rattle.c_model.specs.declared.point.Work.TheVariants as work
use Rattle.c_model.specs.declared.point.WorkKind.{WorkKind}
use Rattle.c_model.specs.declared.point.WorkKind.TheVariants as work_kind
use Rattle.c_model.specs.declared.question.Ask.{Ask}
use Rattle.c_model.specs.declared.question.Ask.TheVariants as ask
use Rattle.c_model.specs.declared.question.Answer.{Answer}
use Rattle.c_model.specs.declared.question.Answer.TheVariants as answer
use Rattle.c_model.specs.declared.view.View.{View}
use Rattle.c_model.specs.Begin.{blank_task, created_construct, explicit_task, forked_construct, main_task, member_statement, member_task}
use Rattle.c_model.specs.Calls.{begin_call, begin_lock_call, begin_return_of, begin_right, bound_in, enters, open_call, returns_to, value_items}
use Rattle.c_model.specs.Cells.{Bound, cell_at, entry_of, has_too_many, with_cells, with_declarator}
use Rattle.c_model.specs.declared.limits.TheConstants.{CALLS, CALL_LIMIT, CELLS}
use Rattle.c_model.specs.Clauses.{condition_of, construct_statement, has_nowait, requested_threads, schedule_of, sections_of}
use Rattle.c_model.specs.StepOutcomes.{binds, bound_of, goes_on, goes_on_with, scope_of, sets, value_here, with_result}
use Rattle.c_model.specs.Constructs.{begin_loop, begin_masked, begin_parallel, begin_sections, begin_task, iterations_from, reduction_result, value_or}
use Rattle.c_model.specs.Copies.{combines, makes_cells, with_own_cells}
use Rattle.c_model.specs.AfterEvents.{after_answer, after_event, answered_at, items_after, items_answered, items_of_chunk, items_of_section, items_of_test, next_stage, passed_at, single_items, tree_at_event, work_items}
use Rattle.c_model.specs.Loops.{iteration_count, loop_of}
use Rattle.c_model.specs.Parts.{flat_declarations, has_child, parts}
use Rattle.c_model.specs.Program.{body_of, function_named, place_of}
use Rattle.c_model.specs.Statements.{assigns, begin_local_set, begin_set_to_call, begin_set_to_value, branch_taken, declares, makes_first_step, makes_step, new_number, setting_of, test_for, test_value}
use Rattle.c_model.specs.Step.{begin_construct, begin_inside, begin_standalone, begin_statement, skips_masked, items_from_next, settled_moment, settled_task, silent, step_at, step_of}
use Rattle.c_model.specs.Task.{StepStart, Item, Moment, OpenCall, Outcome, SharedLoop, Store, Task as Code, items_of_parts}
use Rattle.c_model.specs.Task.Item.{Start, Declare, Leave, Test, Third, Initialise, Return, FallOff, Forked, Inside, MakeCells, NextChunk, Iterations, NextSection, Combine, EndWork, EndMasked, Sync, Acquire, Release, TestLock, Tested}
use Rattle.c_model.specs.Task.Outcome.{Asks, Limits, Occurs, StepsTo}
use Rattle.c_model.specs.Value.{all_values, cell_of, is_zero}
use Rattle.c_brackets.proofs.TurningTasks.{here_at}
use Rattle.work_laws.proofs.Items.{AreCalls, AreItems, AreRules, HoldsCode, IsConstruct, IsItem, both, combining, iterations, making, parts-items, value}

-- the work that an answer ends may end so
abbrev pub MayAnswer : (WorkKind → Type 0) → Answer → Type 0
MayAnswer E (answer.Chunk None) = E work_kind.Loop
MayAnswer E (answer.Section None) = E work_kind.Sections
MayAnswer E other = Unit {0}

-- a loop that begins deals its iterations so, sections that begin have this place and number, and the statement of a task that is created is so
abbrev pub TellsWork : (Tree → Type 0) → ℕ → Work → Tree → Type 0
TellsWork S codeptr (work.Loop start count step how) construct = S construct × (how ≡ schedule_of construct)
TellsWork S codeptr (work.Sections count) construct = S construct × ((codeptr ≡ place_of construct) × (count ≡ length (sections_of construct)))
TellsWork S codeptr work.Single construct = Unit {0}

abbrev pub TellsSo : (Tree → Type 0) → (Tree → Type 0) → Point → Item → Type 0
TellsSo T S (point.WorkBegin codeptr what) item = TellsWork S codeptr what (tree_at_event item)
TellsSo T S (point.TaskCreate codeptr undeferred) item = T (construct_statement (created_construct (item ∷ [])))
TellsSo T S other item = Unit {0}

-- what asks for a section is so
abbrev pub AsksSo : (Tree → Type 0) → (Tree → Type 0) → Ask → Tree → Type 0
AsksSo S A ask.Section construct = S construct × A construct
AsksSo S A other tree = Unit {0}

-- sections that begin may ask so
abbrev pub MayWork : (Tree → Type 0) → Work → Tree → Type 0
MayWork A (work.Sections count) construct = A construct
MayWork A other construct = Unit {0}

abbrev pub MayBegin : (Tree → Type 0) → Point → Item → Type 0
MayBegin A (point.WorkBegin codeptr what) item = MayWork A what (tree_at_event item)
MayBegin A other item = Unit {0}

abbrev pub MayNext : (Tree → Type 0) → Point → List Item → Type 0
MayNext A what [] = Unit {0}
MayNext A what (item ∷ items) = MayBegin A what item

-- a `single` may end
pub record MayEndSingle (E : WorkKind → Type 0) : Type 0 where
  pub executor : E work_kind.SingleExecutor
  pub other : E work_kind.SingleOther

module _ (T S A : Tree → Type 0) (E : WorkKind → Type 0) (rules : AreRules T S) (ends : MayEndSingle E) where
  abbrev Holds : Code → Type 0
  Holds code = HoldsCode T S A E code

  abbrev Are : List Item → Type 0
  Are items = AreItems T S A E items

  abbrev Is : Item → Type 0
  Is item = IsItem T S A E item

  abbrev IsOpenable : Tree → Type 0
  IsOpenable construct = IsConstruct T S construct

  -- what is so behind a step that is made, and behind an event of the item
  unfoldable Keeps : Item → Outcome → Type 0
  Keeps item (StepsTo next) = Holds next.task
  Keeps item (Occurs what tree) = (MayBegin A what item → (executes : Bool) (names : ℕ) → Are (items_after what executes names item)) × TellsSo T S what item
  Keeps item (Asks what tree) = AsksSo S A what tree
  Keeps item other = Unit {0}

  module _ (item : Item) where
    keeps-choice : (choice : Bool) (one other : Outcome) → Keeps item one → Keeps item other → Keeps item (if choice then one else other)
    keeps-choice true one other first second = first
    keeps-choice false one other first second = second

    keeps-step : (next : Moment) → Holds next.task → Keeps item (StepsTo next)
    unfolding Keeps
    keeps-step next holds = holds

    keeps-limit : (limit : ℕ) → Keeps item (Limits limit)
    unfolding Keeps
    keeps-limit limit = tt

    keeps-event : (what : Point) (tree : Tree) → (MayBegin A what item → (executes : Bool) (names : ℕ) → Are (items_after what executes names item)) → TellsSo T S what item
        → Keeps item (Occurs what tree)
    unfolding Keeps
    keeps-event what tree are deals = (are, deals)

    keeps-asks : (what : Ask) (tree : Tree) → AsksSo S A what tree → Keeps item (Asks what tree)
    unfolding Keeps
    keeps-asks what tree so = so

    keeps-unless : (choice : Bool) (limit : ℕ) (next : Moment) → Holds next.task → Keeps item (if choice then Limits limit else StepsTo next)
    keeps-unless choice limit next holds = keeps-choice choice (Limits limit) (StepsTo next) (keeps-limit limit) (keeps-step next holds)

    keeps-result : {A : Type 0} (result : Result A ℕ) (next : A → Outcome) → ((a : A) → Keeps item (next a)) → Keeps item (with_result result next)
    unfolding Keeps
    keeps-result (Ok a) next each = each a
    keeps-result (Err trap) next each = tt

  -- the work of a construct begins
  single : (construct : Tree) (names : ℕ) (executes : Bool) → IsOpenable construct → Are (single_items construct names executes)
  single construct names true is = (is.statement, (ends.executor, tt))
  single construct names false is = (ends.other, tt)

  worked : (begun : Work) (construct : Tree) (names : ℕ) (executes : Bool) → IsOpenable construct → MayWork A begun construct
      → Are (work_items begun construct names executes)
  worked (work.Loop start count step schedule) construct names executes is may = (is, tt)
  worked (work.Sections count) construct names executes is may = ((is, may), tt)
  worked work.Single construct names executes is may = single construct names executes is

  begun : (codeptr : ℕ) (what : Work) (item : Item) → IsOpenable (tree_at_event item) → MayWork A what (tree_at_event item)
      → (executes : Bool) (names : ℕ) → Are (items_after (point.WorkBegin codeptr what) executes names item)
  begun codeptr what item is may executes names =
      both T S A E (makes_cells (tree_at_event item)) (work_items what (tree_at_event item) names executes) (making T S A E (tree_at_event item))
      (worked what (tree_at_event item) names executes is may)

  module _ (here : StepStart) (rest : Are here.task.todo) (calls : AreCalls T S A E here.task.calls)
      (functions : (name : ℕ) → T (body_of (function_named here.program name))) (item : Item) where
    moves : (items : List Item) (env : List Entry) (store : Store) → Are items
        → Keeps item (StepsTo (record { task = record here.task { todo = items ++ here.task.todo; env = env }; store = store }))
    moves items env store are = keeps-step item _ (record { now = both T S A E items here.task.todo are rest; calls = calls })

    keeps-on : (items : List Item) → Are items → Keeps item (goes_on here items)
    keeps-on items are = moves items here.task.env here.store are

    keeps-with : (names : ℕ) (items : List Item) → Are items → Keeps item (goes_on_with here names items)
    keeps-with names items are = moves items (take names here.task.env) here.store are

    keeps-sets : (cell : ℕ) (number : ℤ) (items : List Item) → Are items → Keeps item (sets here cell number items)
    keeps-sets cell number items are = moves items here.task.env _ are

    keeps-binds : (bound : Bound) (items : List Item) → Are items → Keeps item (binds here bound items)
    keeps-binds bound items are = keeps-choice item _ _ _ (keeps-limit item _) (moves items bound.env _ are)

    -- a function returns, and one is called
    keeps-returns : (opened : List OpenCall) (number : ℤ) → AreCalls T S A E opened → Keeps item (returns_to opened here number)
    unfolding Keeps
    keeps-returns [] number are = record { now = tt; calls = calls }
    keeps-returns (call ∷ others) number are =
        record { now = both T S A E (value_items call.to number) call.todo (value T S A E call.to number) are.0; calls = are.1 }

    keeps-enters : (name : ℕ) (env : List Entry) (to : Target) (bound : Bound)
        → Keeps item (enters here (function_named here.program name) (open_call here env to) bound)
    keeps-enters name env to bound =
        let next : Moment = record {
          task = record here.task {
            todo = Start (body_of (function_named here.program name)) ∷ FallOff ∷ [];
            env = bound.env;
            calls = open_call here env to ∷ here.task.calls;
          };
          store = record here.store { cells = bound.cells };
        } in
        let holds : Holds next.task = record { now = (functions name, (tt, tt)); calls = (rest, calls) } in
        let few = nat_le CALL_LIMIT (length here.task.calls) in
        keeps-choice item (has_too_many bound.cells) (Limits CELLS) (if few then Limits CALLS else StepsTo next) (keeps-limit item CELLS)
        (keeps-unless item few CALLS next holds)

    keeps-call : (call : Tree) (env : List Entry) (to : Target) → Keeps item (begin_call here call env to)
    keeps-call call env to =
        keeps-result item (all_values (scope_of here) (parts call)) _ (λ numbers.
        keeps-enters (name_of call) env to (bound_in here (function_named here.program (name_of call)) numbers))

    keeps-right : (kind : NodeKind) (call : Tree) (env : List Entry) (to : Target) → Keeps item (begin_right kind here call env to)
    keeps-right node.TestLock call env to = keeps-event item _ call (λ may executes names. (tt, tt)) tt
    keeps-right other call env to = keeps-call call env to

    keeps-return : (kind : NodeKind) (right : Tree) → Keeps item (begin_return_of kind here right)
    keeps-return node.Call right = keeps-call right here.task.env target.Return
    keeps-return node.TestLock right = keeps-event item _ right (λ may executes names. (tt, tt)) tt
    keeps-return other right = keeps-result item (value_here here right) _ (λ number. keeps-returns here.task.calls number calls)

    -- declarators and assignments
    keeps-set-to-value : (named expression : Tree) (items : List Item) → Are items → Keeps item (begin_set_to_value here named expression items)
    keeps-set-to-value named expression items are =
        keeps-result item (value_here here expression) _
        (λ number. keeps-binds (with_cells (bound_of here) (name_of named) (slot_of_name here.program named) (number ∷ [])) items are)

    keeps-set-to-call : (tree : Tree) → Keeps item (begin_set_to_call here tree)
    keeps-set-to-call tree = keeps-choice item _ _ _ (keeps-limit item _) (moves (Initialise tree _ ∷ []) here.task.env _ (tt, tt))

    keeps-local : (kind : NodeKind) (tree : Tree) → Keeps item (begin_local_set kind here tree)
    keeps-local node.Call tree = keeps-set-to-call tree
    keeps-local node.TestLock tree = keeps-set-to-call tree
    keeps-local other tree = keeps-set-to-value tree (child_at tree 0) [] tt

    keeps-declares : (kind : NodeKind) (tree : Tree) → Keeps item (declares kind here tree)
    keeps-declares node.LocalSet tree = keeps-local (kind_of (child_at tree 0)) tree
    keeps-declares other tree = keeps-binds (with_declarator here.program (bound_of here) tree) [] tt

    keeps-assigns : (which : Setting) (place : Tree) (right : Result ℤ ℕ) (items : List Item) → Are items
        → Keeps item (assigns here which place right items)
    keeps-assigns which place right items are =
        keeps-result item (cell_of (scope_of here) place) _ (λ cell.
        keeps-result item (new_number which (cell_at here.store.cells cell) right) _ (λ number. keeps-sets cell number items are))

    keeps-makes : (kind : NodeKind) (tree : Tree) (items : List Item) → Are items → Keeps item (makes_step kind here tree items)
    keeps-makes (node.Assign which) tree items are = keeps-assigns which (child_at tree 0) (value_here here (child_at tree 1)) items are
    keeps-makes (node.Bump which side) tree items are = keeps-assigns (setting_of which) (child_at tree 0) (Ok (pos 1)) items are
    keeps-makes other tree items are = keeps-on items are

    keeps-first : (kind : NodeKind) (tree : Tree) (items : List Item) → Are items → Keeps item (makes_first_step kind here tree items)
    keeps-first node.Init tree items are =
        keeps-choice item (has_child tree 0) _ _ (keeps-set-to-value (child_at tree 0) (child_at tree 1) items are) (keeps-on items are)
    keeps-first other tree items are = keeps-makes other tree items are

    -- constructs, whose item has them as the tree of the event
    keeps-loop : (construct : Tree) → tree_at_event item ≡ construct → IsOpenable (tree_at_event item) → Keeps item (begin_loop here construct)
    keeps-loop construct same is =
        keeps-result item (value_here here (loop_of construct).start) _ (λ start.
        keeps-result item (value_here here (loop_of construct).end) _ (λ end.
        keeps-event item _ construct
        (begun (place_of construct) (work.Loop start (iteration_count construct start end) (loop_of construct).step
        (schedule_of construct)) item is) (is.self, ap schedule_of (sym same))))

    keeps-sections : (construct : Tree) → tree_at_event item ≡ construct → IsOpenable (tree_at_event item) → Keeps item (begin_sections construct)
    keeps-sections construct same is =
        keeps-event item _ construct (begun (place_of construct) (work.Sections (length (sections_of construct))) item is)
        (is.self, (ap place_of (sym same), ap (λ (tree : Tree). length (sections_of tree)) (sym same)))

  module _ (here : StepStart) (rest : Are here.task.todo) (calls : AreCalls T S A E here.task.calls)
      (functions : (name : ℕ) → T (body_of (function_named here.program name))) where
    parallel : (construct : Tree) → IsOpenable (tree_at_event (Start construct)) → Keeps (Start construct) (begin_parallel here construct)
    parallel construct is =
        keeps-result (Start construct) (value_or (pos here.view.max) here (requested_threads construct)) _
        (λ number. keeps-event (Start construct) _ construct (λ may executes names. (is, tt)) tt)

    creates-task : (construct : Tree) → IsOpenable construct → Keeps (Start construct) (begin_task here construct)
    creates-task construct is =
        keeps-result (Start construct) (value_or (pos 1) here (condition_of construct)) _ (λ number.
        keeps-choice (Start construct) _ _ _ (keeps-limit (Start construct) _) (keeps-event (Start construct) _ construct
        (λ may executes names. tt) is.statement))

    masked : (construct : Tree) → IsOpenable (tree_at_event (Start construct)) → Keeps (Start construct) (begin_masked construct)
    masked construct is = keeps-event (Start construct) _ construct (λ may executes names. (is.statement, (tt, tt))) tt

    keeps-construct : (which : Directive) (construct : Tree) → tree_at_event (Start construct) ≡ construct
        → IsOpenable (tree_at_event (Start construct)) → IsOpenable construct → Keeps (Start construct) (begin_construct which here construct)
    keeps-construct directive.Parallel construct same is own = parallel construct is
    keeps-construct directive.For construct same is own = keeps-loop here rest calls functions (Start construct) construct same is
    keeps-construct directive.Sections construct same is own = keeps-sections here rest calls functions (Start construct) construct same is
    keeps-construct directive.Single construct same is own =
        keeps-event (Start construct) _ construct (begun (place_of construct) work.Single (Start construct) is) tt
    keeps-construct directive.ParallelFor construct same is own = parallel construct is
    keeps-construct directive.ParallelSections construct same is own = parallel construct is
    keeps-construct directive.Masked construct same is own = masked construct is
    keeps-construct directive.Master construct same is own = masked construct is
    keeps-construct directive.Critical construct same is own =
        keeps-event (Start construct) _ construct (λ may executes names. (tt, (is.statement, (tt, tt)))) tt
    keeps-construct directive.Task construct same is own = creates-task construct own

    keeps-standalone : (which : Standalone) (tree : Tree) → Keeps (Start tree) (begin_standalone which tree)
    keeps-standalone standalone.Barrier tree = keeps-event (Start tree) _ tree (λ may executes names. (tt, tt)) tt
    keeps-standalone standalone.Taskwait tree = keeps-event (Start tree) _ tree (λ may executes names. (tt, tt)) tt

    keeps-lock : (which : LockCall) (tree : Tree) → Keeps (Start tree) (begin_lock_call which here tree)
    keeps-lock lock.Init tree = keeps-event (Start tree) _ tree (λ may executes names. tt) tt
    keeps-lock lock.Destroy tree = keeps-event (Start tree) _ tree (λ may executes names. tt) tt
    keeps-lock lock.Set tree = keeps-event (Start tree) _ tree (λ may executes names. (tt, tt)) tt
    keeps-lock lock.Unset tree = keeps-event (Start tree) _ tree (λ may executes names. tt) tt

    -- statements
    branch : (zero has : Bool) (one other : Tree) → T one → T other
        → Are (if zero then (if has then Start other ∷ [] else []) else Start one ∷ [])
    branch true true one other first second = (second, tt)
    branch true false one other first second = tt
    branch false has one other first second = (first, tt)

    again : (over : Bool) (inner tree : Tree) → T inner → T tree → Are (if over then [] else Start inner ∷ Start tree ∷ [])
    again true inner tree first second = tt
    again false inner tree first second = (first, (second, tt))

    keeps-statement : (tree : Tree) → T tree → Keeps (Start tree) (begin_statement (kind_of tree) here tree)
    keeps-statement (Node node.Block spot name number text children) is =
        let tree = Node node.Block spot name number text children in
        keeps-on here rest calls functions (Start tree) (items_of_parts (flat_declarations (parts tree)) ++ Leave (length here.task.env) ∷ [])
        (both T S A E (items_of_parts (flat_declarations (parts tree))) (Leave (length here.task.env) ∷ [])
        (parts-items T S A E (flat_declarations (parts tree)) (rules.block tree refl is)) (tt, tt))
    keeps-statement (Node node.If spot name number text children) is =
        let tree = Node node.If spot name number text children in
        let both-branches = rules.branches tree refl is in
        keeps-result (Start tree) (value_here here (child_at tree 0)) _ (λ value.
        keeps-on here rest calls functions (Start tree) (branch_taken tree value)
        (branch (is_zero value) (has_child tree 2) (child_at tree 1) (child_at tree 2) both-branches.0 both-branches.1))
    keeps-statement (Node node.While spot name number text children) is =
        let tree = Node node.While spot name number text children in
        keeps-result (Start tree) (value_here here (child_at tree 0)) _ (λ value.
        keeps-on here rest calls functions (Start tree) (if is_zero value then [] else Start (child_at tree 1) ∷ Start tree ∷ [])
        (again (is_zero value) (child_at tree 1) tree (rules.repeated tree refl is) is))
    keeps-statement (Node node.For spot name number text children) is =
        let tree = Node node.For spot name number text children in
        keeps-first here rest calls functions (Start tree) (kind_of (child_at tree 0)) (child_at tree 0) (Test tree (length here.task.env) ∷ [])
        (rules.looped tree refl is, tt)
    keeps-statement (Node node.Return spot name number text children) is =
        let tree = Node node.Return spot name number text children in
        keeps-return here rest calls functions (Start tree) (kind_of (child_at tree 0)) (child_at tree 0)
    keeps-statement (Node node.SetCall spot name number text children) is =
        let tree = Node node.SetCall spot name number text children in
        keeps-result (Start tree) (cell_of (scope_of here) (child_at tree 0)) _ (λ cell.
        keeps-right here rest calls functions (Start tree) (kind_of (child_at tree 1)) (child_at tree 1) here.task.env (target.Cell cell))
    keeps-statement (Node node.Step spot name number text children) is =
        let tree = Node node.Step spot name number text children in
        keeps-makes here rest calls functions (Start tree) (kind_of (child_at tree 0)) (child_at tree 0) [] tt
    keeps-statement (Node node.Called spot name number text children) is =
        let tree = Node node.Called spot name number text children in
        keeps-right here rest calls functions (Start tree) (kind_of (child_at tree 0)) (child_at tree 0) here.task.env target.Nowhere
    keeps-statement (Node node.Print spot name number text children) is =
        let tree = Node node.Print spot name number text children in
        keeps-result (Start tree) (all_values (scope_of here) (parts tree)) _ (λ numbers.
        keeps-choice (Start tree) _ _ _ (keeps-limit (Start tree) _) (moves here rest calls functions (Start tree) [] here.task.env _ tt))
    keeps-statement (Node (node.LockCall which) spot name number text children) is =
        keeps-lock which (Node (node.LockCall which) spot name number text children)
    keeps-statement (Node (node.Standalone which) spot name number text children) is =
        keeps-standalone which (Node (node.Standalone which) spot name number text children)
    keeps-statement (Node (node.Construct which) spot name number text children) is =
        let tree = Node (node.Construct which) spot name number text children in
        let construct = rules.construct tree which refl is in keeps-construct which tree refl construct construct
    keeps-statement (Node other spot name number text children) is =
        keeps-on here rest calls functions (Start (Node other spot name number text children)) [] tt

    keeps-inside : (kind : NodeKind) (construct : Tree) → IsOpenable construct → Keeps (Inside construct) (begin_inside kind here construct)
    keeps-inside (node.Construct directive.ParallelFor) construct is =
        keeps-loop here rest calls functions (Inside construct) construct refl is
    keeps-inside (node.Construct directive.ParallelSections) construct is = keeps-sections here rest calls functions (Inside construct) construct refl is
    keeps-inside other construct is = keeps-on here rest calls functions (Inside construct) [] tt

    keeps-test : (tree : Tree) (stay : ℕ) → T (child_at tree 3) → Keeps (Test tree stay) (test_for here tree stay)
    keeps-test tree stay is =
        keeps-result (Test tree stay) (test_value here tree) _ (λ number.
        keeps-choice (Test tree stay) (is_zero number) _ _ (keeps-with here rest calls functions (Test tree stay) stay [] tt)
        (keeps-on here rest calls functions (Test tree stay) (Start (child_at tree 3) ∷ Third tree stay ∷ []) (is, (is, tt))))

    barred : (nowait : Bool) (construct : Tree) → Are (if nowait then [] else Sync construct sync.Worksharing stage.RegionBegin ∷ [])
    barred true construct = tt
    barred false construct = (tt, tt)

    staged : (tree : Tree) (kind : SyncKind) (at : SyncStage) → Are (next_stage tree kind at)
    staged tree kind stage.RegionBegin = (tt, tt)
    staged tree kind stage.WaitBegin = (tt, tt)
    staged tree kind stage.WaitEnd = (tt, tt)
    staged tree kind stage.RegionEnd = tt

    keeps-item : (item : Item) → Is item → Keeps item (step_of item here)
    keeps-item (Start tree) is = keeps-statement tree is
    keeps-item (Declare tree) is = keeps-declares here rest calls functions (Declare tree) (kind_of tree) tree
    keeps-item (Leave names) is = keeps-with here rest calls functions (Leave names) names [] tt
    keeps-item (Test tree names) is = keeps-test tree names is
    keeps-item (Third tree names) is =
        keeps-makes here rest calls functions (Third tree names) (kind_of (child_at tree 2)) (child_at tree 2) (Test tree names ∷ []) (is, tt)
    keeps-item (Initialise tree entry) is =
        keeps-right here rest calls functions (Initialise tree entry) (kind_of (child_at tree 0)) (child_at tree 0) (here.task.env ++ entry ∷ [])
        (target.Cell entry.first)
    keeps-item (Return number) is = keeps-returns here rest calls functions (Return number) here.task.calls number calls
    keeps-item FallOff is = keeps-returns here rest calls functions FallOff here.task.calls (pos 0) calls
    keeps-item (Forked construct) is = keeps-event (Forked construct) _ construct (λ may executes names. tt) tt
    keeps-item (Inside construct) is = keeps-inside (kind_of construct) construct is
    keeps-item (MakeCells construct) is =
        keeps-binds here rest calls functions (MakeCells construct) (with_own_cells here.program (bound_of here) construct) [] tt
    keeps-item (NextChunk loop) is = keeps-asks (NextChunk loop) ask.Chunk loop.construct tt
    keeps-item (Iterations loop at upto) is =
        keeps-sets here rest calls functions (Iterations loop at upto) _ _ (Start (loop_of loop.construct).body ∷ iterations_from loop
        (at + 1) upto ∷ [])
        (is.body, (iterations T S A E loop (at + 1) upto is, tt))
    keeps-item (NextSection construct names) is = keeps-asks (NextSection construct names) ask.Section construct (is.0.self, is.1)
    keeps-item (Combine operator name names) is =
        keeps-result (Combine operator name names) (reduction_result operator _ _) _
        (λ number. keeps-sets here rest calls functions (Combine operator name names) (entry_of _ name).first number [] tt)
    keeps-item (EndWork construct kind count names) is =
        keeps-event (EndWork construct kind count names) _ construct (λ may executes stay. barred (has_nowait construct) construct) tt
    keeps-item (EndMasked construct) is = keeps-event (EndMasked construct) _ construct (λ may executes names. tt) tt
    keeps-item (Sync tree kind at) is = keeps-event (Sync tree kind at) _ tree (λ may executes names. staged tree kind at) tt
    keeps-item (Acquire tree kind id) is = keeps-event (Acquire tree kind id) _ tree (λ may executes names. tt) tt
    keeps-item (Release tree id) is = keeps-event (Release tree id) _ tree (λ may executes names. tt) tt
    keeps-item (TestLock call id to) is = keeps-asks (TestLock call id to) (ask.LockFree id) call tt
    keeps-item (Tested to) is = moves here rest calls functions (Tested to) (value_items to (pos 1)) here.task.env _ (value T S A E to (pos 1))

  -- ---- what a task goes past

  settled-if : (passed : Bool) (item : Item) (items settled : List Item) → Are settled → Are (item ∷ items) →
      Are (if passed then settled else item ∷ items)
  settled-if true item items settled rest are = rest
  settled-if false item items settled rest are = are

  pub from-next : (view : View) (items : List Item) → Are items → Are (items_from_next view items)
  unfolding items_from_next
  from-next view [] are = tt
  from-next view (item ∷ items) are =
      settled-if (skips_masked item view) item items (items_from_next view items) (from-next view items are.1) are

  pub holds-settled : (view : View) (code : Code) → Holds code → Holds (settled_task view code)
  holds-settled view code holds = record { now = from-next view code.todo holds.now; calls = holds.calls }

  -- ---- a silent step, and an event

  kept : (program : TreeView) (view : View) (now : Moment) (item : Item) (items : List Item) (outcome : Outcome)
      → ((name : ℕ) → T (body_of (function_named program name))) → Are (item ∷ items) → AreCalls T S A E now.task.calls
      → step_at (item ∷ items) program view now ≡ outcome → Keeps item outcome
  kept program view now item items outcome functions are calls is =
      subst (Keeps item) is (keeps-item (here_at program view now items) are.1 calls functions item are.0)

  stepped : (program : TreeView) (view : View) (now next : Moment) (items : List Item) → ((name : ℕ) → T (body_of (function_named program name)))
      → Are items → AreCalls T S A E now.task.calls → step_at items program view now ≡ StepsTo next → Holds next.task
  unfolding Keeps
  stepped program view now next [] functions are calls is = cc
  stepped program view now next (item ∷ items) functions are calls is = kept program view now item items (StepsTo next) functions are calls is

  pub holds-step : (program : TreeView) (view : View) (now next : Moment) → ((name : ℕ) → T (body_of (function_named program name)))
      → Holds now.task → silent program view now ≡ StepsTo next → Holds next.task
  unfolding silent
  holds-step program view now next functions holds is =
      stepped program view now next (items_from_next view now.task.todo) functions (from-next view now.task.todo holds.now) holds.calls is

  asked : (program : TreeView) (view : View) (now : Moment) (what : Ask) (tree : Tree) (items : List Item)
      → ((name : ℕ) → T (body_of (function_named program name))) → Are items → AreCalls T S A E now.task.calls
      → step_at items program view now ≡ Asks what tree → AsksSo S A what tree
  unfolding Keeps
  asked program view now what tree [] functions are calls is = cc
  asked program view now what tree (item ∷ items) functions are calls is = kept program view now item items (Asks what tree) functions are calls is

  pub holds-asks : (program : TreeView) (view : View) (now : Moment) (what : Ask) (tree : Tree) → ((name : ℕ) → T (body_of (function_named program name)))
      → Holds now.task → silent program view now ≡ Asks what tree → AsksSo S A what tree
  unfolding silent
  holds-asks program view now what tree functions holds is =
      asked program view now what tree (items_from_next view now.task.todo) functions (from-next view now.task.todo holds.now) holds.calls is

  -- what an event of what stands next tells
  abbrev pub TellsNext : Point → List Item → Type 0
  TellsNext what [] = ⊥
  TellsNext what (item ∷ items) = TellsSo T S what item

  occurred : (program : TreeView) (view : View) (now : Moment) (what : Point) (executes : Bool) (tree : Tree) (items : List Item)
      → ((name : ℕ) → T (body_of (function_named program name))) → Are items → AreCalls T S A E now.task.calls
      → step_at items program view now ≡ Occurs what tree
      → (MayNext A what items → Holds (passed_at items what executes (settled_task view now.task))) × TellsNext what items
  unfolding Keeps
  occurred program view now what executes tree [] functions are calls is = cc
  occurred program view now what executes tree (item ∷ items) functions are calls is =
      let keeps : (MayBegin A what item → (executes : Bool) (names : ℕ) → Are (items_after what executes names item)) × TellsSo T S what item =
      kept program view now item items (Occurs what tree) functions are calls is in (
        λ may. record {
          now = both T S A E (items_after what executes (length now.task.env) item) items (keeps.0 may executes (length now.task.env)) are.1;
          calls = calls;
        },
        keeps.1,
      )

  pub holds-event : (program : TreeView) (view : View) (now : Moment) (what : Point) (executes : Bool) (tree : Tree)
      → ((name : ℕ) → T (body_of (function_named program name))) → Holds now.task → silent program view now ≡ Occurs what tree
      → (MayNext A what (settled_task view now.task).todo → Holds (after_event view what executes now.task))
      × TellsNext what (settled_task view now.task).todo
  unfolding silent
  holds-event program view now what executes tree functions holds is =
      occurred program view now what executes tree (items_from_next view now.task.todo) functions
      (from-next view now.task.todo holds.now) holds.calls is

  -- ---- an answer

  answered-chunk : (loop : SharedLoop) (chunk : Option (ℕ × ℕ)) → IsOpenable loop.construct → MayAnswer E (answer.Chunk chunk)
      → Are (items_of_chunk loop chunk)
  answered-chunk loop (Some chunk) is may = (iterations T S A E loop chunk.0 (chunk.0 + chunk.1) is, tt)
  answered-chunk loop None is may =
      both T S A E (combines loop.construct loop.names) (EndWork loop.construct work_kind.Loop loop.count loop.names ∷ [])
      (combining T S A E loop.construct loop.names) (may, tt)

  answered-section : (construct : Tree) (names : ℕ) (section : Option ℕ) → IsOpenable construct × A construct → MayAnswer E (answer.Section section)
      → Are (items_of_section construct names section)
  answered-section construct names (Some place) is may = (is.0.section place, (is, tt))
  answered-section construct names None is may =
      both T S A E (combines construct names) (EndWork construct work_kind.Sections _ names ∷ []) (combining T S A E construct names) (may, tt)

  answered-test : (call : Tree) (id : ℕ) (to : Target) (free : Bool) → Are (items_of_test call id to free)
  answered-test call id to true = (tt, (tt, tt))
  answered-test call id to false = value T S A E to (pos 0)

  answered-item : (given : Answer) (item : Item) → MayAnswer E given → Is item → Are (items_answered given item)
  answered-item (answer.Chunk chunk) (NextChunk loop) may is = answered-chunk loop chunk is may
  answered-item (answer.Section section) (NextSection construct names) may is = answered-section construct names section is may
  answered-item (answer.Free free) (TestLock call id to) may is = answered-test call id to free
  answered-item given item may is = (is, tt)

  answered : (items : List Item) (given : Answer) (now : Moment) → MayAnswer E given → Are items → AreCalls T S A E now.task.calls
      → now.task.todo ≡ items → Holds (answered_at items given now).task
  answered [] given now may are calls is = record { now = subst (AreItems T S A E) (sym is) tt; calls = calls }
  answered (item ∷ items) given now may are calls is =
      record { now = both T S A E (items_answered given item) items (answered-item given item may are.0) are.1; calls = calls }

  pub holds-answer : (view : View) (given : Answer) (now : Moment) → MayAnswer E given → Holds now.task → Holds (after_answer view given now).task
  holds-answer view given now may holds =
      answered (settled_task view now.task).todo given (settled_moment view now) may (from-next view now.task.todo holds.now) holds.calls refl

  -- ---- where codes begin

  forked : (items : List Item) → Are items → IsOpenable (forked_construct items)
  forked [] are = rules.no_construct
  forked (Forked construct ∷ items) are = are.0
  forked (other ∷ items) are = rules.no_construct

  member-begins : (kind : NodeKind) (construct : Tree) (names : ℕ) → IsOpenable construct → Are (member_statement kind construct names)
  member-begins (node.Construct directive.ParallelFor) construct names is = (is, tt)
  member-begins (node.Construct directive.ParallelSections) construct names is = (is, tt)
  member-begins other construct names is =
      both T S A E (makes_cells construct) (Start (construct_statement construct) ∷ combines construct names) (making T S A E construct)
      (is.statement, combining T S A E construct names)

  pub holds-member : (code : Code) → Holds code → Holds (member_task code)
  holds-member code holds =
      let construct = forked_construct code.todo in
      record {
        now = both T S A E (member_statement (kind_of construct) construct (length code.env)) (Sync construct sync.Parallel stage.RegionBegin ∷ [])
            (member-begins (kind_of construct) construct (length code.env) (forked code.todo holds.now)) (tt, tt);
        calls = tt;
      }

  created-first : (codeptr : ℕ) (undeferred : Bool) (items : List Item) → TellsNext (point.TaskCreate codeptr undeferred) items
      → T (construct_statement (created_construct items))
  created-first codeptr undeferred [] tells = absurd tells
  created-first codeptr undeferred (Start construct ∷ items) tells = tells
  created-first codeptr undeferred (item ∷ items) tells = tells

  pub holds-explicit : (program : TreeView) (view : View) (now : Moment) (codeptr : ℕ) (undeferred : Bool) (tree : Tree)
      → ((name : ℕ) → T (body_of (function_named program name))) → Holds now.task
      → silent program view now ≡ Occurs (point.TaskCreate codeptr undeferred) tree → Holds (explicit_task program view now).task
  holds-explicit program view now codeptr undeferred tree functions holds is =
      let event = holds-event program view now (point.TaskCreate codeptr undeferred) false tree functions holds is in
      record { now = (created-first codeptr undeferred (settled_task view now.task).todo event.1, tt); calls = tt }

  pub holds-main : (program : TreeView) → ((name : ℕ) → T (body_of (function_named program name))) → Holds (main_task program)
  holds-main program functions = record { now = (functions program.main, (tt, tt)); calls = (tt, tt) }

  pub holds-blank : Holds blank_task
  holds-blank = record { now = tt; calls = tt }
