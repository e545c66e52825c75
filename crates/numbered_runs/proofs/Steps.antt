-- What a task does next is the same in alike programs.
use Rattle.std.proofs.Common.{ℕ, ℤ, pos, ◌≡◌, List, [], ◌∷◌, ◌++◌, Option, Some, None, Result, Ok, Err, ap, refl, ◌∙◌, if◌then◌else◌}
use Rattle.c_syntax.specs.declared.node.Directive.{Directive}
use Rattle.c_syntax.specs.declared.node.Directive.TheVariants as directive
use Rattle.c_syntax.specs.declared.node.LockCall.{LockCall}
use Rattle.c_syntax.specs.declared.node.LockCall.TheVariants as lock
use Rattle.c_syntax.specs.declared.node.NodeKind.{NodeKind}
use Rattle.c_syntax.specs.declared.node.NodeKind.TheVariants as node
use Rattle.c_syntax.specs.language.Numbered.{TreeView}
use Rattle.c_syntax.specs.language.Tree.{Tree, kind_of, name_of}
use Rattle.c_check.specs.Loops.{child_at}
use Rattle.c_model.specs.declared.entry.Entry.{Entry}
use Rattle.c_model.specs.declared.limits.TheConstants.{CELLS}
use Rattle.c_model.specs.declared.point.MutexKind.TheVariants as mutex
use Rattle.c_model.specs.declared.point.Point.TheVariants.{MutexAcquire, ParallelBegin, TaskCreate}
use Rattle.c_model.specs.declared.point.Target.{Target}
use Rattle.c_model.specs.declared.point.Target.TheVariants as target
use Rattle.c_model.specs.declared.view.View.{View}
use Rattle.c_model.specs.Calls.{begin_call, begin_lock_call, begin_return_of, begin_right, bound_in, enters, file_bound, open_call, returns_to, with_parameters}
use Rattle.c_model.specs.Cells.{Bound, has_too_many, new_entry, with_cells}
use Rattle.c_model.specs.Clauses.{condition_of, requested_threads}
use Rattle.c_model.specs.StepOutcomes.{binds, bound_of, goes_on, with_result}
use Rattle.c_model.specs.Constructs.{begin_task, creates, value_or}
use Rattle.c_model.specs.Parts.{has_child}
use Rattle.c_model.specs.Program.{function_named, parameters_of, place_of}
use Rattle.c_model.specs.Statements.{begin_local_set, begin_set_to_call, begin_set_to_value, declares, makes_first_step, makes_step}
use Rattle.c_model.specs.Step.{begin_construct, begin_inside, begin_statement, items_from_next, silent, step_at, step_of}
use Rattle.c_model.specs.Task.{StepStart, Item, Moment, OpenCall, Outcome, Store, Task}
use Rattle.c_model.specs.Task.Item.{Start, Declare, Test, Third, Initialise, Return, FallOff, Inside, MakeCells}
use Rattle.c_model.specs.Task.Outcome.{Limits, Occurs, StepsTo}
use Rattle.c_model.specs.Value.{is_zero}
use Rattle.numbered_runs.specs.Alike.{AreAlike}
use Rattle.numbered_runs.proofs.Names.{same_critical, same_declarator, same_file, same_function, same_own_cells, same_parameters, same_slot, same_task_cells}

-- what comes of a result is the same where it is the same of each value
with_same : {A : Type 0} (found : Result A ℕ) (one other : A → Outcome) → ((value : A) → one value ≡ other value) → with_result found one ≡ with_result found other
with_same (Ok value) one other same = same value
with_same (Err trap) one other same = refl

module _ (p q : TreeView) (same : AreAlike p q) where
  module _ (view : View) (task : Task) (store : Store) where
    -- a step from here, of a program
    abbrev here : TreeView → StepStart
    here program = record { program = program; view = view; task = task; store = store }

    -- ---- calls and returns
    bound_same : (function : Tree) (numbers : List ℤ) → bound_in (here p) function numbers ≡ bound_in (here q) function numbers
    bound_same function numbers =
        ap (λ (bound : Bound). with_parameters p (record { env = bound.env; cells = store.cells }) (parameters_of function) numbers) (same_file p q same)
        ∙ same_parameters p q same (parameters_of function) (record { env = (file_bound q).env; cells = store.cells }) numbers

    entered_same : (name : ℕ) (call : OpenCall) (numbers : List ℤ)
        → enters (here p) (function_named p name) call (bound_in (here p) (function_named p name) numbers) ≡ enters (here q) (function_named q name) call (bound_in (here q) (function_named q name) numbers)
    entered_same name call numbers =
        ap (λ (function : Tree). enters (here p) function call (bound_in (here p) function numbers)) (same_function p q same name)
        ∙ ap (λ (bound : Bound). enters (here q) (function_named q name) call bound) (bound_same (function_named q name) numbers)

    call_same : (call : Tree) (env : List Entry) (to : Target) → begin_call (here p) call env to ≡ begin_call (here q) call env to
    call_same call env to = with_same _ _ _ (λ numbers. entered_same (name_of call) (open_call (here p) env to) numbers)

    right_same : (kind : NodeKind) (call : Tree) (env : List Entry) (to : Target) → begin_right kind (here p) call env to ≡ begin_right kind (here q) call env to
    right_same node.TestLock call env to = refl
    right_same other call env to = call_same call env to

    returns_same : (calls : List OpenCall) (number : ℤ) → returns_to calls (here p) number ≡ returns_to calls (here q) number
    returns_same [] number = refl
    returns_same (call ∷ calls) number = refl

    return_same : (kind : NodeKind) (right : Tree) → begin_return_of kind (here p) right ≡ begin_return_of kind (here q) right
    return_same node.Call right = right_same node.Call right task.env target.Return
    return_same node.TestLock right = refl
    return_same other right = with_same _ _ _ (λ number. returns_same task.calls number)

    lock_call_same : (which : LockCall) (call : Tree) → begin_lock_call which (here p) call ≡ begin_lock_call which (here q) call
    lock_call_same lock.Init call = refl
    lock_call_same lock.Destroy call = refl
    lock_call_same lock.Set call = refl
    lock_call_same lock.Unset call = refl

    -- ---- declarators and statements
    set_to_call_same : (tree : Tree) → begin_set_to_call (here p) tree ≡ begin_set_to_call (here q) tree
    set_to_call_same tree =
        ap (λ (slot : ℕ).
        if has_too_many (store.cells ++ pos 0 ∷ []) then Limits CELLS
        else StepsTo (record {
          task = record task { todo = Initialise tree (new_entry store.cells (name_of tree) slot (pos 0 ∷ [])) ∷ task.todo };
          store = record store { cells = store.cells ++ pos 0 ∷ [] };
        })) (same_slot p q same tree)

    set_to_value_same : (named expression : Tree) (items : List Item) → begin_set_to_value (here p) named expression items ≡ begin_set_to_value (here q) named expression items
    set_to_value_same named expression items =
        with_same _ _ _ (λ number.
        ap (λ (slot : ℕ). binds (here p) (with_cells (bound_of (here p)) (name_of named) slot (number ∷ [])) items) (same_slot p q same named))

    local_set_same : (kind : NodeKind) (tree : Tree) → begin_local_set kind (here p) tree ≡ begin_local_set kind (here q) tree
    local_set_same node.Call tree = set_to_call_same tree
    local_set_same node.TestLock tree = set_to_call_same tree
    local_set_same other tree = set_to_value_same tree (child_at tree 0) []

    declares_same : (kind : NodeKind) (tree : Tree) → declares kind (here p) tree ≡ declares kind (here q) tree
    declares_same node.LocalSet tree = local_set_same (kind_of (child_at tree 0)) tree
    declares_same other tree = ap (λ (bound : Bound). binds (here p) bound []) (same_declarator p q same (bound_of (here p)) tree)

    makes_same : (kind : NodeKind) (tree : Tree) (items : List Item) → makes_step kind (here p) tree items ≡ makes_step kind (here q) tree items
    makes_same (node.Assign which) tree items = refl
    makes_same (node.Bump which side) tree items = refl
    makes_same other tree items = refl

    first_same : (kind : NodeKind) (tree : Tree) (items : List Item) → makes_first_step kind (here p) tree items ≡ makes_first_step kind (here q) tree items
    first_same node.Init tree items =
        ap (λ (outcome : Outcome). if has_child tree 0 then outcome else goes_on (here p) items) (set_to_value_same (child_at tree 0) (child_at tree 1) items)
    first_same other tree items = makes_same other tree items

    -- ---- constructs
    clause_same : (default : ℤ) (expression : Option Tree) → value_or default (here p) expression ≡ value_or default (here q) expression
    clause_same default None = refl
    clause_same default (Some expression) = refl

    creates_same : (construct : Tree) (number : ℤ) → creates (here p) construct number ≡ creates (here q) construct number
    creates_same construct number =
        ap (λ (bound : Bound). if has_too_many bound.cells then Limits CELLS else Occurs (TaskCreate (place_of construct) (is_zero number)) construct)
        (same_task_cells p q same (bound_of (here p)) construct)

    task_same : (construct : Tree) → begin_task (here p) construct ≡ begin_task (here q) construct
    task_same construct =
        with_same _ _ _ (λ number. creates_same construct number)
        ∙ ap (λ (found : Result ℤ ℕ). with_result found (λ number. creates (here q) construct number)) (clause_same (pos 1) (condition_of construct))

    parallel_same : (construct : Tree)
        → with_result (value_or (pos view.max) (here p) (requested_threads construct)) (λ number. Occurs (ParallelBegin (place_of construct) number) construct)
        ≡ with_result (value_or (pos view.max) (here q) (requested_threads construct)) (λ number. Occurs (ParallelBegin (place_of construct) number) construct)
    parallel_same construct =
        ap (λ (found : Result ℤ ℕ). with_result found (λ number. Occurs (ParallelBegin (place_of construct) number) construct)) (clause_same (pos view.max) (requested_threads construct))

    construct_same : (which : Directive) (construct : Tree) → begin_construct which (here p) construct ≡ begin_construct which (here q) construct
    construct_same directive.Parallel construct = parallel_same construct
    construct_same directive.ParallelFor construct = parallel_same construct
    construct_same directive.ParallelSections construct = parallel_same construct
    construct_same directive.Critical construct =
        ap (λ (number : ℕ). Occurs (MutexAcquire (place_of construct) number mutex.Critical target.Nowhere) construct) (same_critical p q same construct)
    construct_same directive.Task construct = task_same construct
    construct_same other construct = refl

    -- ---- what stands next
    statement_same : (kind : NodeKind) (tree : Tree) → begin_statement kind (here p) tree ≡ begin_statement kind (here q) tree
    statement_same node.For tree = first_same (kind_of (child_at tree 0)) (child_at tree 0) _
    statement_same node.Return tree = return_same (kind_of (child_at tree 0)) (child_at tree 0)
    statement_same node.SetCall tree = with_same _ _ _ (λ cell. right_same (kind_of (child_at tree 1)) (child_at tree 1) task.env (target.Cell cell))
    statement_same node.Step tree = makes_same (kind_of (child_at tree 0)) (child_at tree 0) []
    statement_same node.Called tree = right_same (kind_of (child_at tree 0)) (child_at tree 0) task.env target.Nowhere
    statement_same (node.LockCall which) tree = lock_call_same which tree
    statement_same (node.Construct which) tree = construct_same which tree
    statement_same other tree = refl

    inside_same : (kind : NodeKind) (construct : Tree) → begin_inside kind (here p) construct ≡ begin_inside kind (here q) construct
    inside_same (node.Construct directive.ParallelFor) construct = refl
    inside_same (node.Construct directive.ParallelSections) construct = refl
    inside_same other construct = refl

    item_same : (item : Item) → step_of item (here p) ≡ step_of item (here q)
    item_same (Start tree) = statement_same (kind_of tree) tree
    item_same (Declare tree) = declares_same (kind_of tree) tree
    item_same (Third tree names) = makes_same (kind_of (child_at tree 2)) (child_at tree 2) (Test tree names ∷ [])
    item_same (Initialise tree entry) = right_same (kind_of (child_at tree 0)) (child_at tree 0) (task.env ++ entry ∷ []) (target.Cell entry.first)
    item_same (Return number) = returns_same task.calls number
    item_same FallOff = returns_same task.calls (pos 0)
    item_same (Inside construct) = inside_same (kind_of construct) construct
    item_same (MakeCells construct) = ap (λ (bound : Bound). binds (here p) bound []) (same_own_cells p q same (bound_of (here p)) construct)
    item_same other = refl

  -- what a task that goes on comes to
  at_same : (items : List Item) (view : View) (now : Moment) → step_at items p view now ≡ step_at items q view now
  at_same [] view now = refl
  at_same (item ∷ items) view now = item_same view (record now.task { todo = items }) now.store item

  pub same_silent : (view : View) (now : Moment) → silent p view now ≡ silent q view now
  unfolding silent
  same_silent view now = at_same (items_from_next view now.task.todo) view now
