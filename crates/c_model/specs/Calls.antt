-- Calls and returns (C11 6.5.2.2 and 6.8.6.4), and the calls of lock routines (OpenMP 5.2, 18.9).
use Rattle.std.specs.Prelude.{ℕ, ◌+◌, nat_le, if◌then◌else◌, List, [], ◌∷◌, ◌++◌, length, slice_set, Some, ℤ, pos}
use Rattle.c_syntax.specs.declared.node.LockCall.{LockCall}
use Rattle.c_syntax.specs.declared.node.LockCall.TheVariants as lock
use Rattle.c_syntax.specs.declared.node.NodeKind.{NodeKind}
use Rattle.c_syntax.specs.declared.node.NodeKind.TheVariants as node
use Rattle.c_syntax.specs.language.Tree.{Tree, kind_of, name_of}
use Rattle.c_syntax.specs.language.Numbered.{TreeView}
use Rattle.c_model.specs.declared.limits.TheConstants.{CALLS, CALL_LIMIT, CELLS, LOCK_UNIT}
use Rattle.c_model.specs.declared.point.MutexKind.TheVariants as mutex
use Rattle.c_model.specs.declared.point.Point.TheVariants.{LockDestroy, LockInit, MutexAcquire, MutexReleased}
use Rattle.c_model.specs.declared.point.Target.{Target}
use Rattle.c_model.specs.declared.point.Target.TheVariants as target
use Rattle.c_check.specs.Seen.{slot_of_name}
use Rattle.c_check.specs.Loops.{child_at}
use Rattle.c_model.specs.Parts.{flat_declarations, parts}
use Rattle.c_model.specs.Program.{body_of, file_variables, function_named, parameters_of, place_of}
use Rattle.c_model.specs.declared.entry.Entry.{Entry}
use Rattle.c_model.specs.Cells.{Bound, entry_of, has_too_many, with_cells, with_declarators}
use Rattle.c_model.specs.Value.{all_values, cell_of}
use Rattle.c_model.specs.Task.{StepStart, Item, OpenCall, Outcome}
use Rattle.c_model.specs.Task.Item.{FallOff, Return, Start}
use Rattle.c_model.specs.Task.Outcome.{Limits, Occurs, StepsTo}
use Rattle.c_model.specs.StepOutcomes.{scope_of, value_here, with_result}

-- the names and cells of the file
abbrev pub file_bound : TreeView → Bound
file_bound program = with_declarators program (record { env = []; cells = [] }) (flat_declarations (file_variables program))

abbrev pub first_or_zero : List ℤ → ℤ
first_or_zero [] = pos 0
first_or_zero (number ∷ numbers) = number

abbrev pub behind_first : List ℤ → List ℤ
behind_first [] = []
behind_first (number ∷ numbers) = numbers

-- parameters come into scope with the numbers of the arguments
unfoldable pub with_parameters : TreeView → Bound → List Tree → List ℤ → Bound
with_parameters program bound [] numbers = bound
with_parameters program bound (parameter ∷ parameters) numbers =
    with_parameters program
    (with_cells bound (name_of parameter) (slot_of_name program parameter) (first_or_zero numbers ∷ []))
    parameters
    (behind_first numbers)

-- a function sees the file and its parameters
abbrev pub bound_in : StepStart → Tree → List ℤ → Bound
bound_in here function numbers =
    with_parameters here.program
    (record { env = (file_bound here.program).env; cells = here.store.cells })
    (parameters_of function)
    numbers

-- what is kept of the function that calls, where these names are in scope when it goes on
abbrev pub open_call : StepStart → List Entry → Target → OpenCall
open_call here env to = record { todo = here.task.todo; env = env; to = to }

abbrev pub enters : StepStart → Tree → OpenCall → Bound → Outcome
enters here function call bound =
    if has_too_many bound.cells then Limits CELLS
    else if nat_le CALL_LIMIT (length here.task.calls) then Limits CALLS
    else StepsTo (record {
      task = record here.task { todo = Start (body_of function) ∷ FallOff ∷ []; env = bound.env; calls = call ∷ here.task.calls };
      store = record here.store { cells = bound.cells };
    })

-- the start of a call: its arguments, from left to right, and then the function's body stands next
abbrev pub begin_call : StepStart → Tree → List Entry → Target → Outcome
begin_call here call env to =
    with_result (all_values (scope_of here) (parts call)) (λ numbers.
    enters here (function_named here.program (name_of call)) (open_call here env to)
    (bound_in here (function_named here.program (name_of call)) numbers))

-- a value that a call gave: where it stands as an item, and in the cells
abbrev pub value_items : Target → ℤ → List Item
value_items target.Nowhere number = []
value_items (target.Cell cell) number = []
value_items target.Return number = Return number ∷ []

abbrev pub value_cells : Target → ℤ → List ℤ → List ℤ
value_cells target.Nowhere number cells = cells
value_cells (target.Cell cell) number cells = slice_set cells cell number
value_cells target.Return number cells = cells

-- a function returns: the call that was begun last has ended
abbrev pub returns_to : List OpenCall → StepStart → ℤ → Outcome
returns_to [] here number =
    StepsTo (record { task = record here.task { todo = []; returned = Some number }; store = here.store })
returns_to (call ∷ calls) here number =
    StepsTo (record {
      task = record { todo = value_items call.to number ++ call.todo; env = call.env; calls = calls; returned = Some number };
      store = record here.store { cells = value_cells call.to number here.store.cells };
    })

abbrev pub returns : StepStart → ℤ → Outcome
returns here number = returns_to here.task.calls here number

-- the wait identifier of the lock that a call names
abbrev pub lock_id : StepStart → Tree → ℕ
lock_id here call = LOCK_UNIT + (entry_of here.task.env (name_of (child_at call 0))).first

-- `omp_test_lock` begins with its event
abbrev pub begin_test : StepStart → Tree → Target → Outcome
begin_test here call to = Occurs (MutexAcquire (place_of call) (lock_id here call) mutex.TestLock to) call

-- what stands where a call may stand
abbrev pub begin_right : NodeKind → StepStart → Tree → List Entry → Target → Outcome
begin_right node.TestLock here call env to = begin_test here call to
begin_right other here call env to = begin_call here call env to

-- a call that is a statement
abbrev pub begin_called : StepStart → Tree → Outcome
begin_called here tree = begin_right (kind_of (child_at tree 0)) here (child_at tree 0) here.task.env target.Nowhere

-- an assignment of a call: first the cell, and then the call
abbrev pub begin_set_call : StepStart → Tree → Outcome
begin_set_call here tree =
    with_result (cell_of (scope_of here) (child_at tree 0)) (λ cell.
    begin_right (kind_of (child_at tree 1)) here (child_at tree 1) here.task.env (target.Cell cell))

-- the call of a declarator whose cell was made. Its variable comes into scope behind it
abbrev pub begin_initialise : StepStart → Tree → Entry → Outcome
begin_initialise here tree entry =
    begin_right (kind_of (child_at tree 0)) here (child_at tree 0) (here.task.env ++ entry ∷ []) (target.Cell entry.first)

-- `return`, of nothing, of a call, or of an expression
abbrev pub begin_return_of : NodeKind → StepStart → Tree → Outcome
begin_return_of node.Call here right = begin_right node.Call here right here.task.env target.Return
begin_return_of node.TestLock here right = begin_right node.TestLock here right here.task.env target.Return
begin_return_of other here right = with_result (value_here here right) (λ number. returns here number)

-- a return of nothing gives 0
abbrev pub begin_return : StepStart → Tree → Outcome
begin_return here tree = begin_return_of (kind_of (child_at tree 0)) here (child_at tree 0)

-- the end of `omp_test_lock`: a silent step that gives 1 where the lock came to be owned
abbrev pub ends_test : StepStart → Target → Outcome
ends_test here to =
    StepsTo (record {
      task = record here.task { todo = value_items to (pos 1) ++ here.task.todo };
      store = record here.store { cells = value_cells to (pos 1) here.store.cells };
    })

-- the lock routines that give nothing
abbrev pub begin_lock_call : LockCall → StepStart → Tree → Outcome
begin_lock_call lock.Init here call = Occurs (LockInit (place_of call) (lock_id here call)) call
begin_lock_call lock.Destroy here call = Occurs (LockDestroy (place_of call) (lock_id here call)) call
begin_lock_call lock.Set here call = Occurs (MutexAcquire (place_of call) (lock_id here call) mutex.Lock target.Nowhere) call
begin_lock_call lock.Unset here call = Occurs (MutexReleased (place_of call) (lock_id here call) mutex.Lock) call
