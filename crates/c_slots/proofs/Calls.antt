-- A call begins where its function's block stands, and its end leads back to where the function stands that called.
use Rattle.std.specs.Prelude.{ℕ, List, [], ◌∷◌, ℤ, pos}
use Rattle.std.specs.List.{All}
use Rattle.std.proofs.Common.{subst, sym}
use Rattle.std.proofs.lemmas.List.Elements.{All-cons, All-head, All-tail}
use Rattle.c_syntax.specs.declared.node.NodeKind.{NodeKind}
use Rattle.c_syntax.specs.declared.node.NodeKind.TheVariants as node
use Rattle.c_syntax.specs.language.Tree.{Tree, name_of}
use Rattle.c_model.specs.declared.entry.Entry.{Entry}
use Rattle.c_model.specs.declared.point.MutexKind.TheVariants as mutex
use Rattle.c_model.specs.declared.point.Point.TheVariants.{MutexAcquire}
use Rattle.c_model.specs.declared.point.Target.{Target}
use Rattle.c_model.specs.declared.point.Target.TheVariants as target
use Rattle.c_model.specs.Parts.{parts}
use Rattle.c_model.specs.Program.{body_of, function_named, parameters_of, place_of}
use Rattle.c_model.specs.Cells.{Bound}
use Rattle.c_model.specs.Value.{all_values}
use Rattle.c_model.specs.StepOutcomes.{scope_of, value_here}
use Rattle.c_model.specs.Calls.{begin_call, begin_return_of, begin_right, bound_in, ends_test, enters, file_bound, lock_id, open_call, returns_to}
use Rattle.c_model.specs.AfterEvents.{names_after}
use Rattle.c_model.specs.Task.{StepStart, Item, OpenCall}
use Rattle.c_model.specs.Task.Item.{Start, FallOff}
use Rattle.c_model.specs.UsedCells.{slots_of}
use Rattle.c_slots.specs.Slotted.{IsCallSlotted, IsPlaced, IsSlotted, Slotted}
use Rattle.c_slots.proofs.Blocks.{value_slotted}
use Rattle.c_slots.proofs.Outcomes.{IsRoomFor, Keeps, keeps_choice, keeps_event, keeps_limit, keeps_result, keeps_step}
use Rattle.c_slots.proofs.EntrySlots.{parameters_slots}

module _ (here : StepStart) (item : Item) (room : IsRoomFor here item) where
  keeps-enters : (function : Tree) (call : OpenCall) (bound : Bound) → IsPlaced here.program (slots_of bound.env) (body_of function)
      → IsCallSlotted here.program call → Keeps here item (enters here function call bound)
  unfolding Slotted
  keeps-enters function call bound knows is =
      let entered : IsSlotted here.program
      (record here.task { todo = Start (body_of function) ∷ FallOff ∷ []; env = bound.env; calls = call ∷ here.task.calls }) =
      record { now = (knows, tt); calls = All-cons (IsCallSlotted here.program) call here.task.calls is room.calls }
      in
      search (keeps_choice, keeps_limit, keeps_step, entered)

  keeps-call : (call : Tree) (env : List Entry) (to : Target) → Slotted here.program here.task.todo (slots_of env)
      → Keeps here item (begin_call here call env to)
  keeps-call call env to now =
      keeps_result here item (all_values (scope_of here) (parts call)) _ (λ numbers.
      keeps-enters (function_named here.program (name_of call)) (open_call here env to) (bound_in here (function_named here.program (name_of call)) numbers)
      (subst (λ (slots : List ℕ). IsPlaced here.program slots (body_of (function_named here.program (name_of call))))
      (sym (parameters_slots here.program (parameters_of (function_named here.program (name_of call)))
      (record { env = (file_bound here.program).env; cells = here.store.cells }) numbers))
      (room.program.functions (name_of call)))
      now)

  -- an `omp_test_lock` is an event, behind which its test stands next
  pub keeps_right : (kind : NodeKind) (call : Tree) (env : List Entry) (to : Target) → Slotted here.program here.task.todo (slots_of env)
      → ((codeptr id : ℕ) → Slotted here.program here.task.todo (slots_of (names_after (MutexAcquire codeptr id mutex.TestLock to) item here.task.env)))
      → Keeps here item (begin_right kind here call env to)
  unfolding Slotted
  keeps_right node.TestLock call env to now tested =
      keeps_event here item _ call (record { leads = λ executes. tested (place_of call) (lock_id here call); creates = tt })
  keeps_right other call env to now tested = keeps-call call env to now

  pub keeps_returns : (opened : List OpenCall) (number : ℤ) → All (IsCallSlotted here.program) opened → Keeps here item (returns_to opened here number)
  unfolding Keeps Slotted
  keeps_returns [] number are = record { now = tt; calls = room.calls }
  keeps_returns (call ∷ rest) number are =
      record {
        now = value_slotted here.program call.to number call.todo (slots_of call.env) (All-head (IsCallSlotted here.program) call rest are);
        calls = All-tail (IsCallSlotted here.program) call rest are;
      }

  pub keeps_return : (kind : NodeKind) (right : Tree) → Slotted here.program here.task.todo (slots_of here.task.env)
      → ((codeptr id : ℕ) → Slotted here.program here.task.todo (slots_of (names_after (MutexAcquire codeptr id mutex.TestLock target.Return) item here.task.env)))
      → Keeps here item (begin_return_of kind here right)
  keeps_return node.Call right now tested = keeps-call right here.task.env target.Return now
  keeps_return node.TestLock right now tested = keeps_right node.TestLock right here.task.env target.Return now tested
  keeps_return other right now tested = keeps_result here item (value_here here right) _ (λ number. keeps_returns here.task.calls number room.calls)

  pub keeps_tested : (to : Target) → Slotted here.program here.task.todo (slots_of here.task.env) → Keeps here item (ends_test here to)
  unfolding Keeps
  keeps_tested to now = record { now = value_slotted here.program to (pos 1) here.task.todo (slots_of here.task.env) now; calls = room.calls }
