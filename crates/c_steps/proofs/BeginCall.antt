-- What the start of a call comes to.
use Rattle.std.specs.Prelude.{◌≡◌, ℕ, ◌+◌, ◌≤◌, ◌<◌, Bool, true, false, not, nat_le, nat_lt, if◌then◌else◌, List, [], ◌∷◌, length, take, Result, Ok, ℤ}
use Rattle.std.proofs.Common.{ap, sym, ◌∙◌, arith, length-append}
use Rattle.std.proofs.lemmas.Bool.{le-leb, lt-leb}
use Rattle.c_syntax.specs.language.Tree.{Tree, name_of}
use Rattle.c_syntax.specs.language.Numbered.{TreeView}
use Rattle.c_check.specs.Seen.{slot_of_name}
use Rattle.c_check.specs.Tasks.{from_place}
use Rattle.c_model.specs.declared.entry.Entry.{Entry}
use Rattle.c_model.specs.declared.limits.TheConstants.{CALLS, CALL_LIMIT, CELLS, CELL_LIMIT}
use Rattle.c_model.specs.declared.point.Target.{Target}
use Rattle.c_model.specs.declared.view.View.{View}
use Rattle.c_model.specs.Calls.{begin_call, behind_first, bound_in, enters, file_bound, first_or_zero, open_call, with_parameters}
use Rattle.c_model.specs.Cells.{Bound, has_too_many, with_cells}
use Rattle.c_model.specs.StepOutcomes.{with_result}
use Rattle.c_model.specs.Parts.{parts}
use Rattle.c_model.specs.Program.{function_named, parameters_of}
use Rattle.c_model.specs.Task.{StepStart, Outcome, Store}
use Rattle.c_model.specs.Task.Outcome.{Limits, StepsTo}
use Rattle.c_model.specs.Value.{Scope, all_values}
use Rattle.c_steps.specs.Arguments.{values_in, without_values}
use Rattle.c_steps.specs.Entering.{HaveNoTrap, moment_entered}
use Rattle.c_steps.specs.ControlView.{ControlView, here_at, scope_in}
use Rattle.c_steps.specs.Rooming.{open_calls}
use Rattle.c_steps.proofs.Frames.{calls_counted}
use Rattle.c_steps.proofs.ValuesAll.{ok_values}

-- each parameter has a cell
cells_more : (program : TreeView) (bound : Bound) (parameters : List Tree) (numbers : List ℤ) →
    length (with_parameters program bound parameters numbers).cells ≡ length bound.cells + length parameters
unfolding with_parameters
cells_more program bound [] numbers = omega arith
cells_more program bound (parameter ∷ parameters) numbers =
    omega (
      arith,
      cells_more program (with_cells bound (name_of parameter) (slot_of_name program parameter) (first_or_zero numbers ∷ [])) parameters (behind_first numbers),
      length-append bound.cells (first_or_zero numbers ∷ []),
    )

-- arguments without a trap
pub have_no_trap : (scope : Scope) (call : Tree) → Ok tt ≡ without_values (all_values scope (parts call)) → HaveNoTrap scope call 0
unfolding from_place
have_no_trap scope call ok = record { ok = sym ok }

module _ (program : TreeView) (view : View) (held : ControlView) (store : Store) (call function : Tree) (env : List Entry) (to : Target) where
  abbrev here : StepStart
  here = here_at program view held store

  abbrev numbers : List ℤ
  numbers = values_in (all_values (scope_in program view held store) (parts call))

  -- whether there are too many cells, and too many calls
  abbrev entered_if : Bool → Bool → Outcome
  entered_if cells calls =
      if cells then Limits CELLS
      else if calls then Limits CALLS
      else StepsTo (moment_entered here function (open_call here env to) (bound_in here function numbers))

  begins : Ok tt ≡ without_values (all_values (scope_in program view held store) (parts call)) → function ≡ function_named program (name_of call) →
      enters here function (open_call here env to) (bound_in here function numbers) ≡ begin_call here call env to
  begins ok is =
      ap (λ (tree : Tree). enters here tree (open_call here env to) (bound_in here tree numbers)) is
      ∙ ap (λ (results : Result (List ℤ) ℕ). with_result results (λ numbers.
      enters here (function_named program (name_of call)) (open_call here env to) (bound_in here (function_named program (name_of call)) numbers)))
      (sym (ok_values (all_values (scope_in program view held store) (parts call)) ok))

  cells_is : (few : Bool) → nat_lt CELL_LIMIT (length store.cells + length (parameters_of function)) ≡ not few → has_too_many (bound_in here function numbers).cells ≡ not few
  cells_is few is =
      ap (nat_lt CELL_LIMIT) (cells_more program (record { env = (file_bound program).env; cells = store.cells }) (parameters_of function) numbers)
      ∙ is

  calls_is : length here.task.calls ≡ open_calls held.frames
  calls_is = calls_counted program (take held.base held.names) held.frames

  -- too many cells
  pub begins_cells : (few : Bool) → nat_lt CELL_LIMIT (length store.cells + length (parameters_of function)) ≡ not few → few ≡ false →
      Ok tt ≡ without_values (all_values (scope_in program view held store) (parts call)) → function ≡ function_named program (name_of call) →
      Limits CELLS ≡ begin_call here call env to
  begins_cells few is none ok named =
      sym (ap (λ (many : Bool). entered_if many (nat_le CALL_LIMIT (length here.task.calls))) (cells_is few is ∙ ap not none)) ∙ begins ok named

  -- too many calls
  pub begins_calls : (few : Bool) → nat_lt CELL_LIMIT (length store.cells + length (parameters_of function)) ≡ not few → few ≡ true → CALL_LIMIT ≤ open_calls held.frames →
      Ok tt ≡ without_values (all_values (scope_in program view held store) (parts call)) → function ≡ function_named program (name_of call) →
      Limits CALLS ≡ begin_call here call env to
  begins_calls few is some many ok named =
      sym (ap (λ (too_many : Bool). entered_if too_many (nat_le CALL_LIMIT (length here.task.calls))) (cells_is few is ∙ ap not some)
      ∙ ap (λ (too_many : Bool). entered_if false too_many) (le-leb CALL_LIMIT (length here.task.calls) (omega (arith, many, calls_is))))
      ∙ begins ok named

  pub begins_entered : (few : Bool) → nat_lt CELL_LIMIT (length store.cells + length (parameters_of function)) ≡ not few → few ≡ true → open_calls held.frames < CALL_LIMIT →
      Ok tt ≡ without_values (all_values (scope_in program view held store) (parts call)) → function ≡ function_named program (name_of call) →
      StepsTo (moment_entered here function (open_call here env to) (bound_in here function numbers)) ≡ begin_call here call env to
  begins_entered few is some within ok named =
      sym (ap (λ (too_many : Bool). entered_if too_many (nat_le CALL_LIMIT (length here.task.calls))) (cells_is few is ∙ ap not some)
      ∙ ap (λ (too_many : Bool). entered_if false too_many) (lt-leb CALL_LIMIT (length here.task.calls) (omega (arith, within, calls_is))))
      ∙ begins ok named
