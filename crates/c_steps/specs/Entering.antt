-- A call that begins: its arguments, and the parameters that come into scope.
use Rattle.std.specs.Prelude.{◌≡◌, ℕ, ◌+◌, ◌++◌, ◌≤◌, List, [], ◌∷◌, length, drop, take, IfSome, Result, Ok, ℤ}
use Rattle.c_syntax.specs.language.Tree.{Tree, name_of}
use Rattle.c_syntax.specs.language.Numbered.{TreeView}
use Rattle.c_model.specs.declared.view.View.{View}
use Rattle.c_model.specs.Calls.{behind_first, first_or_zero}
use Rattle.c_check.specs.Seen.{slot_of_name}
use Rattle.c_model.specs.Cells.{Bound, with_cells}
use Rattle.c_model.specs.Program.{body_of}
use Rattle.c_model.specs.Task.{StepStart, Moment, OpenCall, Store}
use Rattle.c_model.specs.Task.Item.{FallOff, Start}
use Rattle.c_model.specs.Value.{Scope, all_values}
use Rattle.c_steps.specs.declared.evaluate.Argument.{Argument}
use Rattle.c_steps.specs.declared.control.calls.Call.{Call}
use Rattle.c_steps.specs.declared.control.entering.Caller.{Caller}
use Rattle.c_steps.specs.Arguments.{values_in, without_values}
use Rattle.c_steps.specs.Nodes.{IsPart}
use Rattle.c_steps.specs.Rests.{parts_from}
use Rattle.c_steps.specs.Rooming.{IsEntry}
use Rattle.c_steps.specs.ControlView.{ControlView, env_at}
use Rattle.c_steps.specs.Items.{file_names}

-- the parts of a call that begins are of the program
abbrev pub IsCall : TreeView → Call → Type 0
IsCall program call = IsPart program.trees call.part × IfSome call.declared IsEntry

-- the arguments of a call from a place on, or their first trap
abbrev pub arguments_from : Scope → Tree → ℕ → Result (List ℤ) ℕ
arguments_from scope call place = all_values scope (parts_from call place)

-- none of them has a trap
pub record HaveNoTrap (scope : Scope) (call : Tree) (place : ℕ) : Type 0 where
  pub ok : without_values (arguments_from scope call place) ≡ Ok tt

-- the next argument was found, and those behind it
pub record IsNextArgument (scope : Scope) (call : Tree) (place : ℕ) (found : Argument) : Type 0 where
  pub number : found.number ≡ first_or_zero (values_in (arguments_from scope call place))
  pub rest : values_in (arguments_from scope call found.next) ≡ behind_first (values_in (arguments_from scope call place))
  pub are : HaveNoTrap scope call found.next

-- what the arguments of a call are evaluated in, when names and cells may have been made since it began
abbrev pub caller_scope : TreeView → View → Caller → ControlView → Store → Scope
caller_scope program view caller held store =
    record {
      env = file_names program ++ drop caller.base (take caller.names held.names);
      cells = take caller.cells store.cells;
      view = view;
    }

-- names and cells that there were when the call began
pub record IsCaller (caller : Caller) (held : ControlView) (store : Store) : Type 0 where
  pub base : caller.base ≤ caller.names
  pub names : caller.names ≤ length held.names
  pub cells : caller.cells ≤ length store.cells

-- the names in scope, with all cells
abbrev pub bound_at : TreeView → ControlView → Store → Bound
bound_at program held store = record { env = env_at program held; cells = store.cells }

-- more names and cells are there for a call, and nothing else has changed
pub record HasMore (old new : ControlView) (before after : Store) : Type 0 where
  pub held : new ≡ record old { names = new.names; names_now = new.names_now }
  pub store : after ≡ record before { cells = after.cells }
  pub older : take old.base new.names ≡ take old.base old.names
  pub longer : length old.names ≤ length new.names

-- a parameter has come into scope, with the argument at a place, and the next argument is there
pub record BindsParameter (program : TreeView) (view : View) (caller : Caller) (call parameter : Tree) (place next : ℕ) (old new : ControlView) (before after : Store) : Type 0 where
  pub bound : bound_at program new after ≡ with_cells (bound_at program old before) (name_of parameter) (slot_of_name program parameter)
      (first_or_zero (values_in (arguments_from (caller_scope program view caller old before) call place)) ∷ [])
  pub rest : values_in (arguments_from (caller_scope program view caller old before) call next)
      ≡ behind_first (values_in (arguments_from (caller_scope program view caller old before) call place))
  pub values : HaveNoTrap (caller_scope program view caller old before) call next
  pub more : HasMore old new before after
  pub there : IsCaller caller new after
  pub scope : caller_scope program view caller new after ≡ caller_scope program view caller old before
  pub names : new.names_now + 1 ≡ old.names_now
  pub cells : length after.cells ≡ length before.cells + 1

-- a function is entered
abbrev pub moment_entered : StepStart → Tree → OpenCall → Bound → Moment
moment_entered here function call bound =
    record {
      task = record here.task { todo = Start (body_of function) ∷ FallOff ∷ []; env = bound.env; calls = call ∷ here.task.calls };
      store = record here.store { cells = bound.cells };
    }
