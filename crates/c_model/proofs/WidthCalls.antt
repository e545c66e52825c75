-- No call and no return leads beyond the width.
use Rattle.std.specs.Prelude.{ℕ, ◌+◌, ◌≤◌, List, [], ◌∷◌, length, ℤ, pos}
use Rattle.std.specs.List.{All}
use Rattle.std.proofs.Common.{arith}
use Rattle.std.proofs.lemmas.List.Elements.{All-cons, All-head, All-tail}
use Rattle.c_syntax.specs.declared.node.NodeKind.{NodeKind}
use Rattle.c_syntax.specs.declared.node.NodeKind.TheVariants as node
use Rattle.c_syntax.specs.language.Tree.{Tree, name_of}
use Rattle.c_syntax.specs.language.Numbered.{TreeView}
use Rattle.c_model.specs.declared.entry.Entry.{Entry}
use Rattle.c_model.specs.declared.point.Target.{Target}
use Rattle.c_model.specs.declared.point.Target.TheVariants as target
use Rattle.c_model.specs.Parts.{parts}
use Rattle.c_model.specs.Program.{body_of, function_named, parameters_of}
use Rattle.c_model.specs.Cells.{Bound}
use Rattle.c_model.specs.Value.{all_values}
use Rattle.c_model.specs.StepOutcomes.{scope_of, value_here}
use Rattle.c_model.specs.Calls.{begin_call, begin_return_of, begin_right, bound_in, ends_test, enters, file_bound, open_call, returns_to}
use Rattle.c_model.specs.Task.{StepStart, OpenCall}
use Rattle.c_model.specs.Task.Item.{Start, FallOff}
use Rattle.c_model.specs.Width.{IsCallWithin, IsWithin, inner_names, most_names, width}
use Rattle.c_model.proofs.WidthNames.{least}
use Rattle.c_model.proofs.WidthTrees.{of_function}
use Rattle.c_model.proofs.WidthCells.{with_parameters_names}
use Rattle.c_model.proofs.WidthBlocks.{value_names}
use Rattle.c_model.proofs.WidthComing.{AreCallsWithin, IsEnough, StaysWithin, stays-choice, stays-limit, stays-result, stays-step}

-- a function's body, and its end
pub body_enough : (program : TreeView) (tree : Tree) (names : ℕ) → names + inner_names program tree ≤ width program → most_names program (Start tree ∷ FallOff ∷ []) names ≤ width program
unfolding most_names
body_enough program tree names enough = omega (arith, enough)

pub stays-enters : (here : StepStart) (function : Tree) (call : OpenCall) (bound : Bound) → length bound.env + inner_names here.program (body_of function) ≤ width here.program → IsCallWithin here.program call → AreCallsWithin here → StaysWithin here.program (enters here function call bound)
stays-enters here function call bound enough is calls =
    let entered : IsWithin here.program (record here.task { todo = Start (body_of function) ∷ FallOff ∷ []; env = bound.env; calls = call ∷ here.task.calls }) =
    record {
      now = body_enough here.program (body_of function) (length bound.env) enough;
      calls = All-cons (IsCallWithin here.program) call here.task.calls is calls;
    }
    in
    search (stays-choice, stays-limit, stays-step, entered)

pub function-enough : (here : StepStart) (name : ℕ) (numbers : List ℤ) → length (bound_in here (function_named here.program name) numbers).env + inner_names here.program (body_of (function_named here.program name)) ≤ width here.program
function-enough here name numbers =
    omega (arith, of_function here.program name, with_parameters_names here.program (parameters_of (function_named here.program name)) (record { env = (file_bound here.program).env; cells = here.store.cells }) numbers)

pub stays-call : (here : StepStart) (call : Tree) (env : List Entry) (to : Target) → IsEnough here [] (length env) → AreCallsWithin here → StaysWithin here.program (begin_call here call env to)
stays-call here call env to enough calls =
    stays-result here.program (all_values (scope_of here) (parts call)) _ (λ numbers.
    stays-enters here (function_named here.program (name_of call)) (open_call here env to) (bound_in here (function_named here.program (name_of call)) numbers)
    (function-enough here (name_of call) numbers) enough calls)

pub stays-right : (kind : NodeKind) (here : StepStart) (call : Tree) (env : List Entry) (to : Target) → IsEnough here [] (length env) → AreCallsWithin here → StaysWithin here.program (begin_right kind here call env to)
unfolding StaysWithin
stays-right node.TestLock here call env to enough calls = tt
stays-right other here call env to enough calls = stays-call here call env to enough calls

pub stays-returns : (opened : List OpenCall) (here : StepStart) (number : ℤ) → IsEnough here [] (length here.task.env) → All (IsCallWithin here.program) opened → AreCallsWithin here → StaysWithin here.program (returns_to opened here number)
unfolding StaysWithin most_names
stays-returns [] here number enough opened calls =
    record { now = omega (arith, enough, least here.program here.task.todo (length here.task.env)); calls = calls }
stays-returns (call ∷ rest) here number enough opened calls =
    record {
      now = omega (arith, value_names here.program call.to number call.todo (length call.env), All-head (IsCallWithin here.program) call rest opened);
      calls = All-tail (IsCallWithin here.program) call rest opened;
    }

pub stays-return : (kind : NodeKind) (here : StepStart) (right : Tree) → IsEnough here [] (length here.task.env) → AreCallsWithin here → StaysWithin here.program (begin_return_of kind here right)
unfolding StaysWithin
stays-return node.Call here right enough calls = stays-call here right here.task.env target.Return enough calls
stays-return node.TestLock here right enough calls = tt
stays-return other here right enough calls =
    stays-result here.program (value_here here right) _ (λ number. stays-returns here.task.calls here number enough calls calls)

pub stays-tested : (here : StepStart) (to : Target) → IsEnough here [] (length here.task.env) → AreCallsWithin here → StaysWithin here.program (ends_test here to)
unfolding StaysWithin
stays-tested here to enough calls =
    record { now = omega (arith, enough, value_names here.program to (pos 1) here.task.todo (length here.task.env)); calls = calls }
