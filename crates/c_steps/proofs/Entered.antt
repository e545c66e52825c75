-- What stands there when a function is entered.
use Rattle.std.specs.Prelude.{◌≡◌, ℕ, ◌≤◌, ◌++◌, List, [], ◌∷◌, drop, take, length, Option, Some, None, ℤ, refl}
use Rattle.std.proofs.Common.{ap, subst, sym, ◌∙◌, arith, append_assoc}
use Rattle.std.proofs.lemmas.List.{append-nil, drop_all, take_all, drop-append-le, take-append-le}
use Rattle.c_syntax.specs.language.Tree.{Tree}
use Rattle.c_syntax.specs.language.Numbered.{TreeView}
use Rattle.c_model.specs.declared.entry.Entry.{Entry}
use Rattle.c_model.specs.declared.view.View.{View}
use Rattle.c_model.specs.declared.point.Target.{Target}
use Rattle.c_model.specs.Calls.{bound_in, file_bound, open_call, with_parameters}
use Rattle.c_check.specs.Loops.{child_at}
use Rattle.c_check.specs.Tasks.{from_place}
use Rattle.c_model.specs.Cells.{Bound}
use Rattle.c_model.specs.Parts.{parts}
use Rattle.c_model.specs.Value.{Scope, all_values}
use Rattle.c_model.specs.Program.{body_of, parameters_of}
use Rattle.c_model.specs.Task.{Moment, OpenCall, Store}
use Rattle.c_model.specs.Task.Item.{FallOff, Start}
use Rattle.c_steps.specs.declared.item.Item.TheVariants as item
use Rattle.c_steps.specs.declared.control.entering.Caller.{Caller}
use Rattle.c_steps.specs.Arguments.{values_in}
use Rattle.c_steps.specs.Entering.{HasMore, IsCaller, arguments_from, bound_at, caller_scope, moment_entered}
use Rattle.c_steps.specs.ControlView.{ControlView, env_at, here_at, moment_at, scope_in}
use Rattle.c_steps.specs.Items.{begun, calls_at, file_names, todo_at}
use Rattle.c_steps.specs.Moves.{bound_if, entries_if, env_with, opened, stepping, then_item}
use Rattle.c_steps.specs.Nodes.{part_at}
use Rattle.c_steps.specs.Ready.{IsStepping}

-- the names of the function that calls, with one that is declared
names_with : (program : TreeView) (old : ControlView) (declared : Option Entry) → old.base ≤ length old.names →
    file_names program ++ drop old.base (bound_if declared (stepping old)).names ≡ env_with declared (env_at program old)
names_with program old None within = rw (append-nil old.names) refl
names_with program old (Some entry) within =
    ap (λ own. file_names program ++ own) (drop-append-le old.base old.names (entry ∷ []) within)
    ∙ sym (append_assoc (file_names program) (drop old.base old.names) (entry ∷ []))

names_older : (old : ControlView) (declared : Option Entry) (count : ℕ) → count ≤ length old.names →
    take count (bound_if declared (stepping old)).names ≡ take count old.names
names_older old declared count within = take-append-le count old.names (entries_if declared) within

-- what the arguments are evaluated in is still there when the call has been opened
pub scope_kept : (program : TreeView) (view : View) (old : ControlView) (store : Store) (declared : Option Entry) (to : Target) (caller : Caller) →
    caller.base ≡ old.base → caller.names ≡ length old.names → caller.cells ≡ length store.cells →
    caller_scope program view caller (opened to (bound_if declared (stepping old))) store ≡ scope_in program view old store
scope_kept program view old store declared to caller base names cells =
    let own : take caller.names (bound_if declared (stepping old)).names ≡ old.names =
    rw names (names_older old declared (length old.names) (omega arith) ∙ take_all (length old.names) old.names (omega arith)) in
    let all : take caller.cells store.cells ≡ store.cells = rw cells (take_all (length store.cells) store.cells (omega arith)) in
    rw (own, base, all) refl

-- no name of the function that is called is in scope yet
opened_names : (program : TreeView) (names : List Entry) → file_names program ++ drop (length names) names ≡ (file_bound program).env
unfolding file_names
opened_names program names = ap (λ own. (file_bound program).env ++ own) (drop_all (length names) names (omega arith)) ∙ append-nil (file_bound program).env

module _ (program : TreeView) (view : View) (old : ControlView) (store : Store) (declared : Option Entry) (to : Target) where
  -- the control when the call has been opened
  abbrev called : ControlView
  called = opened to (bound_if declared (stepping old))

  calls_with : (new : ControlView) → IsStepping program old → old.base ≤ length old.names → take called.base new.names ≡ take called.base called.names →
      calls_at program (take called.base new.names) called.frames
      ≡ open_call (here_at program view old store) (env_with declared (env_at program old)) to ∷ calls_at program (take old.base old.names) old.frames
  unfolding calls_at
  calls_with new ready within older =
      let own : take called.base new.names ≡ called.names = older ∙ take_all (length called.names) called.names (omega arith) in
      ap (λ names. calls_at program names called.frames) own
      ∙ ap (λ (env : List Entry). record { todo = todo_at program (begun old.frames); env = env; to = to } ∷ calls_at program (take old.base called.names) (begun old.frames)) (names_with program old declared within)
      ∙ ap (λ (names : List Entry). open_call (here_at program view old store) (env_with declared (env_at program old)) to ∷ calls_at program names (begun old.frames)) (names_older old declared old.base within)
      ∙ ap (λ (calls : List OpenCall). open_call (here_at program view old store) (env_with declared (env_at program old)) to ∷ calls) (ready.calls (take old.base old.names))

  -- what stands there, by the body, the names in scope with all cells, and the open calls
  abbrev moment : Tree → Bound → List OpenCall → Moment
  moment body bound calls =
      record {
        task = record { todo = Start body ∷ FallOff ∷ []; env = bound.env; calls = calls; returned = old.returned };
        store = record store { cells = bound.cells };
      }

  entered_with : (names : List Entry) (count : ℕ) (cells : List ℤ) (function : Tree) (body : Option ℕ) (numbers : List ℤ) →
      IsStepping program old → old.base ≤ length old.names → take called.base names ≡ take called.base called.names →
      bound_at program (record called { names = names; names_now = count }) (record store { cells = cells }) ≡ with_parameters program (bound_at program called store) (parameters_of function) numbers →
      part_at program.trees body ≡ body_of function →
      moment_at program (then_item (item.Start body) (then_item item.FallOff (record called { names = names; names_now = count }))) (record store { cells = cells })
      ≡ moment_entered (here_at program view old store) function
      (open_call (here_at program view old store) (env_with declared (env_at program old)) to)
      (bound_in (here_at program view old store) function numbers)
  unfolding todo_at calls_at
  entered_with names count cells function body numbers ready within older bound is_body =
      let opens = calls_with (record called { names = names; names_now = count }) ready within older in
      let bounds : bound_at program (record called { names = names; names_now = count }) (record store { cells = cells }) ≡ bound_in (here_at program view old store) function numbers =
      bound ∙ ap (λ (env : List Entry). with_parameters program (record { env = env; cells = store.cells }) (parameters_of function) numbers) (opened_names program called.names) in
      ap (λ (start : Tree). moment start (bound_at program (record called { names = names; names_now = count }) (record store { cells = cells })) (calls_at program (take called.base names) called.frames)) is_body
      ∙ ap (λ (bound : Bound). moment (body_of function) bound (calls_at program (take called.base names) called.frames)) bounds
      ∙ ap (λ (calls : List OpenCall). moment (body_of function) (bound_in (here_at program view old store) function numbers) calls) opens

  -- the function's body stands next, with its parameters in scope
  pub entered : (new : ControlView) (after : Store) (function : Tree) (body : Option ℕ) (numbers : List ℤ) →
      IsStepping program old → old.base ≤ length old.names → HasMore called new store after →
      bound_at program new after ≡ with_parameters program (bound_at program called store) (parameters_of function) numbers →
      part_at program.trees body ≡ body_of function →
      moment_at program (then_item (item.Start body) (then_item item.FallOff new)) after
      ≡ moment_entered (here_at program view old store) function
      (open_call (here_at program view old store) (env_with declared (env_at program old)) to)
      (bound_in (here_at program view old store) function numbers)
  entered new after function body numbers ready within more bound is_body =
      ap (λ (held : ControlView). moment_at program (then_item (item.Start body) (then_item item.FallOff held)) after) more.held
      ∙ ap (λ (all : Store). moment_at program (then_item (item.Start body) (then_item item.FallOff (record called { names = new.names; names_now = new.names_now }))) all) more.store
      ∙ entered_with new.names new.names_now after.cells function body numbers ready within more.older
      (subst (λ (held : ControlView). bound_at program held (record store { cells = after.cells }) ≡ with_parameters program (bound_at program called store) (parameters_of function) numbers) more.held
      (subst (λ (all : Store). bound_at program new all ≡ with_parameters program (bound_at program called store) (parameters_of function) numbers) more.store bound))
      is_body

-- .. when its parameters have come into scope
pub entered_from : (program : TreeView) (view : View) (old : ControlView) (store : Store) (declared : Option Entry) (to : Target) (caller : Caller)
    (opens new last : ControlView) (after : Store) (call function parameters : Tree) (body : Option ℕ) →
    opens ≡ opened to (bound_if declared (stepping old)) → IsStepping program old → IsCaller caller old store →
    caller.base ≡ old.base → caller.names ≡ length old.names → caller.cells ≡ length store.cells →
    HasMore opens new store after →
    bound_at program new after ≡ with_parameters program (bound_at program opens store) (parts parameters) (values_in (arguments_from (caller_scope program view caller opens store) call 0)) →
    parameters ≡ child_at function 1 → part_at program.trees body ≡ body_of function →
    last ≡ then_item (item.Start body) (then_item item.FallOff new) →
    moment_at program last after
    ≡ moment_entered (here_at program view old store) function
    (open_call (here_at program view old store) (env_with declared (env_at program old)) to)
    (bound_in (here_at program view old store) function (values_in (all_values (scope_in program view old store) (parts call))))
unfolding from_place
entered_from program view old store declared to caller opens new last after call function parameters body is_opened ready there base names cells more bound is_parameters is_body is_last =
    let now = called program view old store declared to in
    let within : old.base ≤ length old.names = omega (arith, there.base, base, names) in
    let more_now : HasMore now new store after = subst (λ (held : ControlView). HasMore held new store after) is_opened more in
    let bound_now : bound_at program new after ≡ with_parameters program (bound_at program now store) (parameters_of function) (values_in (all_values (scope_in program view old store) (parts call))) =
    bound
    ∙ ap (λ (held : ControlView). with_parameters program (bound_at program held store) (parts parameters) (values_in (arguments_from (caller_scope program view caller held store) call 0))) is_opened
    ∙ ap (λ (tree : Tree). with_parameters program (bound_at program now store) (parts tree) (values_in (arguments_from (caller_scope program view caller now store) call 0))) is_parameters
    ∙ ap (λ (scope : Scope). with_parameters program (bound_at program now store) (parameters_of function) (values_in (arguments_from scope call 0))) (scope_kept program view old store declared to caller base names cells) in
    ap (λ (held : ControlView). moment_at program held after) is_last
    ∙ entered program view old store declared to new after function body (values_in (all_values (scope_in program view old store) (parts call))) ready within more_now bound_now is_body
