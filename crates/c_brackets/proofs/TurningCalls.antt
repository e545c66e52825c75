-- A call begins with nothing open in its function, and its end leads back to what the function that called has open.
use Rattle.std.specs.Prelude.{◌≡◌, false, IsTrue, List, [], ◌∷◌, ◌++◌, None, ℤ, pos, refl}
use Rattle.std.proofs.Common.{ap, sym, ◌∙◌, subst}
use Rattle.c_syntax.specs.declared.node.NodeKind.{NodeKind}
use Rattle.c_syntax.specs.declared.node.NodeKind.TheVariants as node
use Rattle.c_syntax.specs.language.Tree.{Tree, name_of}
use Rattle.c_model.specs.declared.entry.Entry.{Entry}
use Rattle.c_model.specs.declared.point.Target.{Target}
use Rattle.c_model.specs.declared.point.Target.TheVariants as target
use Rattle.c_model.specs.Parts.{parts}
use Rattle.c_model.specs.Program.{body_of, function_named}
use Rattle.c_model.specs.Cells.{Bound}
use Rattle.c_model.specs.Value.{all_values}
use Rattle.c_model.specs.StepOutcomes.{scope_of, value_here}
use Rattle.c_model.specs.Calls.{begin_call, begin_return_of, begin_right, bound_in, ends_test, enters, open_call, returns_to, value_items}
use Rattle.c_model.specs.Task.{StepStart, Item, Moment, OpenCall}
use Rattle.c_model.specs.Task.Item.{Start, FallOff}
use Rattle.c_brackets.specs.Links.{link_item}
use Rattle.c_brackets.specs.Opened.{Open, open_calls, open_item, open_items}
use Rattle.c_brackets.specs.Orderly.{AreBehind, AreCallsKept, AreInOrder, has_calls, is_fall_off, is_return, falls_off}
use Rattle.c_brackets.specs.Returns.{ReturnsOutside}
use Rattle.c_brackets.proofs.Adding.{value_added}
use Rattle.c_brackets.proofs.OpenLists.{in_order, never}
use Rattle.c_brackets.proofs.Turning.{IsRoom, StepsOn, Turns, framed_behind, moves, plain_same, turns_choice, turns_event, turns_limit, turns_result, turns_step}

module _ (here : StepStart) (item : Item) (room : IsRoom here item) (plain : open_item item ≡ []) where
  -- nothing is open in the function that ends
  pub turns_returns : (opened : List OpenCall) (number : ℤ) → here.task.calls ≡ opened → open_items here.task.todo ≡ [] → AreCallsKept opened
      → Turns here item (returns_to opened here number)
  unfolding AreInOrder AreBehind AreCallsKept open_items open_calls
  turns_returns [] number are quiet kept =
      turns_step here item _ (record {
        is = record { now = tt; framed = λ has. never (subst (λ (calls : List OpenCall). IsTrue (has_calls calls)) are has); calls = room.calls };
        behind = tt;
        same = ap (λ (opened : List Open). opened ++ open_calls here.task.calls) (sym quiet ∙ sym (plain_same item here.task.todo plain));
      })
  turns_returns (call ∷ rest) number are quiet kept =
      let added = value_added call.to number call.todo kept.0.behind kept.0.returned in
      turns_step here item _ (record {
        is = record { now = in_order (value_items call.to number ++ call.todo) added.behind; framed = λ has. added.falls (kept.0.framed has); calls = kept.1 };
        behind = added.behind;
        same = ap (λ (opened : List Open). opened ++ open_calls rest) added.same ∙ sym (ap open_calls are)
            ∙ ap (λ (opened : List Open). opened ++ open_calls here.task.calls) (sym quiet ∙ sym (plain_same item here.task.todo plain));
      })

  module _ (apart : is_fall_off item ≡ false) (linkless : link_item item ≡ None) where
    turns-enters : (function : Tree) (env : List Entry) (to : Target) (bound : Bound) → ReturnsOutside (body_of function)
        → (IsTrue (is_return to) → open_items here.task.todo ≡ [])
        → Turns here item (enters here function (open_call here env to) bound)
    unfolding AreInOrder AreBehind AreCallsKept open_items open_calls falls_off
    turns-enters function env to bound proper returns =
        let next : Moment = record {
          task = record { todo = Start (body_of function) ∷ FallOff ∷ []; env = bound.env; calls = open_call here env to ∷ here.task.calls; returned = here.task.returned };
          store = record here.store { cells = bound.cells };
        } in
        let on : StepsOn here item next = record {
          is = record {
            now = ((proper, λ is. refl), (refl, (tt, λ is. refl), tt));
            framed = λ has. refl;
            calls = (record { behind = room.behind; returned = returns; framed = framed_behind here item room plain apart }, room.calls);
          };
          behind = (refl, (proper, λ is. refl), (refl, (tt, λ is. refl), tt));
          same = ap (λ (opened : List Open). opened ++ open_calls here.task.calls) (sym (plain_same item here.task.todo plain));
        } in
        search (turns_choice, turns_limit, turns_step, on)

    turns-call : (call : Tree) (env : List Entry) (to : Target) → (IsTrue (is_return to) → open_items here.task.todo ≡ [])
        → Turns here item (begin_call here call env to)
    turns-call call env to returns =
        turns_result here item (all_values (scope_of here) (parts call)) _ (λ numbers.
        turns-enters (function_named here.program (name_of call)) env to (bound_in here (function_named here.program (name_of call)) numbers) (room.program (name_of call)) returns)

    -- an `omp_test_lock` is an event, behind which its test stands next
    pub turns_right : (kind : NodeKind) (call : Tree) (env : List Entry) (to : Target) → (IsTrue (is_return to) → open_items here.task.todo ≡ [])
        → Turns here item (begin_right kind here call env to)
    unfolding AreInOrder open_items
    turns_right node.TestLock call env to returns =
        turns_event here item _ call (record {
          apart = apart;
          effect = λ executes. sym (plain_same item here.task.todo plain);
          order = λ executes. ((tt, returns), room.behind);
          follows = linkless;
          makes = λ executes. refl;
          creates = tt;
        })
    turns_right other call env to returns = turns-call call env to returns

    pub turns_return : (kind : NodeKind) (right : Tree) → open_items here.task.todo ≡ [] → Turns here item (begin_return_of kind here right)
    turns_return node.Call right quiet = turns-call right here.task.env target.Return (λ is. quiet)
    turns_return node.TestLock right quiet = turns_right node.TestLock right here.task.env target.Return (λ is. quiet)
    turns_return other right quiet = turns_result here item (value_here here right) _ (λ number. turns_returns here.task.calls number refl quiet room.calls)

    pub turns_tested : (to : Target) → (IsTrue (is_return to) → open_items here.task.todo ≡ []) → Turns here item (ends_test here to)
    turns_tested to returns =
        turns_step here item _ (moves here item room plain apart (value_items to (pos 1) ++ here.task.todo) here.task.env _ (value_added to (pos 1) here.task.todo room.behind returns))
