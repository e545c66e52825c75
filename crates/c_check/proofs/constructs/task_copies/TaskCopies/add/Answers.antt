use Rattle.std.proofs.Common.{◌≡◌, ◌∙◌, true, false, cond, ◌++◌, ◌∷◌, [], List, ℕ, Some, None, sym, ap}
use Rattle.std.specs.Prelude.{option_map, unwrap_or, vec_items}
use Rattle.std.specs.HashMap.{get}
use Rattle.c_check.specs.Faults.{is_same_spot}
use Rattle.c_check.specs.Once.{is_among}
use Rattle.c_check.specs.Pairs.{same_pair}
use Rattle.c_check.specs.Seen.{copies_of_task}
use Rattle.c_check.proofs.Copying.{copies-again, copies-new, known-new}
use Rattle.c_check.proofs.constructs.task_copies.TaskCopies.add.Goals as goal

pub returns-then-contains : goal.returns-then-contains
returns-then-contains c = λ copies are.
    let known : is_among (copies_of_task copies c.args.task) c.args.slot ≡ true = sym (are.known c.args.task c.args.slot) ∙ sym c.contains.ensures ∙ c.if-contains.true in
    let again = copies-again copies (record { task = c.args.task; slot = c.args.slot }) known in
    record {
      slots = λ task. are.slots task ∙ again task;
      known = λ task slot. are.known task slot ∙ ap (λ (slots : List ℕ). is_among slots slot) (again task);
    }

pub returns : goal.returns
returns c = λ copies are.
    let fresh : is_among (copies_of_task copies c.args.task) c.args.slot ≡ false = sym (are.known c.args.task c.args.slot) ∙ sym c.contains.ensures ∙ c.if-contains.false in
    let items : c.push.new.self.items ≡ copies_of_task copies c.args.task ++ c.args.slot ∷ [] =
    c.in_ok-push.ensures.items ∙ ap (λ (slots : List ℕ). slots ++ c.args.slot ∷ []) (c.take_slots-slots.ensures.items ∙ are.slots c.args.task) in
    record {
      slots = λ task.
          ap (λ found. unwrap_or (option_map vec_items found) [])
          (c.in_ok-insert.ensures.updates.0 (task.line, task.column)
          ∙ ap (λ found. cond (is_same_spot c.args.task task) (Some c.push.new.self) found) (c.take_slots-slots.ensures.others (task.line, task.column)))
          ∙ elim (is_same_spot c.args.task task) as (λ here. unwrap_or (option_map vec_items (cond here (Some c.push.new.self) (cond here None (get same_pair c.args.self.now.slots (task.line, task.column))))) [] ≡ cond here (copies_of_task copies c.args.task ++ c.args.slot ∷ []) (copies_of_task copies task)) [
            | true ↦ items
            | false ↦ are.slots task
          ]
          ∙ sym (copies-new copies (record { task = c.args.task; slot = c.args.slot }) fresh task);
      known = λ task slot.
          c.in_ok-insert-2.ensures.updates.0 (task.line, task.column, slot)
          ∙ known-new copies (record { task = c.args.task; slot = c.args.slot }) fresh task slot _ (are.known task slot);
    }
