-- A task's own cells are made: what its clauses list, and then what it copies by rule.
use Rattle.std.proofs.Common.{◌≡◌, ℕ, ◌+◌, ◌≤◌, List, [], ◌++◌, length, map, take, sym, ap, ◌∙◌, subst, arith}
use Rattle.std.proofs.lemmas.List.{append_assoc}
use Rattle.c_syntax.specs.language.Tree.{Tree}
use Rattle.c_syntax.specs.language.Numbered.{TreeView}
use Rattle.c_check.specs.Seen.{task_copies}
use Rattle.c_model.specs.declared.limits.TheConstants.{CELL_LIMIT}
use Rattle.c_model.specs.Cells.{Bound}
use Rattle.c_model.specs.Clauses.{Listed}
use Rattle.c_model.specs.Copies.{listed_variables, with_listed, with_slots, with_task_cells}
use Rattle.c_model.specs.Task.{Store}
use Rattle.c_steps.specs.ControlView.{ControlView, bound_in}
use Rattle.c_steps.specs.OwnCells.{around_at, listed_copy, made_listed, made_slots, made_task, slot_copy, with_made, with_made_cells}
use Rattle.c_steps.proofs.OwnNames.{around_listed, cells_before, cells_grow, copies_append, copies_listed, copies_of_slots, listed_appends, listed_count, made_both}

module _ (around : Bound) where
  pub slots_append : (made : Bound) (slots : List ℕ) → with_slots around made slots ≡ record { env = made.env ++ (made_slots around made.cells slots).env; cells = (made_slots around made.cells slots).cells }
  slots_append made slots =
      copies_of_slots around made slots
      ∙ copies_append around made.env made.cells (map (slot_copy around) slots)
      ∙ sym (ap (λ more. record { env = made.env ++ more.env; cells = more.cells }) (copies_of_slots around (record { env = []; cells = made.cells }) slots))

  slots_grow : (bound : Bound) (slots : List ℕ) → length bound.cells ≤ length (with_slots around bound slots).cells
  slots_grow bound slots = omega (arith, cells_grow around bound (map (slot_copy around) slots), ap (λ made. length made.cells) (copies_of_slots around bound slots))

  listed_grow : (bound : Bound) (listed : List Listed) → length bound.cells ≤ length (with_listed around bound listed).cells
  listed_grow bound listed = omega (arith, cells_grow around bound (map (listed_copy around) listed), ap (λ made. length made.cells) (copies_listed around bound listed))

-- the names and cells with which a task's code begins
pub task_appends : (program : TreeView) (around : Bound) (construct : Tree) →
    with_task_cells program around construct
    ≡ record { env = around.env ++ (made_task program around around.cells construct).env; cells = (made_task program around around.cells construct).cells }
task_appends program around construct =
    let made = made_listed around around.cells (listed_variables construct) in
    let slots = task_copies program construct in
    ap (λ bound. with_slots around bound slots) (listed_appends around around.env around.cells (listed_variables construct))
    ∙ slots_append around (record { env = around.env ++ made.env; cells = made.cells }) slots
    ∙ ap (λ env. record { env = env; cells = (made_slots around made.cells slots).cells }) (append_assoc around.env made.env (made_slots around made.cells slots).env)
    ∙ sym (ap (λ all. record { env = around.env ++ all.env; cells = all.cells }) (slots_append around made slots))

module _ (program : TreeView) (construct : Tree) (old : ControlView) (before : Store) (room : length (made_task program (bound_in program old before) before.cells construct).cells ≤ CELL_LIMIT) where
  pub listed_fit : length (made_listed (bound_in program old before) before.cells (listed_variables construct)).cells ≤ CELL_LIMIT
  listed_fit = omega (arith, room, slots_grow (bound_in program old before) (made_listed (bound_in program old before) before.cells (listed_variables construct)) (task_copies program construct))

  module _ (held : ControlView) (store : Store) (names count : ℕ) (slots : List ℕ) (base : old.base ≤ length old.names)
      (control : held ≡ with_made (made_listed (bound_in program old before) before.cells (listed_variables construct)) old)
      (cells : store ≡ with_made_cells (made_listed (bound_in program old before) before.cells (listed_variables construct)) before)
      (were : names ≡ length old.names) (counted : count ≡ length before.cells) (are : slots ≡ task_copies program construct) where
    pub count_within : count ≤ length store.cells
    count_within =
        omega (arith, counted, ap (λ store. length store.cells) cells, listed_grow (bound_in program old before) (record { env = []; cells = before.cells }) (listed_variables construct))

    pub slots_free : length (listed_variables construct) + length (task_copies program construct) ≤ old.names_now → length slots ≤ held.names_now
    slots_free free =
        omega (arith, free, ap ControlView.names_now control, ap length are, listed_count (bound_in program old before) before.cells (listed_variables construct))

    seen : around_at program held names store count ≡ bound_in program old before
    seen =
        let made = made_listed (bound_in program old before) before.cells (listed_variables construct) in
        let kept : take (length before.cells) store.cells ≡ before.cells = ap (λ store. take (length before.cells) store.cells) cells ∙ cells_before (bound_in program old before) before.cells (listed_variables construct) in
        ap (λ names. around_at program held names store count) were
        ∙ ap (λ count. around_at program held (length old.names) store count) counted
        ∙ around_listed program old held before store made base control kept

    slots_made : made_slots (around_at program held names store count) store.cells slots
        ≡ made_slots (bound_in program old before) (made_listed (bound_in program old before) before.cells (listed_variables construct)).cells (task_copies program construct)
    slots_made =
        ap (λ around. made_slots around store.cells slots) seen
        ∙ ap (λ store. made_slots (bound_in program old before) store.cells slots) cells
        ∙ ap (made_slots (bound_in program old before) (made_listed (bound_in program old before) before.cells (listed_variables construct)).cells) are

    whole : made_task program (bound_in program old before) before.cells construct
        ≡ record {
          env = (made_listed (bound_in program old before) before.cells (listed_variables construct)).env ++ (made_slots (around_at program held names store count) store.cells slots).env;
          cells = (made_slots (around_at program held names store count) store.cells slots).cells;
        }
    whole =
        let made = made_listed (bound_in program old before) before.cells (listed_variables construct) in
        slots_append (bound_in program old before) made (task_copies program construct)
        ∙ sym (ap (λ more. record { env = made.env ++ more.env; cells = more.cells }) slots_made)

    pub slots_fit : length (made_slots (around_at program held names store count) store.cells slots).cells ≤ CELL_LIMIT
    slots_fit = subst (λ all. length all.cells ≤ CELL_LIMIT) whole room

    pub task_control : (new : ControlView) → new ≡ with_made (made_slots (around_at program held names store count) store.cells slots) held → new ≡ with_made (made_task program (bound_in program old before) before.cells construct) old
    task_control new is =
        let made = made_listed (bound_in program old before) before.cells (listed_variables construct) in
        let more = made_slots (around_at program held names store count) store.cells slots in
        is ∙ ap (with_made more) control ∙ made_both made more old ∙ ap (λ all. with_made all old) (sym whole)

    pub task_cells : (after : Store) → after ≡ with_made_cells (made_slots (around_at program held names store count) store.cells slots) store → after ≡ with_made_cells (made_task program (bound_in program old before) before.cells construct) before
    task_cells after is =
        let more = made_slots (around_at program held names store count) store.cells slots in
        is ∙ ap (with_made_cells more) cells ∙ ap (λ all. with_made_cells all before) (sym whole)
