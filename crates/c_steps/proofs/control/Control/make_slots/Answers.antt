use Rattle.std.proofs.Common.{◌≡◌, ◌+◌, ◌≤◌, [], drop, length, map, slice_index_or, ap, sym, ◌∙◌, subst}
use Rattle.std.proofs.Math.ListN.{drop_of_length-le}
use Rattle.std.proofs.lemmas.List.{drop_more}
use Rattle.c_model.specs.declared.limits.TheConstants.{CELL_LIMIT}
use Rattle.c_steps.specs.Moves.{bound}
use Rattle.c_steps.specs.OwnCells.{around_at, copy_entry, copy_numbers, slot_copy, with_made, with_made_cells, with_numbers}
use Rattle.c_steps.proofs.OwnNames.{IsMaking, copies_of_slots, making_cells, making_end, making_more, making_room}
use Rattle.c_steps.proofs.control.Control.make_slots.Goals as goal

pub make_slot-requires-clause-room : goal.make_slot-requires-clause-room
make_slot-requires-clause-room c =
    let code = c.args.code.now in
    let old = c.args.self.now in
    let before = c.args.cells.now in
    let slots = c.args.slots.now in
    let around = around_at code old c.args.names before c.args.count in
    let copies = map (slot_copy around) slots in
    let held = c.loop-slot.self in
    let store = c.loop-slot.cells in
    let at = c.loop-slot.slot-index in
    let slot = slice_index_or slots at 0 in
    let rest = map (slot_copy around) (drop (at + 1) slots) in
    let so = subst (λ left. IsMaking code around c.args.names c.args.count (map (slot_copy around) left) copies old held before store) (drop_more slots at 0 c.loop-slot-test.true) c.loop-slot.invariant in
    let room = subst (λ made. length made.cells ≤ CELL_LIMIT) (copies_of_slots around (record { env = []; cells = before.cells }) slots) c.requires.room in
    subst (λ around. length store.cells + length (copy_numbers around (slot_copy around slot)) ≤ CELL_LIMIT) (sym so.seen)
    (making_room code copies old before around c.args.names c.args.count held store (slot_copy around slot) rest so room)

pub loop-slot-preserved : goal.loop-slot-preserved
loop-slot-preserved c =
    let code = c.args.code.now in
    let old = c.args.self.now in
    let before = c.args.cells.now in
    let slots = c.args.slots.now in
    let around = around_at code old c.args.names before c.args.count in
    let copies = map (slot_copy around) slots in
    let held = c.loop-slot.self in
    let store = c.loop-slot.cells in
    let at = c.loop-slot.slot-index in
    let slot = slice_index_or slots at 0 in
    let rest = map (slot_copy around) (drop (at + 1) slots) in
    let so = subst (λ left. IsMaking code around c.args.names c.args.count (map (slot_copy around) left) copies old held before store) (drop_more slots at 0 c.loop-slot-test.true) c.loop-slot.invariant in
    let new = c.make_slot.new.self in
    let after = c.make_slot.new.cells in
    making_more code copies old before around c.args.names c.args.count held store (slot_copy around slot) rest so new after
    (subst (λ around. new ≡ bound (copy_entry around store.cells (slot_copy around slot)) held) so.seen c.make_slot.ensures.control)
    (subst (λ around. after ≡ with_numbers (copy_numbers around (slot_copy around slot)) store) so.seen c.make_slot.ensures.cells)

pub returns-clause-control : goal.returns-clause-control
returns-clause-control c =
    let code = c.args.code.now in
    let old = c.args.self.now in
    let before = c.args.cells.now in
    let slots = c.args.slots.now in
    let around = around_at code old c.args.names before c.args.count in
    let copies = map (slot_copy around) slots in
    let held = c.loop-slot.self in
    let store = c.loop-slot.cells in
    let at = c.loop-slot.slot-index in
    let so = subst (λ left. IsMaking code around c.args.names c.args.count (map (slot_copy around) left) copies old held before store) (drop_of_length-le slots c.loop-slot-test.false) c.loop-slot.invariant in
    making_end code copies old before around c.args.names c.args.count held store so
    ∙ ap (λ made. with_made made old) (sym (copies_of_slots around (record { env = []; cells = before.cells }) slots))

pub returns-clause-cells : goal.returns-clause-cells
returns-clause-cells c =
    let code = c.args.code.now in
    let old = c.args.self.now in
    let before = c.args.cells.now in
    let slots = c.args.slots.now in
    let around = around_at code old c.args.names before c.args.count in
    let copies = map (slot_copy around) slots in
    let held = c.loop-slot.self in
    let store = c.loop-slot.cells in
    let at = c.loop-slot.slot-index in
    let so = subst (λ left. IsMaking code around c.args.names c.args.count (map (slot_copy around) left) copies old held before store) (drop_of_length-le slots c.loop-slot-test.false) c.loop-slot.invariant in
    making_cells code copies old before around c.args.names c.args.count held store so
    ∙ ap (λ made. with_made_cells made before) (sym (copies_of_slots around (record { env = []; cells = before.cells }) slots))
