use Rattle.std.proofs.Common.{◌≡◌, drop}
use Rattle.c_steps.specs.OwnCells.{around_of, room_behind, slot_cells}
use Rattle.c_steps.proofs.copies.room_behind_slots.Given as goal

-- what is left is enough for what is left
abbrev pub invariant-loop-slot : goal.invariant-loop-slot
invariant-loop-slot l =
    room_behind (slot_cells (around_of l.scope) (drop l.slot-index l.slots)) l.left ≡ room_behind (slot_cells (around_of l.scope) l.slots) l.room
