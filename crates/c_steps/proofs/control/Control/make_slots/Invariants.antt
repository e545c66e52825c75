use Rattle.std.proofs.Common.{drop, map}
use Rattle.c_steps.specs.OwnCells.{around_at, slot_copy}
use Rattle.c_steps.proofs.OwnNames.{IsMaking}
use Rattle.c_steps.proofs.control.Control.make_slots.Given as goal

abbrev pub invariant-loop-slot : goal.invariant-loop-slot
invariant-loop-slot l =
    let around = around_at l.code l.initial.self l.names l.initial.cells l.count in
    IsMaking l.code around l.names l.count (map (slot_copy around) (drop l.slot-index l.slots)) (map (slot_copy around) l.slots)
    l.initial.self l.self l.initial.cells l.cells
