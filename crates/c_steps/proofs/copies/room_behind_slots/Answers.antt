use Rattle.std.proofs.Common.{◌∙◌, rules}
use Rattle.c_steps.proofs.Counting.{slot_fits, slot_passes}
use Rattle.c_steps.specs.OwnCells.{around_of}
use Rattle.c_steps.proofs.copies.room_behind_slots.Goals as goal

pub returns-in-None : goal.returns-in-None
returns-in-None c =
    slot_fits (around_of c.args.scope.now) c.args.slots.now c.loop-slot.slot-index _ c.loop-slot-test.true (search rules) c.loop-slot.left c.in-None.ensures ∙ c.loop-slot.invariant

pub loop-slot-preserved : goal.loop-slot-preserved
loop-slot-preserved c =
    slot_passes (around_of c.args.scope.now) c.args.slots.now c.loop-slot.slot-index _ c.loop-slot-test.true (search rules) c.loop-slot.left c.in-Some.rest c.in-Some.ensures ∙ c.loop-slot.invariant
