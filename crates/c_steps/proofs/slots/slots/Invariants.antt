use Rattle.std.proofs.Common.{◌≡◌, map, take}
use Rattle.c_check.specs.Seen.{slot_of_name}
use Rattle.c_steps.proofs.slots.slots.Given as goal

-- the slots of the nodes so far
abbrev pub invariant-loop-node : goal.invariant-loop-node
invariant-loop-node l = l.slots.items ≡ map (slot_of_name l.program) (take l.node l.program.trees)
