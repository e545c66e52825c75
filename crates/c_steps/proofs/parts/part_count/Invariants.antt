use Rattle.std.proofs.Common.{◌≡◌, ◌+◌, length}
use Rattle.c_model.specs.Parts.{parts}
use Rattle.c_steps.specs.Nodes.{part_at}
use Rattle.c_steps.specs.Rests.{parts_from}
use Rattle.c_steps.proofs.parts.part_count.Given as goal

abbrev pub invariant-loop-place : goal.invariant-loop-place
invariant-loop-place l = l.place + length (parts_from (part_at l.tree.trees l.whole) l.place) ≡ length (parts (part_at l.tree.trees l.whole))

abbrev pub decreases-loop-place : goal.decreases-loop-place
decreases-loop-place l = length (parts_from (part_at l.tree.trees l.whole) l.place)
