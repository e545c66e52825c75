use Rattle.std.proofs.Common.{length}
use Rattle.c_steps.specs.Nodes.{part_at}
use Rattle.c_steps.specs.Rests.{parts_from}
use Rattle.c_steps.proofs.Parameters.{IsUnderWay}
use Rattle.c_steps.proofs.control.Control.bind_parameters.Given as goal

abbrev pub invariant-loop-parameter : goal.invariant-loop-parameter
invariant-loop-parameter l =
    IsUnderWay l.code l.view l.caller (part_at l.code.trees l.call) (part_at l.code.trees l.parameters) l.initial.self l.self l.initial.cells l.cells l.place l.argument

abbrev pub decreases-loop-parameter : goal.decreases-loop-parameter
decreases-loop-parameter l = length (parts_from (part_at l.code.trees l.parameters) l.place)
