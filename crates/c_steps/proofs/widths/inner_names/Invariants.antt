use Rattle.std.proofs.Common.{◌≡◌, map, take}
use Rattle.c_model.specs.Width.{inner_names}
use Rattle.c_steps.proofs.widths.inner_names.Given as goal

-- the numbers of the nodes so far
abbrev pub invariant-loop-node : goal.invariant-loop-node
invariant-loop-node l = l.inner.items ≡ map (inner_names l.program) (take l.node l.program.trees)
