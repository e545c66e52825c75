use Rattle.std.proofs.Common.{◌↔◌, drop}
use Rattle.trace_format.specs.Accepting.{AreOf}
use Rattle.trace_format.proofs.arguments.are_of.Given as goal

-- the arguments are of their kinds exactly where the others are
abbrev pub invariant-loop-place : goal.invariant-loop-place
invariant-loop-place l = AreOf l.kinds l.arguments ↔ AreOf (drop l.place l.kinds) (drop l.place l.arguments)
