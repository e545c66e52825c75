use Rattle.std.proofs.Common.{◌≡◌, [], replicate}
use Rattle.ompt_cli.proofs.keepers.keepers.Given as goal

-- as many as turns were made
abbrev pub invariant-loop-thread : goal.invariant-loop-thread
invariant-loop-thread g l = l.parts.items ≡ replicate l._thread (g.P.Keeper.keep [])
