use Rattle.std.proofs.Common.{◌≡◌}
use Rattle.trace_check.proofs.kept.Kept.end_region.Given as goal
use Rattle.trace_check.proofs.EndedRegion.{TakenOut}

-- the members below the index are taken out, and all else stays
abbrev pub invariant-loop-index : goal.invariant-loop-index
invariant-loop-index l =
    (l.self ≡ record l.initial.self { members = l.self.members }) × TakenOut l.initial.self.members l.self.members l.region l.index
