use Rattle.std.proofs.Common.{◌≡◌, ℕ, List, take, get_or}
use Rattle.std.specs.List.{sum_by}
use Rattle.tool_report.proofs.profile_report.count_at.Given as goal

abbrev pub invariant-loop-part : goal.invariant-loop-part
invariant-loop-part l = l.count ≡ sum_by (λ (counts : List ℕ). get_or counts l.place 0) (take l.part-index l.parts)
