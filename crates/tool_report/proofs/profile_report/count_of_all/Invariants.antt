use Rattle.std.proofs.Common.{◌≡◌, ℕ, List, take, sum}
use Rattle.std.specs.List.{sum_by}
use Rattle.tool_report.proofs.profile_report.count_of_all.Given as goal

abbrev pub invariant-loop-part : goal.invariant-loop-part
invariant-loop-part l = l.total ≡ sum_by (λ (counts : List ℕ). sum counts) (take l.part-index l.parts)
