use Rattle.std.proofs.Common.{◌≡◌, take, sum}
use Rattle.tool_report.proofs.profile_report.count_of_part.Given as goal

abbrev pub invariant-loop-count : goal.invariant-loop-count
invariant-loop-count l = l.total ≡ sum (take l.count-index l.counts)
