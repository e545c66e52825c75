use Rattle.std.proofs.Common.{◌≡◌, ℕ, List, ◌++◌, codes, sum}
use Rattle.std.specs.List.{sum_by}
use Rattle.tool_report.specs.Profile.{count_line}
use Rattle.tool_report.proofs.Shares.{places_text, threads_text}
use Rattle.tool_report.proofs.profile_report.profile_text.Given as goal

abbrev pub invariant-loop-place : goal.invariant-loop-place
invariant-loop-place l = l.text.items ≡ places_text l.parts l.place

abbrev pub invariant-loop-thread : goal.invariant-loop-thread
invariant-loop-thread l = l.text.items ≡ places_text l.parts 17 ++ count_line (codes "total") (sum_by (λ (counts : List ℕ). sum counts) l.parts) ++ threads_text l.parts l.thread
