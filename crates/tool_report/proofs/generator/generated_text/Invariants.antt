use Rattle.std.proofs.Common.{◌≡◌}
use Rattle.tool_report.proofs.Programs.{program_to}
use Rattle.tool_report.proofs.generator.generated_text.Given as goal

abbrev pub invariant-loop-number : goal.invariant-loop-number
invariant-loop-number l = l.text.items ≡ program_to l.number
