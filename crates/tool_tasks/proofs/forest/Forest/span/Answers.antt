use Rattle.std.proofs.Common.{ℕ, sym, subst}
use Rattle.tool_tasks.specs.Span.{IsSpan}
use Rattle.tool_tasks.proofs.forest.Forest.span.Goals as goal
use Rattle.tool_tasks.proofs.Longest.{is_span}

pub returns : goal.returns
returns c = λ events forest. subst (λ (n : ℕ). IsSpan events n) (sym forest.holds.span) (is_span events forest.rising)
