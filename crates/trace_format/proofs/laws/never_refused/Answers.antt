use Rattle.trace_format.proofs.Unrefused.{never_refused_trace}
use Rattle.trace_format.proofs.laws.never_refused.Goals as goal

pub returns : goal.returns
returns c = never_refused_trace
