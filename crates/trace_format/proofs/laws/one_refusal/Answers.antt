use Rattle.trace_format.proofs.Refusals.{one_refusal}
use Rattle.trace_format.proofs.laws.one_refusal.Goals as goal

pub returns : goal.returns
returns c = one_refusal
