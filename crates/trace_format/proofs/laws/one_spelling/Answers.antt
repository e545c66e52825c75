use Rattle.trace_format.proofs.Unique.{one_spelling}
use Rattle.trace_format.proofs.laws.one_spelling.Goals as goal

pub returns : goal.returns
returns c = one_spelling
