use Rattle.trace_format.proofs.Along.{longest}
use Rattle.trace_format.proofs.laws.longest.Goals as goal

pub returns : goal.returns
returns c = longest
