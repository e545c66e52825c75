use Rattle.trace_view.proofs.ClosedSlices.{all_nest, none_open}
use Rattle.trace_view.proofs.laws.slices_nest.Goals as goal

pub returns-clause-nest : goal.returns-clause-nest
returns-clause-nest c = all_nest

pub returns-clause-over : goal.returns-clause-over
returns-clause-over c = none_open
