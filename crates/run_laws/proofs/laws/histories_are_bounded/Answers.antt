use Rattle.run_trace.proofs.Counted.{few-entries}
use Rattle.run_laws.proofs.Bounds.{few-turns}
use Rattle.run_laws.proofs.laws.histories_are_bounded.Goals as goal

pub returns-clause-turns : goal.returns-clause-turns
returns-clause-turns c = few-turns

pub returns-clause-entries : goal.returns-clause-entries
returns-clause-entries c = few-entries
