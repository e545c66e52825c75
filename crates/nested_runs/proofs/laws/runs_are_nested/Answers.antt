use Rattle.nested_runs.proofs.Nesting.{nested}
use Rattle.nested_runs.proofs.laws.runs_are_nested.Goals as goal

pub returns : goal.returns
returns c = nested
