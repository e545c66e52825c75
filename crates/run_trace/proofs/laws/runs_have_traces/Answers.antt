use Rattle.run_trace.proofs.Traces.{traces_of_runs}
use Rattle.run_trace.proofs.laws.runs_have_traces.Goals as goal

-- src/laws.rt:20:1
pub returns : goal.returns
returns c = traces_of_runs
