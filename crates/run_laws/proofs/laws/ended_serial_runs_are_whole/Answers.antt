use Rattle.run_laws.proofs.Ended.{whole-ended}
use Rattle.run_laws.proofs.laws.ended_serial_runs_are_whole.Goals as goal

pub returns : goal.returns
returns c = whole-ended
