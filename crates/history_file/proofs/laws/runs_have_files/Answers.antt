use Rattle.history_file.proofs.OfRuns.{files_of_runs}
use Rattle.history_file.proofs.laws.runs_have_files.Goals as goal

pub returns : goal.returns
returns c = files_of_runs
