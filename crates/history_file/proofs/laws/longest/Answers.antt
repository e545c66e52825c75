use Rattle.history_file.proofs.Lengths.{written_short}
use Rattle.history_file.proofs.laws.longest.Goals as goal

pub returns : goal.returns
returns c = written_short
