use Rattle.history_file.proofs.Refusals.{one_writing}
use Rattle.history_file.proofs.laws.one_spelling.Goals as goal

pub returns : goal.returns
returns c = one_writing
