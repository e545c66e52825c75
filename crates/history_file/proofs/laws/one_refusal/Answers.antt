use Rattle.history_file.proofs.OneRefusal.{same_history_refusal}
use Rattle.history_file.proofs.laws.one_refusal.Goals as goal

pub returns : goal.returns
returns c = same_history_refusal
