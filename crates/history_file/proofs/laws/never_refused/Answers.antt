use Rattle.history_file.proofs.OneRefusal.{never_history_refused}
use Rattle.history_file.proofs.laws.never_refused.Goals as goal

pub returns : goal.returns
returns c = never_history_refused
