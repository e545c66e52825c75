use Rattle.thread_wakes.proofs.Sets.{has-union}
use Rattle.thread_wakes.proofs.thread_set.ThreadSet.union.Goals as goal

pub returns : goal.returns
returns c = has-union c.args.self.0 c.args.other.0
