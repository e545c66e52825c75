use Rattle.std.proofs.Common.{rules}
use Rattle.thread_wakes.proofs.Sets.{has-minus}
use Rattle.thread_wakes.proofs.thread_set.ThreadSet.minus.Goals as goal

pub returns : goal.returns
returns c t = has-minus c.args.self.0 c.args.other.0 t (search rules) (search rules)
