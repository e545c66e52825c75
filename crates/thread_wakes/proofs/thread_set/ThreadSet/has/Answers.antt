use Rattle.std.proofs.Common.{rules}
use Rattle.thread_wakes.proofs.Sets.{has-test}
use Rattle.thread_wakes.proofs.thread_set.ThreadSet.has.Goals as goal

pub returns : goal.returns
returns c = has-test c.args.self.0 c.args.thread c.bit.result (search rules) c.bit.ensures.one c.bit.ensures.none
