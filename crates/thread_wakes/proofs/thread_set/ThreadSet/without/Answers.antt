use Rattle.std.proofs.Common.{rules}
use Rattle.thread_wakes.proofs.Sets.{bit-alone, without-this, without-others}
use Rattle.thread_wakes.proofs.thread_set.ThreadSet.without.Goals as goal

pub returns-clause-this : goal.returns-clause-this
returns-clause-this c =
    let alone = bit-alone c.args.thread c.bit.result c.bit.ensures.one c.bit.ensures.none in
    without-this c.args.self.0 c.args.thread c.bit.result (search rules) alone

pub returns-clause-others : goal.returns-clause-others
returns-clause-others c t =
    let alone = bit-alone c.args.thread c.bit.result c.bit.ensures.one c.bit.ensures.none in
    without-others c.args.self.0 c.args.thread c.bit.result t (search rules) alone
