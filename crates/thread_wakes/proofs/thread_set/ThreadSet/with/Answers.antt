use Rattle.thread_wakes.proofs.Sets.{bit-alone, with-this, with-others}
use Rattle.thread_wakes.proofs.thread_set.ThreadSet.with.Goals as goal

pub returns-clause-this : goal.returns-clause-this
returns-clause-this c =
    let alone = bit-alone c.args.thread c.bit.result c.bit.ensures.one c.bit.ensures.none in
    with-this c.args.self.0 c.args.thread c.bit.result alone

pub returns-clause-others : goal.returns-clause-others
returns-clause-others c t =
    let alone = bit-alone c.args.thread c.bit.result c.bit.ensures.one c.bit.ensures.none in
    with-others c.args.self.0 c.args.thread c.bit.result t alone
