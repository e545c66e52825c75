use Rattle.trace_view.proofs.Numbers.{has_next}
use Rattle.trace_view.proofs.bold.set_of.Goals as goal

pub loop-number-preserved : goal.loop-number-preserved
loop-number-preserved c =
    has_next c.loop-number.set c.add.new.set c.args.numbers.now c.loop-number.number-index c.loop-number-test.true c.loop-number.invariant
    c.in_ok-add.ensures
