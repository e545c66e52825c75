use Rattle.std.proofs.Common.{arith}
use Rattle.tool_report.proofs.Fronts.{more_front, front_ends, front_in}
use Rattle.tool_report.proofs.timeline_report.passed.Goals as goal

pub loop-passed-preserved : goal.loop-passed-preserved
loop-passed-preserved c = record {
  within = omega arith;
  front = λ events rising is least. more_front c.args.moments.now c.args.position c.loop-passed.passed (record { seq = 0; state = 0 }) events rising is c.loop-passed-test.true (omega (arith, c.if-from-position.true, c.from.ensures));
}

pub returns-else-from-position-clause-front : goal.returns-else-from-position-clause-front
returns-else-from-position-clause-front c = λ events rising is least.
    let low = c.loop-passed.invariant.front events rising is least in
    let high = front_ends c.args.moments.now c.args.position c.loop-passed.passed (record { seq = 0; state = 0 }) events rising is c.loop-passed-test.true (omega (arith, c.if-from-position.false, c.from.ensures)) in
    omega arith

pub returns-after-loop-passed-clause-front : goal.returns-after-loop-passed-clause-front
returns-after-loop-passed-clause-front c = λ events rising is least.
    let low = c.loop-passed.invariant.front events rising is least in
    let high = front_in c.args.moments.now c.args.position events is in
    omega arith
