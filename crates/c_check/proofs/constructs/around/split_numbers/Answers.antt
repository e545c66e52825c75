use Rattle.std.proofs.Common.{◌<◌, arith, length}
use Rattle.c_check.proofs.Numbers.{last_below, outer_below}
use Rattle.c_check.proofs.constructs.around.split_numbers.Goals as goal

pub returns-in_err-first-clause-split : goal.returns-in_err-first-clause-split
returns-in_err-first-clause-split c =
    let below : c.in_ok-last.last.now < length c.args.older.now = last_below _ _ _ _ c.in_ok-last.ensures.cases.0 c.requires in
    absurd (omega (arith, below, c.in_err-first.ensures.lookup.3))

pub returns-clause-below : goal.returns-clause-below
returns-clause-below c = outer_below _ _ _ _ c.in_ok-last.ensures.cases.0 c.requires
