use Rattle.std.proofs.Common.{sym, ◌∙◌, subst}
use Rattle.trace_check.specs.Checking.{IsRegion, OpenRegion}
use Rattle.trace_check.proofs.kept.Kept.have_waited.Goals as goal
use Rattle.trace_check.proofs.TeamTests.{each_waited, passed}

pub returns-then-waits-open : goal.returns-then-waits-open
returns-then-waits-open c = λ past actual known unbroken is-open size.
    let kept : OpenRegion c.args.region past c.in-Some.open.now = subst (λ o. IsRegion c.args.region past o) (sym c.in-Some.ensures.value) (known.things.regions c.args.region) in
    passed c.args.region c.in-Some-actual.actual actual c.args.waits past c.in-Some.open.now kept c.in-Some-actual.is size c.if-waits-gt0.true c.if-waits-open.true

pub returns : goal.returns
returns c = λ past actual known unbroken is-open size.
    let kept : OpenRegion c.args.region past c.in-Some.open.now = subst (λ o. IsRegion c.args.region past o) (sym c.in-Some.ensures.value) (known.things.regions c.args.region) in
    c.each_has_waited.ensures.each ∙ each_waited c.args.self.now.members c.args.region c.in-Some-actual.actual actual c.args.waits past c.in-Some.open.now known.things.members unbroken is-open
    kept c.in-Some-actual.is size c.each_has_waited.ensures.fits
