use Rattle.std.proofs.Common.{◌≡◌, false, sym, ◌∙◌, subst}
use Rattle.trace_check.specs.Before.{is_open_region}
use Rattle.trace_check.specs.Checking.{IsRegion, OpenRegion}
use Rattle.trace_check.proofs.kept.Kept.keeps_teams.Goals as goal
use Rattle.trace_check.proofs.Names.{ends_open}
use Rattle.trace_check.proofs.TeamEnds.{team_left}
use Rattle.trace_check.proofs.Tests.{apart}

pub returns-then-open-from : goal.returns-then-open-from
returns-then-open-from c = λ past t known unbroken keeps.
    let r = c.in-ParallelEnd.region.identity in
    let kept : OpenRegion r past c.in-Some.open.now = subst (λ o. IsRegion r past o) (sym c.in-Some.ensures.value) (known.things.regions r) in
    rw c.in-ParallelEnd.is (c.have_left.ensures.each ∙ team_left c.args.self.now.members r c.in-Some-actual.actual past c.in-Some.open.now known.things.members unbroken kept c.in-Some-actual.is
    (c.if-open-from.true ∙ c.from.ensures) c.have_left.ensures.fits)

pub returns-in-None : goal.returns-in-None
returns-in-None c = λ past t known unbroken keeps.
    let r = c.in-ParallelEnd.region.identity in
    let shut : is_open_region r past ≡ false = subst (λ o. IsRegion r past o) (sym c.in-None.ensures.value) (known.things.regions r) in
    absurd (apart (is_open_region r past) (ends_open r t past _ unbroken (rw c.in-ParallelEnd.is at keeps)) shut)
