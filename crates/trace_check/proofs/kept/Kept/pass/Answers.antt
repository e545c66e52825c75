use Rattle.std.proofs.Common.{◌≡◌, Some, sym, ◌∙◌, subst}
use Rattle.std.specs.Ordering.{nat_cmp}
use Rattle.std.specs.BTreeMap.{get}
use Rattle.trace_check.specs.Before.{joins, opened}
use Rattle.trace_check.specs.Checking.{member_known, running}
use Rattle.trace_check.proofs.kept.Kept.pass.Goals as goal
use Rattle.trace_check.proofs.PassedBarrier.{passed_seated, passed_still}

pub returns-in_default-clause-learned : goal.returns-in_default-clause-learned
returns-in_default-clause-learned c = λ event passes past run known unbroken keeps. passed_still c.args.self.now event passes past known

pub returns-in_default-2-clause-learned : goal.returns-in_default-2-clause-learned
returns-in_default-2-clause-learned c = λ event passes past run known unbroken keeps. passed_still c.args.self.now event passes past known

pub returns-in_default-copied-clause-learned : goal.returns-in_default-copied-clause-learned
returns-in_default-copied-clause-learned c = λ event passes past run known unbroken keeps. passed_still c.args.self.now event passes past known

pub returns-in_default-copied-2-clause-learned : goal.returns-in_default-copied-2-clause-learned
returns-in_default-copied-2-clause-learned c = λ event passes past run known unbroken keeps. passed_still c.args.self.now event passes past known

pub returns-in-Some-copied-clause-learned : goal.returns-in-Some-copied-clause-learned
returns-in-Some-copied-clause-learned c = λ event passes past run known unbroken keeps.
    let runs : running (joins past) (opened event.thread past) ≡ Some c.in-Some-Some.field-0 = sym run ∙ c.in-Some-Some.is in
    let key : get nat_cmp c.args.self.now.members c.member_key.result ≡ member_known c.in-Some-Some.seat.region c.in-Some-Some.seat.index past =
    subst (λ k. get nat_cmp c.args.self.now.members k ≡ member_known c.in-Some-Some.seat.region c.in-Some-Some.seat.index past) (sym c.member_key.ensures.key)
    (known.members c.in-Some-Some.seat.region c.in-Some-Some.seat.index c.member_key.ensures.fits) in
    let here : member_known c.in-Some-Some.seat.region c.in-Some-Some.seat.index past ≡ Some c.in-Some.member =
    sym key ∙ (sym c.get.ensures.value ∙ (sym c.copied.ensures ∙ c.in-Some.is)) in
    let there : get nat_cmp c.args.self.now.regions c.in-Some-Some.seat.region ≡ Some c.in-Some-copied.open = sym c.get-2.ensures.value ∙ (sym c.copied-2.ensures ∙ c.in-Some-copied.is) in
    let sits : c.in-Some-Some.field-0.seat ≡ Some c.in-Some-Some.seat = cc in
    passed_seated c.args.self.now c.put_region.new.regions event past c.in-Some-Some.field-0 c.in-Some-Some.seat c.in-Some.member c.in-Some-copied.open
    passes runs sits known unbroken keeps here there c.put_region.ensures
