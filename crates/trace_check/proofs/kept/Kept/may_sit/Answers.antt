use Rattle.std.proofs.Common.{◌≡◌, ℕ, ◌+◌, ◌<◌, ◌==◌, Bool, true, not, sym, ◌∙◌, ap, subst, arith}
use Rattle.std.specs.Prelude.{is_some}
use Rattle.trace_check.specs.Before.{Join, greatest_task}
use Rattle.trace_check.specs.Checking.{IsRegion, OpenRegion, fits_size}
use Rattle.trace_check.proofs.kept.Kept.may_sit.Goals as goal
use Rattle.trace_check.proofs.TeamTests.{may_sit}

truth : (r x : Bool) → r ≡ x → r ≡ true → x ≡ true
truth r x is holds = cc

pub returns : goal.returns
returns c = λ past known unbroken.
    let join : Join = record { region = c.args.seat.region; task = c.args.task; actual = c.args.actual; index = c.args.seat.index } in
    let kept : OpenRegion c.args.seat.region past c.in-Some.open.now = subst (λ o. IsRegion c.args.seat.region past o) (sym c.in-Some.ensures.value) (known.things.regions c.args.seat.region) in
    let same : (c.args.task == c.args.self.now.greatest_task + 1) ≡ true = truth _ _ c.is_next.ensures c.if-not-is_next.false in
    let next : (c.args.task == greatest_task past + 1) ≡ true = subst (λ (g : ℕ). (c.args.task == g + 1) ≡ true) known.things.greatest_task same in
    let below : c.args.seat.index < c.args.actual = omega arith in
    let fits : fits_size c.in-Some.open.now.actual c.args.actual ≡ true = truth _ _ c.is_size.ensures c.if-not-is_size.false in
    ap (λ (b : Bool). not b) (c.contains_key.ensures ∙ (rw c.member_key.ensures.key (ap is_some (known.things.members c.args.seat.region c.args.seat.index (omega (arith, below, c.ranges.actual.fits))))))
    ∙ may_sit join past c.in-Some.open.now kept unbroken next below fits
