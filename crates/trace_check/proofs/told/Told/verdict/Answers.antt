use Rattle.std.proofs.Common.{◌≡◌, Some, MatchResult, sym, subst, ◌∙◌}
use Rattle.trace_format.specs.declared.trace.EndMark.{EndMark}
use Rattle.trace_check.specs.Nested.{IsFirstBreach, Nested}
use Rattle.trace_check.proofs.Stages.{whole_checks, whole_end}
use Rattle.trace_check.proofs.told.Told.verdict.Goals as goal

pub returns-in-Some-Some : goal.returns-in-Some-Some
returns-in-Some-Some c trace knows =
    let e : Some c.in-Some-Some.end ≡ Some trace.end = sym c.in-Some-Some.is-1 ∙ whole_end c.args.self.now trace knows in
    let same : c.in-Some-Some.end ≡ trace.end = cc in
    subst (λ (end : EndMark). MatchResult c.verdict.result (λ done. Nested trace.header trace.events end) (IsFirstBreach trace.header trace.events end)) same
    (c.verdict.ensures trace.header trace.events (whole_checks c.args.self.now trace c.in-Some-Some.checker c.in-Some-Some.is-0 knows))

pub returns-in_default : goal.returns-in_default
returns-in_default c trace knows =
    let e = sym (whole_end c.args.self.now trace knows) ∙ c.in_default.is-1 in
    absurd (cc)
