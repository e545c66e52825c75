use Rattle.std.proofs.Common.{◌≡◌, ◌==◌, ℕ, true, false, reverse, inl, inr, sym, ◌∙◌, subst, arith}
use Rattle.std.proofs.lemmas.Bool.Decides.{nat_tests}
use Rattle.trace_check.specs.Before.{is_just}
use Rattle.trace_check.specs.Nested.{IsFirstBreach, has_returned}
use Rattle.trace_check.proofs.Verdicts.{fails_so, told_breach, told_end, told_nested, told_open}
use Rattle.trace_check.proofs.checker.Checker.verdict.Goals as goal
use Rattle.trace_check.proofs.checker.Checker.verdict.Goals.{else-returned-via-then-returned+then-breach-eq14+else-is_at, else-returned-via-then-returned+else-breach-eq14, else-returned-via-else-returned, else-returned-2-via-then-returned-2+else-not-is_closed, else-returned-2-via-else-returned-2}

pub returns-then-is_at : goal.returns-then-is_at
returns-then-is_at c header events checks =
    told_end c.args.self.now header events c.args.end.now c.in-Some.breach c.in-Some.is checks (cc) c.if-breach-eq14.true (cc)

pub returns-else-returned : goal.returns-else-returned
returns-else-returned c header events checks =
    told_breach c.args.self.now header events c.args.end.now c.in-Some.breach c.in-Some.is checks
    (fails_so (has_returned c.args.end.now) (c.in-Some.breach.rule == 14) (is_just c.in-Some.breach.seq c.args.self.now.last)
    (elim c.else-returned.branch [
      | else-returned-via-then-returned+then-breach-eq14+else-is_at w ↦ inr (inr (sym w.is_at.ensures ∙ w.if-is_at.false))
      | else-returned-via-then-returned+else-breach-eq14 w ↦ inr (inl (let other = w.if-breach-eq14.false in grind (arith, nat_tests, other)))
      | else-returned-via-else-returned w ↦ inl (sym c.has_returned-returned.ensures ∙ w.if-returned.false)
    ]))

pub returns-then-not-is_closed : goal.returns-then-not-is_closed
returns-then-not-is_closed c header events checks =
    subst (λ (seq : ℕ). IsFirstBreach header events c.args.end.now (record { rule = 13; seq = seq })) (sym c.unwrap_or.ensures)
    (told_open c.args.self.now header events c.args.end.now c.in-None.is checks (cc)
    (λ whole. sym (c.is_closed.ensures (reverse events) whole.known whole.unbroken) ∙ c.if-not-is_closed.true))

pub returns-else-returned-2 : goal.returns-else-returned-2
returns-else-returned-2 c header events checks =
    told_nested c.args.self.now header events c.args.end.now c.in-None.is checks
    (elim c.else-returned-2.branch [
      | else-returned-2-via-then-returned-2+else-not-is_closed w ↦ (λ whole returned. sym (w.is_closed.ensures (reverse events) whole.known whole.unbroken) ∙ w.if-not-is_closed.false)
      | else-returned-2-via-else-returned-2 w ↦ (λ whole returned. let wrong : true ≡ false = sym returned ∙ (sym c.has_returned-returned.ensures ∙ w.if-returned-2.false) in cc)
    ])
