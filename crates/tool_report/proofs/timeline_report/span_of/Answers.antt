use Rattle.std.proofs.Common.{◌≡◌, ◌≤◌, ◌∙◌, sym, length, arith}
use Rattle.std.proofs.lemmas.Bool.Decides.{nat_tests}
use Rattle.std.proofs.lemmas.List.{get_or_default}
use Rattle.tool_report.proofs.Spans.{span_with, span_without, some_without, span_of_parts, shares_rise}
use Rattle.tool_report.proofs.timeline_report.span_of.Goals as goal
use Rattle.tool_report.proofs.timeline_report.span_of.Goals.{then-not-is_empty, else-not-is_empty}

pub loop-part-preserved : goal.loop-part-preserved
loop-part-preserved c =
    let part = c.moments-moments.result.now in
    let at = c.moments-moments.ensures ∙ c.part-item.is ∙ get_or_default c.args.parts.now c.loop-part.part-index c.part-item.result part c.loop-part-test.true in
    elim c.if-not-is_empty.branch [
      | then-not-is_empty w ↦
          let some : 1 ≤ length part = grind (arith, nat_tests, w.if-not-is_empty.ensures) in
          record {
            few = omega (arith, w.span-is, w.max-span.ensures, w.from.ensures, w.if-not-is_empty.element_fits, c.loop-part.invariant.few);
            some = λ thread d below has. omega (arith, w.span-is, w.max-span.ensures);
            span = λ shares rise are.
                let before = c.loop-part.invariant.span shares rise are in
                let with = span_with shares c.args.parts.now c.loop-part.part-index part (record { seq = 0; state = 0 }) rise are c.loop-part-test.true at some in
                omega (arith, before, with, w.span-is, w.max-span.ensures, w.from.ensures);
          }
      | else-not-is_empty w ↦
          let none : length part ≡ 0 = grind (arith, nat_tests, w.if-not-is_empty.ensures) in
          record {
            few = omega arith;
            some = λ thread d below has. omega (arith, w.span-is, c.loop-part.invariant.some thread d (some_without c.args.parts.now c.loop-part.part-index part thread d c.loop-part-test.true at none below has) has);
            span = λ shares rise are. w.span-is ∙ c.loop-part.invariant.span shares rise are ∙ sym (span_without shares c.args.parts.now c.loop-part.part-index part are c.loop-part-test.true at none);
          }
    ]

pub returns-clause-span : goal.returns-clause-span
returns-clause-span c = λ events kept.
    c.loop-part.invariant.span kept.shares (shares_rise events kept.shares kept.shared) kept.kept ∙ span_of_parts events c.args.parts.now c.loop-part.part-index kept (omega arith)
