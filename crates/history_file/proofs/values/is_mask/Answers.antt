use Rattle.std.proofs.Common.{◌∙◌, ◌≡◌, ℕ, true, sym, subst, arith}
use Rattle.history_file.specs.Reading.{always_below}
use Rattle.history_file.proofs.Masks.{always_next, always_none, mask_passed, mask_refused}
use Rattle.history_file.proofs.values.is_mask.Goals.{else-is_registered-via-then-is_registered+else-set_answer-ne-ALWAYS, else-is_registered-via-else-is_registered}
use Rattle.history_file.proofs.values.is_mask.Goals as goal

pub loop-number-init : goal.loop-number-init
loop-number-init c = always_none c.args.mask

pub returns-then-set_answer-ne-ALWAYS : goal.returns-then-set_answer-ne-ALWAYS
returns-then-set_answer-ne-ALWAYS c =
    mask_refused c.args.mask c.loop-number.number c.loop-number-test.true (sym c.is_registered.ensures ∙ c.if-is_registered.true) (λ five. c.if-set_answer-ne-ALWAYS.true (c.set_answer.ensures ∙ five))

pub loop-number-preserved : goal.loop-number-preserved
loop-number-preserved c =
    always_next c.args.mask c.loop-number.number c.loop-number.invariant
    (λ registered.
    elim c.else-is_registered.branch [
      | else-is_registered-via-then-is_registered+else-set_answer-ne-ALWAYS w ↦ sym w.set_answer.ensures ∙ w.if-set_answer-ne-ALWAYS.false
      | else-is_registered-via-else-is_registered w ↦ absurd (cc (c.is_registered.ensures, w.if-is_registered.false))
    ])

pub returns : goal.returns
returns c =
    let all : c.loop-number.number ≡ 64 = omega arith in
    mask_passed c.args.mask (subst (λ (n : ℕ). always_below c.args.mask n ≡ true) all c.loop-number.invariant)
