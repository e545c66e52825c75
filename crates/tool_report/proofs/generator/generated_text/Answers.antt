use Rattle.std.proofs.Common.{◌≡◌, ℕ, List, ◌++◌, arith, rules, sym, ap, ◌∙◌}
use Rattle.tool_report.proofs.Programs.{program_to, program-begins, program-more, program-ends}
use Rattle.tool_report.proofs.generator.generated_text.Goals as goal

joined : (a b c d : List ℕ) → a ≡ b → c ≡ d → a ++ c ≡ b ++ d
joined a b c d first second = cc

pub loop-number-init : goal.loop-number-init
loop-number-init c = rw program-begins (search rules)

pub loop-number-preserved : goal.loop-number-preserved
loop-number-preserved c = c.in_ok-extend_from_slice-2.ensures.items ∙ joined _ _ _ _ c.loop-number.invariant (c.as_bytes-in-loop-number.ensures.value ∙ c.block_after.ensures) ∙ sym (program-more c.loop-number.number)

pub returns : goal.returns
returns c =
    let same : c.loop-number.number ≡ c.args.blocks = omega arith in
    c.in_ok-extend_from_slice-3.ensures.items ∙ joined _ _ _ _ (c.loop-number.invariant ∙ ap program_to same) (c.as_bytes-2.ensures.value) ∙ program-ends c.args.blocks
