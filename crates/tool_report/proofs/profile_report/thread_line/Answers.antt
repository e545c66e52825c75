use Rattle.std.proofs.Common.{◌≡◌, ◌==◌, ℕ, List, [], ◌∷◌, ◌++◌, codes, refl, sym, ◌∙◌, append_assoc, if◌then◌else◌, arith, false}
use Rattle.std.specs.Prelude.{string_bytes}
use Rattle.std.specs.Fmt.{styled_decimal, decimal}
use Rattle.std.proofs.lemmas.Bool.Decides.{nat_tests}
use Rattle.std.proofs.lemmas.Result.{IfOk-weaker}
use Rattle.tool_report.specs.Layout.{right_in}
use Rattle.tool_report.proofs.Padding.{right-padded}
use Rattle.tool_report.proofs.profile_report.thread_line.Goals as goal

joined : (w a b c d e : List ℕ) → a ≡ b → c ≡ d → w ++ (a ++ (c ++ e)) ≡ w ++ b ++ d ++ e
joined w a b c d e first second = rw (first, second) (sym (append_assoc w b (d ++ e)) ∙ sym (append_assoc (w ++ b) d e))

some : (count : ℕ) (line : List ℕ) → (count ≡ 0 → ⊥) → line ≡ (if count == 0 then [] else line)
some count line more = rw (not-none count more) refl
  where
    not-none : (n : ℕ) → (n ≡ 0 → ⊥) → (n == 0) ≡ false
    not-none n more = grind (arith, nat_tests)

pub returns : goal.returns
returns c =
    let thread : styled_decimal c.laid_out.result c.args.thread ≡ right_in 12 (decimal c.args.thread) = rw (c.laid_out.ensures) (right-padded 12 c.args.thread refl) in
    let count : styled_decimal c.laid_out-2.result c.args.count ≡ right_in 10 (decimal c.args.count) = rw (c.laid_out-2.ensures) (right-padded 10 c.args.count refl) in
    IfOk-weaker c.format.result _ _ (λ line is. let told : string_bytes line ≡ codes "thread" ++ (styled_decimal c.laid_out.result c.args.thread ++ (styled_decimal c.laid_out-2.result c.args.count ++ 10 ∷ [])) = is in told ∙ joined (codes "thread") _ _ _ _ (10 ∷ []) thread count ∙ some c.args.count _ c.if-count-eq0.false) c.format.ensures.ok
