use Rattle.std.proofs.Common.{◌≡◌, ℕ, List, [], ◌∷◌, ◌++◌, refl, sym, ◌∙◌, append_assoc}
use Rattle.std.specs.Prelude.{string_bytes}
use Rattle.std.specs.Fmt.{styled_text, styled_decimal, decimal}
use Rattle.std.proofs.lemmas.Result.{IfOk-weaker}
use Rattle.tool_report.specs.Layout.{left_in, right_in}
use Rattle.tool_report.proofs.Padding.{left-padded, right-padded}
use Rattle.tool_report.proofs.profile_report.count_line.Goals as goal

joined : (a b c d e : List ℕ) → a ≡ b → c ≡ d → a ++ (c ++ e) ≡ b ++ d ++ e
joined a b c d e first second = rw (first, second) (sym (append_assoc b d e))

pub returns : goal.returns
returns c =
    let name : styled_text c.laid_out.result c.args.name.now ≡ left_in 18 c.args.name.now = rw (c.laid_out.ensures) (left-padded c.args.name.now c.requires.short c.requires.plain) in
    let count : styled_decimal c.laid_out-2.result c.args.count ≡ right_in 10 (decimal c.args.count) = rw (c.laid_out-2.ensures) (right-padded 10 c.args.count refl) in
    IfOk-weaker c.format.result _ _ (λ line is. let told : string_bytes line ≡ styled_text c.laid_out.result c.args.name.now ++ (styled_decimal c.laid_out-2.result c.args.count ++ 10 ∷ []) = is in told ∙ joined _ _ _ _ _ name count) c.format.ensures.ok
