use Rattle.std.proofs.Common.{ℕ, ◌+◌, ◌*◌, List, [], ◌∷◌, ◌++◌, max, ◌∙◌, ap}
use Rattle.std.specs.Prelude.{codes}
use Rattle.std.specs.Fmt.{decimal}
use Rattle.trace_view.proofs.Ranges.{joined_head}
use Rattle.trace_view.proofs.svg.head.Goals as goal

pub returns : goal.returns
returns c =
    c.in_ok-extend_from_slice-2.ensures.items
    ∙ (ap (λ (text : List ℕ). text ++ (codes "<rect width=\"100%\" height=\"100%\" fill=\"#FFFFFF\"/>" ++ 10 ∷ [])) (c.in_ok-extend_from_slice.ensures.items
    ∙ ap (λ (text : List ℕ). text ++ (codes " font-family=\"sans-serif\" font-size=\"12\">" ++ 10 ∷ []))
    (ap (λ text. text.items) c.into_bytes-text.ensures.value ∙ (c.in_ok-head.ensures.ok
    ∙ ap (λ (width : ℕ). codes "<svg xmlns=\"http://www.w3.org/2000/svg\" viewBox=\"0 0 " ++ (decimal width ++ (32 ∷ [] ++ (decimal (c.args.threads * 20 + 172) ++ 34 ∷ []))))
    c.max-width.ensures)))
    ∙ joined_head (codes "<svg xmlns=\"http://www.w3.org/2000/svg\" viewBox=\"0 0 ") (decimal (max (c.args.columns * 6 + 40) 200)) (32 ∷ []) (decimal (c.args.threads * 20 + 172)) (34 ∷ [])
    (codes " font-family=\"sans-serif\" font-size=\"12\">") (codes "<rect width=\"100%\" height=\"100%\" fill=\"#FFFFFF\"/>") (10 ∷ []))
