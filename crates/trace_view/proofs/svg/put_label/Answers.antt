use Rattle.std.proofs.Common.{ℕ, ◌+◌, [], ◌∷◌, ◌++◌, ◌∙◌, ap}
use Rattle.std.specs.Prelude.{codes}
use Rattle.std.specs.Fmt.{decimal}
use Rattle.trace_view.specs.Svg.{middle_of}
use Rattle.trace_view.proofs.Pictures.{extended}
use Rattle.trace_view.proofs.Ranges.{joined_six}
use Rattle.trace_view.proofs.svg.put_label.Goals as goal

pub returns : goal.returns
returns c = extended c.extend_from_slice.result _ _ _ _ c.extend_from_slice.ensures.items (c.as_bytes.ensures.value ∙ (c.in_ok-label.ensures.ok
    ∙ (ap (λ (middle : ℕ). codes "<text x=\"6\" y=\"" ++ (decimal (middle + 4) ++ (codes "\">" ++ (decimal c.args.thread ++ (codes "</text>" ++ 10 ∷ []))))) c.middle_of.ensures
    ∙ joined_six (codes "<text x=\"6\" y=\"") (decimal (middle_of c.args.thread + 4)) (codes "\">") (decimal c.args.thread) (codes "</text>") (10 ∷ []))))
