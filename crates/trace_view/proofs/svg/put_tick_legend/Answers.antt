use Rattle.std.proofs.Common.{◌+◌, ◌*◌, [], ◌∷◌, ◌∙◌}
use Rattle.std.specs.Prelude.{codes}
use Rattle.std.specs.Fmt.{decimal}
use Rattle.trace_view.proofs.Pictures.{extended}
use Rattle.trace_view.proofs.Ranges.{joined_six}
use Rattle.trace_view.proofs.svg.put_tick_legend.Goals as goal

pub returns : goal.returns
returns c = extended c.extend_from_slice.result _ _ _ _ c.extend_from_slice.ensures.items (c.as_bytes.ensures.value ∙ (c.in_ok-line.ensures.ok
    ∙ joined_six (codes "<path stroke=\"#000000\" d=\"M36 ") (decimal (c.args.threads * 20 + 155)) (codes "v9\"/><text x=\"48\" y=\"") (decimal (c.args.threads * 20 + 164))
    (codes "\">task switch</text>") (10 ∷ [])))
