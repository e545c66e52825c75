use Rattle.std.proofs.Common.{◌+◌, ◌*◌, [], ◌∷◌, ◌∙◌}
use Rattle.std.specs.Prelude.{codes}
use Rattle.std.specs.Fmt.{decimal}
use Rattle.trace_view.specs.Svg.{colour_of, shade_text}
use Rattle.trace_view.proofs.Pictures.{extended}
use Rattle.trace_view.proofs.Ranges.{joined_ten}
use Rattle.trace_view.proofs.svg.put_legend_line.Goals as goal

pub returns : goal.returns
returns c = extended c.extend_from_slice.result _ _ _ _ c.extend_from_slice.ensures.items (c.as_bytes.ensures.value ∙ (c.in_ok-line.ensures.ok
    ∙ joined_ten (codes "<path stroke=\"") c.colour_of-colour.result.now (codes "\" stroke-width=\"10\" d=\"M30 ")
    (decimal (c.args.threads * 20 + c.args.shade * 16)) (codes "h12\"/><text x=\"48\" y=\"")
    (decimal (c.args.threads * 20 + c.args.shade * 16 + 4)) (codes "\">") c.shade_text-name.result.now (codes "</text>") (10 ∷ [])
    (colour_of c.args.shade) (shade_text c.args.shade) c.colour_of-colour.ensures c.shade_text-name.ensures))
