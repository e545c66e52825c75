use Rattle.std.proofs.Common.{[], ◌∷◌, ◌++◌, ◌∙◌, ap}
use Rattle.std.specs.Prelude.{codes}
use Rattle.std.specs.Fmt.{decimal}
use Rattle.trace_view.proofs.Pictures.{joined_head}
use Rattle.trace_view.proofs.dot.head_lines.Goals as goal

pub returns : goal.returns
returns c = ap (λ text. text.items) c.into_bytes.ensures.value ∙ (c.in_ok-head.ensures.ok
    ∙ joined_head (codes "digraph tasks {" ++ 10 ∷ codes "label=<work ") (decimal c.args.work) (codes ", span ") (decimal c.args.span) (codes ">;")
    (10 ∷ codes "node [shape=box];") (10 ∷ []))
