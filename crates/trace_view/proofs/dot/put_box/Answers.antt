use Rattle.std.proofs.Common.{[], ◌∷◌, ◌∙◌}
use Rattle.std.specs.Prelude.{codes}
use Rattle.std.specs.Fmt.{decimal}
use Rattle.tool_tasks.specs.Text.{kind_text}
use Rattle.trace_view.specs.Dot.{stroke_text}
use Rattle.trace_view.proofs.Pictures.{extended, joined_box}
use Rattle.trace_view.proofs.dot.put_box.Goals as goal

pub returns : goal.returns
returns c = extended c.extend_from_slice.result _ _ _ _ c.extend_from_slice.ensures.items (c.as_bytes.ensures.value ∙ (c.in_ok-line.ensures.ok
    ∙ joined_box (decimal c.args.task.now.identity) (codes " [label=<") (codes " ") c.kind_text-kind.result.now (codes "<BR/>work ")
    (decimal c.args.task.now.events) (codes ">, style=") c.stroke_text-stroke.result.now (codes "];") (10 ∷ [])
    (kind_text c.args.task.now.flags) (stroke_text c.args.is_bold) c.kind_text-kind.ensures c.stroke_text-stroke.ensures))
