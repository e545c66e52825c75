use Rattle.std.proofs.Common.{ap, ◌∙◌}
use Rattle.std.specs.Fmt.{decimal}
use Rattle.trace_view.specs.NamedLines.{named_call}
use Rattle.trace_view.proofs.Naming.{joined_line}
use Rattle.trace_view.proofs.named_lines.event_line.Goals as goal

pub returns : goal.returns
returns c = ap (λ text. text.items) c.into_bytes.ensures.value ∙ (c.in_ok-line.ensures.ok
    ∙ joined_line (decimal c.args.event.now.seq) (decimal c.args.event.now.thread) (named_call c.args.event.now.call)
    c.from.result c.args.event.now.state c.from.ensures)
