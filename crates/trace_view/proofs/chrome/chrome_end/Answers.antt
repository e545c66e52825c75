use Rattle.std.proofs.Common.{◌∷◌, ◌∙◌, ap}
use Rattle.std.specs.Prelude.{codes}
use Rattle.std.specs.Fmt.{decimal}
use Rattle.trace_view.proofs.MarkTexts.{joined_end}
use Rattle.trace_view.proofs.chrome.chrome_end.Goals as goal

pub returns : goal.returns
returns c = ap (λ text. text.items) c.into_bytes.ensures.value ∙ (c.in_ok-text.ensures.ok
    ∙ joined_end (44 ∷ 10 ∷ codes "{\"ph\":\"M\",\"pid\":1,\"name\":\"process_labels\",\"args\":{\"labels\":\"") (decimal c.args.end.now.detail)
    (codes "\"}}") (codes "]") c.from.result c.args.end.now.status c.from.ensures)
