use Rattle.std.proofs.Common.{ap, ◌∙◌}
use Rattle.trace_view.proofs.MarkTexts.{marked}
use Rattle.trace_view.proofs.chrome.chrome_event.Goals as goal

pub returns : goal.returns
returns c = ap (λ text. text.items) c.into_bytes.ensures.value ∙ (c.in_ok-text.ensures.ok
    ∙ marked c.args.event.now c.slice_mark.result c.own_marks-first.result.0 c.own_marks-first.result.1
    (c.slice_mark.ensures c.args.event.now.thread) (c.own_marks-first.ensures c.args.event.now.thread))
