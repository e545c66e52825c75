use Rattle.std.proofs.Common.{ap, ◌∙◌}
use Rattle.std.proofs.lemmas.Result.{IfOk-weaker}
use Rattle.omp_model.specs.Records.{lines_of}
use Rattle.tool_report.proofs.lines.lines_text.Goals as goal

pub returns : goal.returns
returns c =
    IfOk-weaker c.text_of.result _ _ (λ text lines events shared. lines ∙ ap lines_of (c.as_slice.ensures.value ∙ c.in_ok-events.ensures events shared)) c.text_of.ensures
