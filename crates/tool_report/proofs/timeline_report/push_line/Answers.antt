use Rattle.std.proofs.Common.{[], ◌∷◌, ◌++◌, ◌∙◌, ap}
use Rattle.std.specs.Fmt.{styled_decimal}
use Rattle.std.specs.String.{string_bytes}
use Rattle.tool_report.proofs.Places.{right_places, line_joined}
use Rattle.tool_report.proofs.timeline_report.push_line.Goals as goal

pub returns : goal.returns
returns c = λ events rising is.
    let number = c.in_ok-number.ensures.ok ∙ ap (λ spec. styled_decimal spec c.args.thread ++ 32 ∷ []) c.laid_out.ensures ∙ ap (λ places. places ++ 32 ∷ []) (right_places 2 c.args.thread) in
    line_joined c.args.text.now.items (string_bytes c.in_ok-number.number) _ _ c.push.new.self.items number
    (cc (c.in_ok-push.ensures.items, c.in_ok-push_letters.ensures events rising is, c.in_ok-extend_from_slice.ensures.items, c.as_bytes.ensures.value))
