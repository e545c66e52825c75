use Rattle.std.proofs.Common.{◌≡◌, ◌≤◌, ◌==◌, ◌∙◌, length, ap, arith}
use Rattle.std.proofs.lemmas.Bool.Decides.{nat_tests}
use Rattle.ompt_calls.specs.declared.event.EventRecord.{EventRecord}
use Rattle.tool_report.specs.Timeline.{span_of, state_line}
use Rattle.tool_report.proofs.Fronts.{kept_rising}
use Rattle.tool_report.proofs.Rows.{lines_of_parts, part_is, of_thread, row_more, row_none}
use Rattle.tool_report.proofs.timeline_report.timeline_text.Goals as goal
use Rattle.tool_report.proofs.timeline_report.timeline_text.Goals.{then-not-is_empty+in_ok-push_line, else-not-is_empty}

pub loop-thread-preserved : goal.loop-thread-preserved
loop-thread-preserved c =
    λ events kept.
    let moments = c.moments-moments.result.now in
    let is = c.moments-moments.ensures ∙ c.index-parts-thread.is ∙ part_is events c.args.parts.now c.loop-thread.thread c.index-parts-thread.result kept c.loop-thread-test.true in
    let rising = kept_rising (λ (event : EventRecord). event.thread == c.loop-thread.thread) events kept.shared.rising in
    elim c.if-not-is_empty.branch [
      | then-not-is_empty+in_ok-push_line w ↦
          let some : 1 ≤ length moments = grind (arith, nat_tests, w.if-not-is_empty.ensures) in
          row_more c.args.columns c.span_of-span.result c.loop-thread.thread events moments c.loop-thread.text.items c.if-not-is_empty.text.items
          (c.span_of-span.ensures.span events kept) is some (c.loop-thread.invariant events kept)
          (ap (λ text. text.items) w.text-is ∙ w.in_ok-push_line.ensures (of_thread c.loop-thread.thread events) rising is)
      | else-not-is_empty w ↦
          let none : length moments ≡ 0 = grind (arith, nat_tests, w.if-not-is_empty.ensures) in
          row_none c.args.columns c.loop-thread.thread events moments c.loop-thread.text.items c.if-not-is_empty.text.items is none (c.loop-thread.invariant events kept)
          (ap (λ text. text.items) w.text-is)
    ]

pub returns : goal.returns
returns c = λ events kept. c.loop-thread.invariant events kept ∙ lines_of_parts (state_line c.args.columns (span_of events)) events c.args.parts.now c.loop-thread.thread kept (omega arith)
