use Rattle.std.proofs.Common.{List, ◌≡◌, ◌∙◌, length, arith}
use Rattle.ompt_calls.specs.declared.event.EventRecord.{EventRecord}
use Rattle.tool_report.specs.Moments.{moments_of}
use Rattle.tool_report.specs.Order.{AreRising}
use Rattle.tool_report.specs.Timeline.{column_letter}
use Rattle.tool_report.proofs.Fronts.{up_to, counts_on, next_front, column_is, letters_more}
use Rattle.tool_report.proofs.timeline_report.push_letters.Goals as goal

pub loop-column-preserved : goal.loop-column-preserved
loop-column-preserved c =
    let columns = c.args.columns in
    let span = c.args.span in
    let column = c.loop-column.column in
    let end = c.column_end.result in
    let past = c.passed-past.result in
    let counted : (events : List EventRecord) → AreRising events → c.args.moments.now ≡ moments_of events → past ≡ length (up_to end events) = λ events rising is. c.passed-past.ensures.front events rising is (counts_on columns span column c.loop-column.past end events c.column_end.ensures (c.loop-column.invariant.front events rising is)) in
    record {
      within = c.passed-past.ensures.within;
      front = λ events rising is. next_front columns span column past end events (omega arith) c.column_end.ensures (counted events rising is);
      text = λ events rising is.
          let letter = c.letter_before.ensures events is ∙ column_is columns span column past end events rising c.column_end.ensures (counted events rising is) in
          letters_more (column_letter columns span events) column c.letter_before.result c.args.text.now.items c.loop-column.text.items _ (c.loop-column.invariant.text events rising is) c.in_ok-push.ensures.items letter;
    }
