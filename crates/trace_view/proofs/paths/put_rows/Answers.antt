use Rattle.std.proofs.Common.{arith}
use Rattle.trace_view.specs.Cells.{row_text}
use Rattle.trace_view.proofs.Ranges.{added}
use Rattle.trace_view.proofs.paths.put_rows.Goals as goal

pub loop-thread-preserved : goal.loop-thread-preserved
loop-thread-preserved c =
    added (row_text c.args.mark c.args.columns c.args.cells.now) 0 c.loop-thread.thread c.loop-thread.thread c.args.text.now.items c.loop-thread.text.items
    c.put_row.new.text.items (omega arith) c.loop-thread.invariant c.in_ok-put_row.ensures
