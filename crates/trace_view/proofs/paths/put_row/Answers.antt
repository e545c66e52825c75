use Rattle.std.proofs.Common.{arith}
use Rattle.trace_view.specs.Cells.{mark_at}
use Rattle.trace_view.proofs.Ranges.{added}
use Rattle.trace_view.proofs.paths.put_row.Goals as goal

pub loop-column-preserved : goal.loop-column-preserved
loop-column-preserved c =
    added (mark_at c.args.mark c.args.cells.now c.args.thread) 0 c.loop-column.column c.loop-column.column c.args.text.now.items c.loop-column.text.items
    c.put_mark.new.text.items (omega arith) c.loop-column.invariant c.in_ok-put_mark.ensures
