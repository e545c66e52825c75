use Rattle.std.proofs.Common.{get_or, arith}
use Rattle.std.proofs.lemmas.List.{get_or_default}
use Rattle.std.proofs.lemmas.List.Edits.{map_over_more}
use Rattle.trace_view.specs.Cells.{cell_later, no_cell}
use Rattle.trace_view.proofs.cells.enter_column.Goals as goal

pub loop-cell-preserved : goal.loop-cell-preserved
loop-cell-preserved c =
    let cells = c.loop-cell.cells in
    let place = c.loop-cell.cell-index in
    map_over_more cell_later c.args.cells.now cells place (get_or cells place no_cell) (omega arith) c.loop-cell.invariant
    (get_or_default cells place no_cell (get_or cells place no_cell) (omega arith))
