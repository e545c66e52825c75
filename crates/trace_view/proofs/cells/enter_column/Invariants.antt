use Rattle.std.proofs.Common.{◌≡◌, ◌++◌, drop, map, take}
use Rattle.trace_view.specs.Cells.{cell_later}
use Rattle.trace_view.proofs.cells.enter_column.Given as goal

abbrev pub invariant-loop-cell : goal.invariant-loop-cell
invariant-loop-cell l = l.cells ≡ map cell_later (take l.cell-index l.initial.cells) ++ drop l.cell-index l.initial.cells
