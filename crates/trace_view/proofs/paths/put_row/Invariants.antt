use Rattle.std.proofs.Common.{◌≡◌, ◌++◌}
use Rattle.std.specs.List.{flat_map, range_with_len}
use Rattle.trace_view.specs.Cells.{mark_at}
use Rattle.trace_view.proofs.paths.put_row.Given as goal

abbrev pub invariant-loop-column : goal.invariant-loop-column
invariant-loop-column l = l.text.items ≡ l.fn.text.items ++ flat_map (mark_at l.mark l.cells l.thread) (range_with_len 0 l.column)
