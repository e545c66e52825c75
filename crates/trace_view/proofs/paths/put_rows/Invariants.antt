use Rattle.std.proofs.Common.{◌≡◌, ◌++◌}
use Rattle.std.specs.List.{flat_map, range_with_len}
use Rattle.trace_view.specs.Cells.{row_text}
use Rattle.trace_view.proofs.paths.put_rows.Given as goal

abbrev pub invariant-loop-thread : goal.invariant-loop-thread
invariant-loop-thread l = l.text.items ≡ l.fn.text.items ++ flat_map (row_text l.mark l.columns l.cells) (range_with_len 0 l.thread)
