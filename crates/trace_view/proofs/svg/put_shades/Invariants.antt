use Rattle.std.proofs.Common.{◌≡◌, ◌-◌, ◌++◌}
use Rattle.std.specs.List.{flat_map, range_with_len}
use Rattle.trace_view.specs.Cells.{path_of}
use Rattle.trace_view.proofs.svg.put_shades.Given as goal

abbrev pub invariant-loop-shade : goal.invariant-loop-shade
invariant-loop-shade l = l.text.items ≡ l.fn.text.items ++ flat_map (path_of l.columns l.threads l.cells) (range_with_len 1 (l.shade - 1))
