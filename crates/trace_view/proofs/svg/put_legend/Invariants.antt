use Rattle.std.proofs.Common.{◌≡◌, ◌-◌, ◌++◌}
use Rattle.std.specs.List.{flat_map, range_with_len}
use Rattle.trace_view.specs.Svg.{legend_line}
use Rattle.trace_view.proofs.svg.put_legend.Given as goal

abbrev pub invariant-loop-shade : goal.invariant-loop-shade
invariant-loop-shade l = l.text.items ≡ l.fn.text.items ++ flat_map (legend_line l.threads) (range_with_len 1 (l.shade - 1))
