use Rattle.std.proofs.Common.{◌≡◌, ◌++◌}
use Rattle.std.specs.List.{flat_map, range_with_len}
use Rattle.trace_view.specs.Svg.{thread_label}
use Rattle.trace_view.proofs.svg.put_labels.Given as goal

abbrev pub invariant-loop-thread : goal.invariant-loop-thread
invariant-loop-thread l = l.text.items ≡ l.fn.text.items ++ flat_map thread_label (range_with_len 0 l.thread)
