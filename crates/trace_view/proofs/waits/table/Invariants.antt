use Rattle.std.proofs.Common.{◌≡◌, ◌++◌, flat_map}
use Rattle.trace_view.specs.Waits.{waits_head}
use Rattle.trace_view.specs.WaitTallies.{line_of}
use Rattle.trace_view.proofs.waits.table.Given as goal

abbrev pub invariant-loop-key : goal.invariant-loop-key
invariant-loop-key l = l.text.items ++ flat_map (line_of l.last) l.key-iterator ≡ waits_head ++ flat_map (line_of l.last) l.tallies.entries
