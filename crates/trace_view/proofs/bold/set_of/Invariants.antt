use Rattle.std.proofs.Common.{take}
use Rattle.trace_view.specs.Bold.{HasNumbers}
use Rattle.trace_view.proofs.bold.set_of.Given as goal

abbrev pub invariant-loop-number : goal.invariant-loop-number
invariant-loop-number l = HasNumbers l.set (take l.number-index l.numbers)
