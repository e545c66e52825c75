use Rattle.std.proofs.Common.{◌≡◌, ◌-◌, None}
use Rattle.trace_format.proofs.Handing.{ReadsSo}
use Rattle.trace_format.proofs.reading.read_items.Given as goal

-- what was read so far was taken, and its items were handed on
abbrev pub invariant-loop-count : goal.invariant-loop-count
invariant-loop-count g l = record {
  reads_so : ReadsSo l.reader (g.S.Source.left l.fn.source) (g.S.Source.left l.source) (g.T.Taker.took l.fn.taker l.taker);
  open_still : l.reader.refusal ≡ None;
  steady : g.S.Source.faults l.source ≡ g.S.Source.faults l.fn.source;
}

-- how many bytes may come at most before they are refused
abbrev pub decreases-loop-count : goal.decreases-loop-count
decreases-loop-count g l = 157286427 - l.reader.taken
