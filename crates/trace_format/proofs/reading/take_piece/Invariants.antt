use Rattle.std.proofs.Common.{◌≡◌, ◌≤◌, ◌-◌, ◌++◌, ℕ, List, length, take, None}
use Rattle.trace_format.specs.Handing.{HandsOn}
use Rattle.trace_format.proofs.reading.take_piece.Given as goal

-- the piece was taken so far, and its items were handed on
abbrev pub invariant-loop-used : goal.invariant-loop-used
invariant-loop-used g l = record {
  within : l.used ≤ length l.piece;
  open_still : l.reader.refusal ≡ None;
  took :
      (start : _) (bytes : List ℕ) → HandsOn l.fn.reader bytes (g.T.Taker.took start l.fn.taker) →
      HandsOn l.reader (bytes ++ take l.used l.piece) (g.T.Taker.took start l.taker);
}

abbrev pub decreases-loop-used : goal.decreases-loop-used
decreases-loop-used g l = length l.piece - l.used
