use Rattle.std.proofs.Common.{◌≡◌, ◌-◌, ◌≤◌, [], length, take}
use Rattle.std.specs.Io.KnownBytes.{Appends}
use Rattle.run_edges.proofs.writing.write_all.Given as goal

abbrev pub invariant-loop-taken : goal.invariant-loop-taken
invariant-loop-taken g l = record {
  within : l.taken ≤ length l.piece;
  appended : Appends (g.O.Sink.held l.initial.sink) (g.O.Sink.held l.sink) (take l.taken l.piece);
  steady : g.O.Sink.faults l.sink ≡ g.O.Sink.faults l.initial.sink;
  idle : l.piece ≡ [] → l.sink ≡ l.initial.sink;
}

abbrev pub decreases-loop-taken : goal.decreases-loop-taken
decreases-loop-taken g l = length l.piece - l.taken
