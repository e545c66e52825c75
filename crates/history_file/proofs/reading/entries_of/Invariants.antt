use Rattle.std.proofs.Common.{◌≡◌}
use Rattle.history_file.specs.declared.file.TheConstants.{ENTRY_LIMIT}
use Rattle.history_file.specs.Reading.{entries_shape, run}
use Rattle.history_file.proofs.Loops.{with_front}
use Rattle.history_file.proofs.reading.entries_of.Given as goal

abbrev pub invariant-loop-entries : goal.invariant-loop-entries
invariant-loop-entries l = with_front l.entries.items (run (entries_shape l.threads l.more) l.total l.rest) ≡ run (entries_shape l.threads ENTRY_LIMIT) l.total l.bytes

abbrev pub decreases-loop-entries : goal.decreases-loop-entries
decreases-loop-entries l = l.more
