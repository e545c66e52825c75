use Rattle.std.proofs.Common.{◌≡◌}
use Rattle.sync_objects.proofs.Rising.{critical_entries}
use Rattle.sync_objects.proofs.locks.Locks.new.Given as goal

abbrev pub invariant-loop-before : goal.invariant-loop-before
invariant-loop-before l = l.entries.items ≡ critical_entries l.before
