use Rattle.std.proofs.Common.{◌≡◌, take}
use Rattle.history_file.specs.Progressing.{IsAt}
use Rattle.history_file.proofs.progress.Progress.take_all.Given as goal

-- the entries before were taken, in the same run
abbrev pub invariant-loop-entry : goal.invariant-loop-entry
invariant-loop-entry l = record { run_is : l.self.machine.run ≡ l.fn.self.machine.run; at : IsAt (take l.entry-index l.entries) l.self }
