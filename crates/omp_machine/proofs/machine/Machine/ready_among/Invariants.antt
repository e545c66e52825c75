use Rattle.std.proofs.Common.{◌≡◌, ◌-◌}
use Rattle.omp_model.specs.Serial.{enabled_among}
use Rattle.omp_machine.proofs.machine.Machine.ready_among.Given as goal

-- what is left of the search
abbrev pub invariant-loop-thread : goal.invariant-loop-thread
invariant-loop-thread l = enabled_among l.self.state l.from (l.end - l.from) ≡ enabled_among l.self.state l.thread (l.end - l.thread)
