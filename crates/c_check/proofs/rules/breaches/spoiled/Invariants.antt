use Rattle.std.specs.Prelude.{map}
use Rattle.c_check.specs.declared.fault.CheckFault.TheVariants as fault
use Rattle.std.proofs.Common.{◌≡◌, length}
use Rattle.c_check.specs.Rules.{spoiled}
use Rattle.c_check.specs.Faults.{first_of}
use Rattle.c_check.proofs.rules.breaches.spoiled.Given as goal

abbrev pub invariant-loop-first : goal.invariant-loop-first
invariant-loop-first l = first_of l.found (map fault.BadLoop (spoiled l.slot l.around)) ≡ first_of l.fn.found (map fault.BadLoop (spoiled l.fn.slot l.fn.around))

abbrev pub decreases-loop-first : goal.decreases-loop-first
decreases-loop-first l = length l.around
