use Rattle.std.specs.Prelude.{map}
use Rattle.c_check.specs.declared.fault.CheckFault.TheVariants as fault
use Rattle.std.proofs.Common.{◌≡◌, drop}
use Rattle.c_check.specs.Rules.{not_listed}
use Rattle.c_check.specs.Faults.{first_of}
use Rattle.c_check.proofs.rules.breaches.not_listed.Given as goal

abbrev pub invariant-loop-used : goal.invariant-loop-used
invariant-loop-used l = first_of l.found (map fault.NotListed (not_listed l.loops (drop l.used-index l.unlisted))) ≡ first_of l.fn.found (map fault.NotListed (not_listed l.fn.loops l.fn.unlisted))
