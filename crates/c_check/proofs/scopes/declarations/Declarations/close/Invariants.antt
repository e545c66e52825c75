use Rattle.std.proofs.Common.{◌≡◌, length}
use Rattle.c_check.specs.Declarations.{scope_ended}
use Rattle.c_check.proofs.scopes.declarations.Declarations.close.Given as goal

abbrev pub invariant-loop-self : goal.invariant-loop-self
invariant-loop-self l = scope_ended l.self ≡ scope_ended l.fn.self

abbrev pub decreases-loop-self : goal.decreases-loop-self
decreases-loop-self l = length l.self.visible
