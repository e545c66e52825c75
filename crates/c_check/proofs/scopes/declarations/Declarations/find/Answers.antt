use Rattle.std.proofs.Common.{◌∙◌}
use Rattle.c_check.proofs.Visible.{found_by_slot}
use Rattle.c_check.proofs.scopes.declarations.Declarations.find.Goals as goal

pub returns : goal.returns
returns c = c.declaration.ensures ∙ rw (← c.self.view_is) (found_by_slot _ _ _ c.self.invariant c.args.name c.in_ok-slot.field-0.now c.in_ok-slot.ensures.value)
