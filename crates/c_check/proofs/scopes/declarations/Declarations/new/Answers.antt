use Rattle.std.proofs.Common.{refl}
use Rattle.c_check.proofs.Visible.{none_visible}
use Rattle.c_check.proofs.scopes.declarations.Declarations.new.Goals as goal

pub invariant_of-result : goal.invariant_of-result
invariant_of-result c = rw (c.new.ensures.items, c.new-2.ensures.items) (none_visible _ (λ name. rw c.new-3.ensures.empty refl))
