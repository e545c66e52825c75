use Rattle.std.proofs.Common.{◌≡◌, ◌-◌, Some, slice_get, vec_len, arith}
use Rattle.std.proofs.lemmas.Grind.{common_steps}
use Rattle.c_check.proofs.Visible.{last_first, one_less_visible}
use Rattle.c_check.proofs.scopes.declarations.Declarations.uncover.Goals as goal

pub invariant_of-self-2 : goal.invariant_of-self-2
invariant_of-self-2 c =
    let last : slice_get c.self.inside.visible.items (vec_len c.self.inside.visible - 1) ≡ Some c.in-Some.last = grind (arith, common_steps) in
    let first = last_first c.self.inside.visible.items (vec_len c.self.inside.visible) c.in-Some.last c.self.inside.visible.ok.0 last in
    rw c.pop.ensures.rest (one_less_visible _ _ _ _ (rw first at c.self.invariant) _ c.in_ok-set_slot.ensures.set)
