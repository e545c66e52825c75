use Rattle.std.proofs.Common.{◌≡◌, length, arith}
use Rattle.std.proofs.lemmas.List.{reverse-append}
use Rattle.c_check.proofs.Visible.{one_more_visible}
use Rattle.c_check.proofs.scopes.declarations.Declarations.declare.Goals as goal

pub invariant_of-self-2 : goal.invariant_of-self-2
invariant_of-self-2 c =
    let slot : c.in-Ok.slot ≡ length c.self.inside.all.items = omega (arith, c.in-Ok.ensures) in
    rw (c.in_ok-push-2.ensures.items, c.in_ok-push.ensures.items, c.in_ok-reserve-2.ensures.items, c.in_ok-reserve.ensures.items, reverse-append)
    (one_more_visible _ _ _ c.self.invariant (record { declared = record { name = c.args.name; thing = c.args.thing; slot = c.in-Ok.slot; level = c.self.inside.level }; hidden = c.in_ok-hidden.hidden }) _ slot c.in_ok-hidden.ensures.old c.in_ok-hidden.ensures.updates.0)
