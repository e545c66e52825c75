use Rattle.std.proofs.Common.{ap, arith}
use Rattle.sync_objects.specs.View.{LocksView}
use Rattle.sync_objects.proofs.Showing.{shows-without, view-equal}
use Rattle.sync_objects.proofs.locks.Locks.destroy.Goals as goal

pub invariant_of-self : goal.invariant_of-self
invariant_of-self c =
    let shown = shows-without c.self.inside.entries.items c.set_hold.new.entries.items c.args.self.now.locks c.args.id (ap (λ (seen : LocksView). seen.locks) c.self.view_is) c.self.invariant.1 c.set_hold.ensures.entries in
    (omega (arith, c.set_hold.ensures.len, c.set_hold.ensures.capacity, c.self.invariant.0), shown.rising)

pub returns-in-Free-clause-done : goal.returns-in-Free-clause-done
returns-in-Free-clause-done c =
    let shown = shows-without c.self.inside.entries.items c.set_hold.new.entries.items c.args.self.now.locks c.args.id (ap (λ (seen : LocksView). seen.locks) c.self.view_is) c.self.invariant.1 c.set_hold.ensures.entries in
    view-equal _ _ shown.locks (ap (λ (seen : LocksView). seen.room) c.self.view_is)
