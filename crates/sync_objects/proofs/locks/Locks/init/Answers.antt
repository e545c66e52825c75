use Rattle.std.proofs.Common.{◌∙◌, ◌-◌, ap, arith}
use Rattle.sync_objects.specs.Places.{lock_of}
use Rattle.sync_objects.specs.View.{LocksView}
use Rattle.sync_objects.proofs.Showing.{shows-free, view-equal}
use Rattle.sync_objects.proofs.locks.Locks.init.Goals as goal

pub invariant_of-self : goal.invariant_of-self
invariant_of-self c =
    let shown = shows-free c.self.inside.entries.items c.set_free.new.entries.items c.args.self.now.locks c.args.id (ap (λ (seen : LocksView). seen.locks) c.self.view_is) c.self.invariant.1 (c.hold.ensures ∙ ap (lock_of c.args.id) c.in-Absent.is) c.set_free.ensures.entries in
    (omega (arith, c.set_free.ensures.len, c.set_free.ensures.capacity, c.self.invariant.0, c.requires, ap (λ (seen : LocksView). seen.room) c.self.view_is), shown.rising)

pub returns-in-Absent-clause-done : goal.returns-in-Absent-clause-done
returns-in-Absent-clause-done c =
    let shown = shows-free c.self.inside.entries.items c.set_free.new.entries.items c.args.self.now.locks c.args.id (ap (λ (seen : LocksView). seen.locks) c.self.view_is) c.self.invariant.1 (c.hold.ensures ∙ ap (lock_of c.args.id) c.in-Absent.is) c.set_free.ensures.entries in
    view-equal _ _ shown.locks (ap (λ (seen : LocksView). seen.room - 1) c.self.view_is)
