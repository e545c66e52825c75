use Rattle.std.proofs.Common.{◌∙◌, Some, refl, sym, ap, arith}
use Rattle.sync_objects.specs.declared.entry.Hold.TheVariants as hold
use Rattle.sync_objects.specs.View.{LocksView}
use Rattle.sync_objects.proofs.Showing.{lock-there, owner-none, shows-owner, view-equal}
use Rattle.sync_objects.proofs.locks.Locks.take.Goals as goal

pub invariant_of-self : goal.invariant_of-self
invariant_of-self c =
    let there = lock-there c.hold.result c.args.id c.in-Free.is in
    let shown = shows-owner c.self.inside.entries.items c.set_hold.new.entries.items c.args.self.now.locks c.args.id (hold.Owned c.args.task) (Some c.args.task) there.0 (ap (λ (seen : LocksView). seen.locks) c.self.view_is) c.self.invariant.1 (λ one. refl) (c.hold.ensures ∙ there.1) c.set_hold.ensures.entries in
    (omega (arith, c.set_hold.ensures.len, c.set_hold.ensures.capacity, c.self.invariant.0), shown.rising)

pub returns-in-Absent : goal.returns-in-Absent
returns-in-Absent c = view-equal _ _ (sym (owner-none c.args.self.now.locks c.args.id (Some c.args.task) c.in-Absent.ensures)) refl

pub returns-in-Free : goal.returns-in-Free
returns-in-Free c =
    let there = lock-there c.hold.result c.args.id c.in-Free.is in
    let shown = shows-owner c.self.inside.entries.items c.set_hold.new.entries.items c.args.self.now.locks c.args.id (hold.Owned c.args.task) (Some c.args.task) there.0 (ap (λ (seen : LocksView). seen.locks) c.self.view_is) c.self.invariant.1 (λ one. refl) (c.hold.ensures ∙ there.1) c.set_hold.ensures.entries in
    view-equal _ _ shown.locks (ap (λ (seen : LocksView). seen.room) c.self.view_is)
