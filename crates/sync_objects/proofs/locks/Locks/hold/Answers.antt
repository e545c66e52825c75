use Rattle.std.proofs.Common.{◌∙◌, List, sym, ap}
use Rattle.sync_objects.specs.declared.entry.Entry.{Entry}
use Rattle.sync_objects.specs.Owners.{look_up}
use Rattle.sync_objects.specs.Places.{lock_of, hold_of}
use Rattle.sync_objects.specs.View.{LocksView}
use Rattle.sync_objects.proofs.Showing.{shown-look_up}
use Rattle.sync_objects.proofs.locks.Locks.hold.Goals as goal

pub returns : goal.returns
returns c =
    sym (ap (λ (seen : LocksView). look_up seen.locks c.args.id) c.self.view_is) ∙ (shown-look_up c.self.inside.entries.items c.args.id c.self.invariant.1 ∙
    ap (lock_of c.args.id) (sym (c.hold_of.ensures ∙ ap (λ (list : List Entry). hold_of list c.args.id) c.deref.ensures.value)))
