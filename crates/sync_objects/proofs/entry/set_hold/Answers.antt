use Rattle.sync_objects.proofs.Places.{set-at, none-at}
use Rattle.sync_objects.proofs.entry.set_hold.Goals as goal

pub returns-in-Ok-clause-entries : goal.returns-in-Ok-clause-entries
returns-in-Ok-clause-entries c = set-at c.args.entries.now.items c.deref.result.now c.args.id c.in-Ok.place c.index_mut.result.now c.args.hold c.deref.ensures.value c.in-Ok.ensures c.index_mut.ensures.value

pub returns-in_default-clause-entries : goal.returns-in_default-clause-entries
returns-in_default-clause-entries c = none-at c.args.entries.now.items c.deref.result.now c.args.id c.in_default.field-0 c.args.hold c.deref.ensures.value c.requires c.in_default.ensures
