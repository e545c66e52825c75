use Rattle.std.proofs.Common.{◌≡◌, ◌∙◌, Bool, true, cond, ap}
use Rattle.std.specs.List.{insert}
use Rattle.std.specs.Result.{is_ok}
use Rattle.sync_objects.specs.Places.{free_entry}
use Rattle.sync_objects.proofs.Places.{free-at, new-at}
use Rattle.sync_objects.proofs.entry.set_free.Goals as goal

pub returns-in-Ok-clause-entries : goal.returns-in-Ok-clause-entries
returns-in-Ok-clause-entries c = free-at c.args.entries.now.items c.deref.result.now c.args.id c.in-Ok.place c.index_mut.result.now c.deref.ensures.value c.in-Ok.ensures c.index_mut.ensures.value

pub returns-in-Err-clause-entries : goal.returns-in-Err-clause-entries
returns-in-Err-clause-entries c =
    let done : is_ok c.insert.result ≡ true = c.insert.ensures.succeeds c.requires.room in
    c.insert.ensures.items ∙ (ap (λ (ok : Bool). cond ok (insert c.args.entries.now.items c.in-Err.place (free_entry c.args.id)) c.args.entries.now.items) done ∙
    new-at c.args.entries.now.items c.deref.result.now c.args.id c.in-Err.place c.deref.ensures.value c.in-Err.ensures)
