use Rattle.std.proofs.Common.{◌∙◌, length, sym, ap}
use Rattle.std.specs.Option.{is_some}
use Rattle.std.proofs.lemmas.Bool.{ltb-false}
use Rattle.sync_objects.proofs.Places.{stands-read, belongs-apart, belongs-past}
use Rattle.sync_objects.proofs.entry.place_of.Goals as goal

pub returns-in-Some : goal.returns-in-Some
returns-in-Some c = stands-read c.args.entries.now c.args.id c.rank-place.result c.in-Some.entry.now c.rank-place.ensures.rank c.in-Some.ensures.lookup.3.0 c.in-Some.ensures.lookup.1 c.if-entry-id.true

pub returns-in_default : goal.returns-in_default
returns-in_default c = belongs-apart c.args.entries.now c.args.id c.rank-place.result c.in-Some.entry.now c.rank-place.ensures.rank c.in-Some.ensures.lookup.1 c.if-entry-id.false

pub returns-in_default-2 : goal.returns-in_default-2
returns-in_default-2 c = belongs-past c.args.entries.now c.args.id c.rank-place.result c.rank-place.ensures.rank
    (ltb-false c.rank-place.result (length c.args.entries.now) (sym (ap is_some (sym c.in_default.is) ∙ c.get.ensures.lookup.0)))
