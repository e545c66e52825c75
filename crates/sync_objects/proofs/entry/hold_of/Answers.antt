use Rattle.std.proofs.Common.{◌≡◌, ◌∙◌, ℕ, Some, slice_get, sym, ap, subst}
use Rattle.std.proofs.lemmas.Option.{get_or_from_slice_get}
use Rattle.sync_objects.specs.declared.entry.Entry.{Entry}
use Rattle.sync_objects.proofs.Places.{hold-here, hold-none}
use Rattle.sync_objects.proofs.entry.hold_of.Goals as goal

pub returns-in-Ok : goal.returns-in-Ok
returns-in-Ok c =
    let there = subst (λ (k : ℕ). slice_get c.args.entries.now k ≡ Some c.in-Ok.ensures.there.0) c.in-Ok.ensures.ranked c.in-Ok.ensures.there.1 in
    let here = hold-here c.args.entries.now c.args.id c.in-Ok.ensures.there.0 there c.in-Ok.ensures.there.2 in
    ap (λ (entry : Entry). entry.hold) (get_or_from_slice_get c.args.entries.now c.in-Ok.place c.in-Ok.ensures.there.0 _ c.in-Ok.ensures.there.1) ∙ sym here

pub returns-in-Err : goal.returns-in-Err
returns-in-Err c = sym (hold-none c.args.entries.now c.args.id c.requires (λ entry there. c.in-Err.ensures.apart entry (subst (λ (k : ℕ). slice_get c.args.entries.now k ≡ Some entry) (sym c.in-Err.ensures.ranked) there)))
