use Rattle.std.proofs.Common.{◌≡◌, ℕ, sym, ap, ◌∙◌, Option, Some, None, cond}
use Rattle.c_check.specs.Seen.{slot_in}
use Rattle.c_check.specs.Faults.{is_same_spot}
use Rattle.c_check.proofs.Places.{slot_in-new, slot_in-again}
use Rattle.c_check.proofs.scopes.slots.Slots.add.Goals as goal

pub returns : goal.returns
returns c = λ named are spot.
    let none : slot_in named c.args.spot ≡ None = sym (are c.args.spot) ∙ sym c.in_default.ensures.value in
    c.in_ok-insert.ensures.updates.0 (spot.line, spot.column)
    ∙ ap (λ (old : Option ℕ). cond (is_same_spot c.args.spot spot) (Some c.args.slot) old) (are spot)
    ∙ sym (slot_in-new named c.args.spot c.args.slot spot none)

pub returns-in-Some : goal.returns-in-Some
returns-in-Some c = λ named are spot.
    let known : slot_in named c.args.spot ≡ Some c.in-Some.field-0.now = sym (are c.args.spot) ∙ sym c.in-Some.ensures.value in
    are spot ∙ sym (slot_in-again named c.args.spot c.args.slot c.in-Some.field-0.now spot known)
