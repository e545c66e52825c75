use Rattle.std.proofs.Common.{◌<◌, refl, ap, ◌∙◌, length, arith}
use Rattle.std.proofs.lemmas.List.{get_or_default}
use Rattle.c_check.specs.Around.{no_construct}
use Rattle.c_check.proofs.Numbers.{fewer_open, last_below, more_ended}
use Rattle.c_check.proofs.constructs.arena.Constructs.leave.Goals as goal

pub invariant_of-self-in_err-outer : goal.invariant_of-self-in_err-outer
invariant_of-self-in_err-outer c = fewer_open _ _ _ _ _ _ c.in-Some.ensures.items c.self.invariant

pub index-requires : goal.index-requires
index-requires c =
    let below : c.in-Some.construct < length c.self.inside.older.items = last_below _ _ _ _ c.in-Some.ensures.items c.self.invariant.open_below in
    omega (arith, c.self.inside.older.ok.0)

pub invariant_of-self-in_err-reserve : goal.invariant_of-self-in_err-reserve
invariant_of-self-in_err-reserve c = rw c.in_err-reserve.ensures.items (fewer_open _ _ _ _ _ _ c.in-Some.ensures.items c.self.invariant)

pub invariant_of-self-in_err-add : goal.invariant_of-self-in_err-add
invariant_of-self-in_err-add c = rw (c.in_ok-reserve.ensures.items, c.in_err-add.ensures.err) (fewer_open _ _ _ _ _ _ c.in-Some.ensures.items c.self.invariant)

pub invariant_of-self-2 : goal.invariant_of-self-2
invariant_of-self-2 c =
    let below : c.in-Some.construct < length c.self.inside.older.items = last_below _ _ _ _ c.in-Some.ensures.items c.self.invariant.open_below in
    rw (c.in_ok-push.ensures.items, c.in_ok-reserve.ensures.items, c.in_ok-add.ensures.added)
    (more_ended _ _ _ _ _ _ c.in-Some.ensures.items c.self.invariant _ c.head.result.spot refl (c.in_ok-outer.ensures.items ∙ c.deref.ensures.value)
    (ap (λ it. it.spot) c.head.ensures ∙ ap (λ it. it.head.spot) (c.index.ensures ∙ get_or_default c.self.inside.older.items c.in-Some.construct _ no_construct below)))
