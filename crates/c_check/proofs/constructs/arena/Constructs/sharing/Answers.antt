use Rattle.std.proofs.Common.{◌≡◌, ◌<◌, refl, sym, ap, ◌∙◌, length, arith}
use Rattle.std.specs.Prelude.{slice_index_or}
use Rattle.std.proofs.lemmas.List.{get_or-map, get_or_default, length-map}
use Rattle.c_check.specs.Around.{ended_in, ended_with, no_construct}
use Rattle.c_check.proofs.Standing.{found_at, none_at}
use Rattle.c_check.proofs.Numbers.{ended_at}
use Rattle.c_check.proofs.constructs.arena.Constructs.sharing.Goals as goal
use Rattle.c_check.proofs.constructs.arena.Constructs.sharing.Goals.{In_ok-number}

pub returns-in_err-number : goal.returns-in_err-number
returns-in_err-number c = rw (c.from_residual.ensures, ← c.self.view_is, none_at _ _ c.args.spot c.self.invariant.stand c.in_err-number.ensures) refl

within : (c : In_ok-number) → c.in_ok-number.number < length c.self.inside.ended.items
within c =
    let at = found_at _ _ c.args.spot c.self.invariant.stand _ c.in_ok-number.ensures in
    omega (arith, at.0, length-map c.self.inside.ended.items (ended_with c.self.inside.older.items))

pub index-ended-requires : goal.index-ended-requires
index-ended-requires c = omega (arith, within ((goal.at.index-ended-requires c).In_ok-number), c.self.inside.ended.ok.0)

pub index-construct-requires : goal.index-construct-requires
index-construct-requires c =
    let below = (ended_at _ _ c.self.inside.ended.items _ c.in_ok-number.number c.index-ended.result.now c.self.invariant (within ((goal.at.index-construct-requires c).In_ok-number))).0 in
    omega (arith, below, c.self.inside.older.ok.0, ap (λ it. it.construct) c.index-ended.ensures)

pub new-outer-requires : goal.new-outer-requires
new-outer-requires c =
    let below = (ended_at _ _ c.self.inside.ended.items _ c.in_ok-number.number c.index-ended.result.now c.self.invariant (within ((goal.at.new-outer-requires c).In_ok-number))).1 in
    rw (c.deref.ensures.value, c.deref-2.ensures.value, c.index-ended.ensures) below

pub returns : goal.returns
returns c =
    let older = c.self.inside.older.items in
    let ended = c.index-ended.result.now in
    let number = c.in_ok-number.number in
    let here = within ((goal.at.returns c).In_ok-number) in
    let at = found_at _ _ c.args.spot c.self.invariant.stand _ c.in_ok-number.ensures in
    let below = (ended_at _ _ c.self.inside.ended.items _ number ended c.self.invariant here).0 in
    let construct : c.index-construct.result.now ≡ slice_index_or older ended.construct no_construct =
    c.index-construct.ensures ∙ get_or_default older ended.construct c.index-construct.result.now no_construct (rw (← c.index-ended.ensures) at below) in
    let is_it : slice_index_or (ended_in older c.self.inside.ended.items) number (ended_with older ended) ≡ ended_with older ended =
    get_or-map (ended_with older) c.self.inside.ended.items number ended (ended_with older ended) here ∙ ap (ended_with older) (sym c.index-ended.ensures) in
    rw (c.sharing.ensures, c.new-outer.ensures, c.deref.ensures.value, c.deref-2.ensures.value, ← c.self.view_is, at.1 (ended_with older ended), is_it, construct) refl
