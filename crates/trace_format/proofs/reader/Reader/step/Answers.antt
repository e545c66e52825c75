-- Each step ends in one of four ways: part of a field has come, the field is refused, it is accepted and another comes next, or the item is whole;
-- or the end mark has come already.
use Rattle.std.proofs.Common.{◌<◌, ◌+◌, ap, sym, ◌∙◌, subst, take, arith}
use Rattle.trace_format.specs.Flat.{stage_in}
use Rattle.trace_format.specs.Taking.{HasTaken, Reading}
use Rattle.trace_format.proofs.Accepted.{after_by, next_holds_by, next_taken, none_of, refused_by, some_of, whole_holds, whole_spells, whole_taken}
use Rattle.trace_format.proofs.Outcomes.{part_holds, part_taken}
use Rattle.trace_format.proofs.ReadAs.{item_is}
use Rattle.trace_format.proofs.Spelling.{take_bytes}
use Rattle.trace_format.proofs.Stepping.{behind, lacks, next_front, next_place, passed, takes_some, told, uses, whole_range}
use Rattle.trace_format.proofs.reader.Reader.step.Goals as goal

pub add-requires : goal.add-requires
add-requires c =
    let h = c.self.invariant (ap (λ (r : Reading). r.refusal) c.self.view_is ∙ c.requires.open) in
    let e = behind _ _ _ _ _ h c.as_slice.result.now c.args.piece.now c.as_slice.ensures (sym c.next_field.ensures ∙ c.in_default.is) in
    e.room

pub overflow_add-self : goal.overflow_add-self
overflow_add-self c =
    let h = c.self.invariant (ap (λ (r : Reading). r.refusal) c.self.view_is ∙ c.requires.open) in
    let e = behind _ _ _ _ _ h c.as_slice.result.now c.args.piece.now c.as_slice.ensures (sym c.next_field.ensures ∙ c.in_default.is) in
    omega (arith, e.few)

pub returns-in_default-clause-up_to : goal.returns-in_default-clause-up_to
returns-in_default-clause-up_to c =
    λ bytes items has.
    let h = c.self.invariant (ap (λ (r : Reading). r.refusal) c.self.view_is ∙ c.requires.open) in
    let e = behind _ _ _ _ _ h c.as_slice.result.now c.args.piece.now c.as_slice.ensures (sym c.next_field.ensures ∙ c.in_default.is) in
    (1, c.requires.some, after_by _ _ _ _ _ c.self.inside.refusal h c.args.piece.now c.add.new.self e.ended c.add.ensures c.requires.some bytes items (subst (λ (r : Reading). HasTaken r bytes items) (sym c.self.view_is) has))

pub overflow_sub-lacking : goal.overflow_sub-lacking
overflow_sub-lacking c =
    let h = c.self.invariant (ap (λ (r : Reading). r.refusal) c.self.view_is ∙ c.requires.open) in
    lacks _ _ _ _ _ h c.as_slice.result.now c.in-Some.coming c.width-width.result c.len.result c.as_slice.ensures (sym c.in-Some.ensures) c.width-width.ensures c.len.ensures

pub add-requires-2 : goal.add-requires-2
add-requires-2 c =
    let h = c.self.invariant (ap (λ (r : Reading). r.refusal) c.self.view_is ∙ c.requires.open) in
    let u = uses _ _ _ _ _ h c.as_slice.result.now c.in-Some.coming c.args.piece.now c.width-width.result c.len.result c.min-used.result c.as_slice.ensures (sym c.in-Some.ensures) c.width-width.ensures c.len.ensures c.min-used.ensures in
    u.room

pub overflow_add-self-2 : goal.overflow_add-self-2
overflow_add-self-2 c =
    let h = c.self.invariant (ap (λ (r : Reading). r.refusal) c.self.view_is ∙ c.requires.open) in
    let u = uses _ _ _ _ _ h c.as_slice.result.now c.in-Some.coming c.args.piece.now c.width-width.result c.len.result c.min-used.result c.as_slice.ensures (sym c.in-Some.ensures) c.width-width.ensures c.len.ensures c.min-used.ensures in
    omega (arith, u.few)

pub invariant_of-self-then-used-lacking : goal.invariant_of-self-then-used-lacking
invariant_of-self-then-used-lacking c =
    λ unrefused.
    let h = c.self.invariant (ap (λ (r : Reading). r.refusal) c.self.view_is ∙ c.requires.open) in
    let u = uses _ _ _ _ _ h c.as_slice.result.now c.in-Some.coming c.args.piece.now c.width-width.result c.len.result c.min-used.result c.as_slice.ensures (sym c.in-Some.ensures) c.width-width.ensures c.len.ensures c.min-used.ensures in
    part_holds _ _ _ _ _ c.in-Some.coming h (take c.min-used.result c.args.piece.now) c.add-2.new.self c.min-used.result u.due c.add-2.ensures u.count (u.short c.if-used-lacking.true) (take_bytes c.min-used.result c.args.piece.now (λ i. (c.type_inv.piece i).fits))

pub returns-then-used-lacking-clause-ok : goal.returns-then-used-lacking-clause-ok
returns-then-used-lacking-clause-ok c =
    λ bytes items has.
    let h = c.self.invariant (ap (λ (r : Reading). r.refusal) c.self.view_is ∙ c.requires.open) in
    let u = uses _ _ _ _ _ h c.as_slice.result.now c.in-Some.coming c.args.piece.now c.width-width.result c.len.result c.min-used.result c.as_slice.ensures (sym c.in-Some.ensures) c.width-width.ensures c.len.ensures c.min-used.ensures in
    part_taken _ _ _ _ _ c.self.inside.refusal c.in-Some.coming h (take c.min-used.result c.args.piece.now) c.add-2.new.self c.min-used.result u.due c.add-2.ensures u.count (u.short c.if-used-lacking.true) (ap (λ (r : Reading). r.refusal) c.self.view_is ∙ c.requires.open) bytes items (subst (λ (r : Reading). HasTaken r bytes items) (sym c.self.view_is) has)

pub of-requires : goal.of-requires
of-requires c =
    let h = c.self.invariant (ap (λ (r : Reading). r.refusal) c.self.view_is ∙ c.requires.open) in
    let u = uses _ _ _ _ _ h c.as_slice.result.now c.in-Some.coming c.args.piece.now c.width-width.result c.len.result c.min-used.result c.as_slice.ensures (sym c.in-Some.ensures) c.width-width.ensures c.len.ensures c.min-used.ensures in
    told _ _ _ _ _ h c.in-Some.coming c.args.piece.now _ _ _ c.add-2.new.self c.as_slice-2.result.now u c.if-used-lacking.false c.add-2.ensures c.as_slice-2.ensures

pub returns-then-not-passes-clause-up_to : goal.returns-then-not-passes-clause-up_to
returns-then-not-passes-clause-up_to c =
    λ bytes items has.
    let h = c.self.invariant (ap (λ (r : Reading). r.refusal) c.self.view_is ∙ c.requires.open) in
    let u = uses _ _ _ _ _ h c.as_slice.result.now c.in-Some.coming c.args.piece.now c.width-width.result c.len.result c.min-used.result c.as_slice.ensures (sym c.in-Some.ensures) c.width-width.ensures c.len.ensures c.min-used.ensures in
    (c.min-used.result, u.within, refused_by _ _ _ _ _ c.self.inside.refusal c.in-Some.coming h (take c.min-used.result c.args.piece.now) c.add-2.new.self c.as_slice-2.result.now c.min-used.result c.width-width.result c.of.result u.due c.add-2.ensures u.count (u.full c.if-used-lacking.false) c.as_slice-2.ensures (take_bytes c.min-used.result c.args.piece.now (λ i. (c.type_inv.piece i).fits)) (sym c.if-not-passes.ensures) c.of.ensures c.width-width.ensures bytes items (subst (λ (r : Reading). HasTaken r bytes items) (sym c.self.view_is) has))

pub overflow_add-self-4 : goal.overflow_add-self-4
overflow_add-self-4 c =
    let h = c.self.invariant (ap (λ (r : Reading). r.refusal) c.self.view_is ∙ c.requires.open) in
    let p : c.self.inside.place + 1 < 256 = next_place _ _ _ _ _ h in
    omega (arith, p)

pub next_field-requires-2 : goal.next_field-requires-2
next_field-requires-2 c =
    let h = c.self.invariant (ap (λ (r : Reading). r.refusal) c.self.view_is ∙ c.requires.open) in
    let u = uses _ _ _ _ _ h c.as_slice.result.now c.in-Some.coming c.args.piece.now c.width-width.result c.len.result c.min-used.result c.as_slice.ensures (sym c.in-Some.ensures) c.width-width.ensures c.len.ensures c.min-used.ensures in
    let k = passed _ _ _ _ _ h c.in-Some.coming c.args.piece.now _ _ _ c.add-2.new.self c.as_slice-2.result.now u c.if-used-lacking.false c.add-2.ensures c.as_slice-2.ensures (take_bytes c.min-used.result c.args.piece.now (λ i. (c.type_inv.piece i).fits)) (sym c.if-not-passes.ensures) in
    next_front _ _ _ _ _ h _ _ _ _ c.as_slice-3.result.now k c.as_slice-3.ensures

pub invariant_of-self-then-is_some : goal.invariant_of-self-then-is_some
invariant_of-self-then-is_some c =
    λ unrefused.
    let h = c.self.invariant (ap (λ (r : Reading). r.refusal) c.self.view_is ∙ c.requires.open) in
    let u = uses _ _ _ _ _ h c.as_slice.result.now c.in-Some.coming c.args.piece.now c.width-width.result c.len.result c.min-used.result c.as_slice.ensures (sym c.in-Some.ensures) c.width-width.ensures c.len.ensures c.min-used.ensures in
    let k = passed _ _ _ _ _ h c.in-Some.coming c.args.piece.now _ _ _ c.add-2.new.self c.as_slice-2.result.now u c.if-used-lacking.false c.add-2.ensures c.as_slice-2.ensures (take_bytes c.min-used.result c.args.piece.now (λ i. (c.type_inv.piece i).fits)) (sym c.if-not-passes.ensures) in
    let f = some_of c.next_field-2.result c.if-is_some.ensures in
    next_holds_by _ _ _ _ _ c.in-Some.coming f.0 h (take c.min-used.result c.args.piece.now) c.add-2.new.self c.as_slice-3.result.now c.min-used.result c.width-width.result k c.as_slice-3.ensures (sym c.next_field-2.ensures ∙ f.1) c.width-width.ensures

pub returns-then-is_some-clause-some : goal.returns-then-is_some-clause-some
returns-then-is_some-clause-some c =
    let h = c.self.invariant (ap (λ (r : Reading). r.refusal) c.self.view_is ∙ c.requires.open) in
    let u = uses _ _ _ _ _ h c.as_slice.result.now c.in-Some.coming c.args.piece.now c.width-width.result c.len.result c.min-used.result c.as_slice.ensures (sym c.in-Some.ensures) c.width-width.ensures c.len.ensures c.min-used.ensures in
    takes_some _ _ _ _ _ h _ _ _ _ _ u c.if-used-lacking.false

pub returns-then-is_some-clause-ok : goal.returns-then-is_some-clause-ok
returns-then-is_some-clause-ok c =
    λ bytes items has.
    let h = c.self.invariant (ap (λ (r : Reading). r.refusal) c.self.view_is ∙ c.requires.open) in
    let u = uses _ _ _ _ _ h c.as_slice.result.now c.in-Some.coming c.args.piece.now c.width-width.result c.len.result c.min-used.result c.as_slice.ensures (sym c.in-Some.ensures) c.width-width.ensures c.len.ensures c.min-used.ensures in
    let k = passed _ _ _ _ _ h c.in-Some.coming c.args.piece.now _ _ _ c.add-2.new.self c.as_slice-2.result.now u c.if-used-lacking.false c.add-2.ensures c.as_slice-2.ensures (take_bytes c.min-used.result c.args.piece.now (λ i. (c.type_inv.piece i).fits)) (sym c.if-not-passes.ensures) in
    let f = some_of c.next_field-2.result c.if-is_some.ensures in
    next_taken _ _ _ _ _ c.self.inside.refusal c.in-Some.coming f.0 h (take c.min-used.result c.args.piece.now) c.add-2.new.self c.as_slice-3.result.now c.min-used.result k u.count c.as_slice-3.ensures (sym c.next_field-2.ensures ∙ f.1) (ap (λ (r : Reading). r.refusal) c.self.view_is ∙ c.requires.open) bytes items (subst (λ (r : Reading). HasTaken r bytes items) (sym c.self.view_is) has)

pub item_in-item-requires : goal.item_in-item-requires
item_in-item-requires c =
    let h = c.self.invariant (ap (λ (r : Reading). r.refusal) c.self.view_is ∙ c.requires.open) in
    let u = uses _ _ _ _ _ h c.as_slice.result.now c.in-Some.coming c.args.piece.now c.width-width.result c.len.result c.min-used.result c.as_slice.ensures (sym c.in-Some.ensures) c.width-width.ensures c.len.ensures c.min-used.ensures in
    let k = passed _ _ _ _ _ h c.in-Some.coming c.args.piece.now _ _ _ c.add-2.new.self c.as_slice-2.result.now u c.if-used-lacking.false c.add-2.ensures c.as_slice-2.ensures (take_bytes c.min-used.result c.args.piece.now (λ i. (c.type_inv.piece i).fits)) (sym c.if-not-passes.ensures) in
    whole_spells _ _ _ _ _ c.in-Some.coming h (take c.min-used.result c.args.piece.now) c.add-2.new.self c.as_slice-3.result.now c.as_slice-4.result.now c.min-used.result k c.as_slice-3.ensures c.as_slice-4.ensures (sym c.next_field-2.ensures ∙ none_of c.next_field-2.result c.if-is_some.ensures)

pub count_in-requires-clause-count : goal.count_in-requires-clause-count
count_in-requires-clause-count c =
    let h = c.self.invariant (ap (λ (r : Reading). r.refusal) c.self.view_is ∙ c.requires.open) in
    let u = uses _ _ _ _ _ h c.as_slice.result.now c.in-Some.coming c.args.piece.now c.width-width.result c.len.result c.min-used.result c.as_slice.ensures (sym c.in-Some.ensures) c.width-width.ensures c.len.ensures c.min-used.ensures in
    let k = passed _ _ _ _ _ h c.in-Some.coming c.args.piece.now _ _ _ c.add-2.new.self c.as_slice-2.result.now u c.if-used-lacking.false c.add-2.ensures c.as_slice-2.ensures (take_bytes c.min-used.result c.args.piece.now (λ i. (c.type_inv.piece i).fits)) (sym c.if-not-passes.ensures) in
    (whole_range _ _ _ _ _ c.in-Some.coming h (take c.min-used.result c.args.piece.now) c.add-2.new.self c.as_slice-3.result.now c.as_slice-4.result.now c.min-used.result c.item_in-item.result k c.as_slice-3.ensures c.as_slice-4.ensures (sym c.next_field-2.ensures ∙ none_of c.next_field-2.result c.if-is_some.ensures) (item_is _ _ _ c.item_in-item.ensures)).count

pub count_in-requires-clause-least : goal.count_in-requires-clause-least
count_in-requires-clause-least c =
    let h = c.self.invariant (ap (λ (r : Reading). r.refusal) c.self.view_is ∙ c.requires.open) in
    let u = uses _ _ _ _ _ h c.as_slice.result.now c.in-Some.coming c.args.piece.now c.width-width.result c.len.result c.min-used.result c.as_slice.ensures (sym c.in-Some.ensures) c.width-width.ensures c.len.ensures c.min-used.ensures in
    let k = passed _ _ _ _ _ h c.in-Some.coming c.args.piece.now _ _ _ c.add-2.new.self c.as_slice-2.result.now u c.if-used-lacking.false c.add-2.ensures c.as_slice-2.ensures (take_bytes c.min-used.result c.args.piece.now (λ i. (c.type_inv.piece i).fits)) (sym c.if-not-passes.ensures) in
    (whole_range _ _ _ _ _ c.in-Some.coming h (take c.min-used.result c.args.piece.now) c.add-2.new.self c.as_slice-3.result.now c.as_slice-4.result.now c.min-used.result c.item_in-item.result k c.as_slice-3.ensures c.as_slice-4.ensures (sym c.next_field-2.ensures ∙ none_of c.next_field-2.result c.if-is_some.ensures) (item_is _ _ _ c.item_in-item.ensures)).least

pub invariant_of-self-2 : goal.invariant_of-self-2
invariant_of-self-2 c =
    λ unrefused.
    let h = c.self.invariant (ap (λ (r : Reading). r.refusal) c.self.view_is ∙ c.requires.open) in
    let u = uses _ _ _ _ _ h c.as_slice.result.now c.in-Some.coming c.args.piece.now c.width-width.result c.len.result c.min-used.result c.as_slice.ensures (sym c.in-Some.ensures) c.width-width.ensures c.len.ensures c.min-used.ensures in
    let k = passed _ _ _ _ _ h c.in-Some.coming c.args.piece.now _ _ _ c.add-2.new.self c.as_slice-2.result.now u c.if-used-lacking.false c.add-2.ensures c.as_slice-2.ensures (take_bytes c.min-used.result c.args.piece.now (λ i. (c.type_inv.piece i).fits)) (sym c.if-not-passes.ensures) in
    whole_holds _ (stage_in c.count_in.new.self) _ _ _ _ c.in-Some.coming h (take c.min-used.result c.args.piece.now) c.add-2.new.self c.as_slice-3.result.now c.as_slice-4.result.now c.clear.new.self c.min-used.result c.item_in-item.result k c.as_slice-3.ensures c.as_slice-4.ensures (sym c.next_field-2.ensures ∙ none_of c.next_field-2.result c.if-is_some.ensures) (item_is _ _ _ c.item_in-item.ensures) c.count_in.ensures c.clear.ensures

pub returns-clause-some : goal.returns-clause-some
returns-clause-some c =
    let h = c.self.invariant (ap (λ (r : Reading). r.refusal) c.self.view_is ∙ c.requires.open) in
    let u = uses _ _ _ _ _ h c.as_slice.result.now c.in-Some.coming c.args.piece.now c.width-width.result c.len.result c.min-used.result c.as_slice.ensures (sym c.in-Some.ensures) c.width-width.ensures c.len.ensures c.min-used.ensures in
    takes_some _ _ _ _ _ h _ _ _ _ _ u c.if-used-lacking.false

pub returns-clause-ok : goal.returns-clause-ok
returns-clause-ok c =
    λ bytes items has.
    let h = c.self.invariant (ap (λ (r : Reading). r.refusal) c.self.view_is ∙ c.requires.open) in
    let u = uses _ _ _ _ _ h c.as_slice.result.now c.in-Some.coming c.args.piece.now c.width-width.result c.len.result c.min-used.result c.as_slice.ensures (sym c.in-Some.ensures) c.width-width.ensures c.len.ensures c.min-used.ensures in
    let k = passed _ _ _ _ _ h c.in-Some.coming c.args.piece.now _ _ _ c.add-2.new.self c.as_slice-2.result.now u c.if-used-lacking.false c.add-2.ensures c.as_slice-2.ensures (take_bytes c.min-used.result c.args.piece.now (λ i. (c.type_inv.piece i).fits)) (sym c.if-not-passes.ensures) in
    whole_taken _ (stage_in c.count_in.new.self) _ _ _ _ c.self.inside.refusal c.in-Some.coming h (take c.min-used.result c.args.piece.now) c.add-2.new.self c.as_slice-3.result.now c.as_slice-4.result.now c.clear.new.self c.min-used.result c.item_in-item.result k u.count c.as_slice-3.ensures c.as_slice-4.ensures (sym c.next_field-2.ensures ∙ none_of c.next_field-2.result c.if-is_some.ensures) (item_is _ _ _ c.item_in-item.ensures) c.count_in.ensures c.clear.ensures (ap (λ (r : Reading). r.refusal) c.self.view_is ∙ c.requires.open) bytes items (subst (λ (r : Reading). HasTaken r bytes items) (sym c.self.view_is) has)
