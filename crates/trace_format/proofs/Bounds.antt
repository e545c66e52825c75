-- How many bytes there are at a place.
use Rattle.std.proofs.Common.{◌≡◌, ℕ, ◌+◌, ◌*◌, ◌≤◌, Bool, true, false, List, [], ◌∷◌, ◌++◌, length, length-append, Option, Some, None, refl, ap, ◌∙◌, arith}
use Rattle.trace_format.specs.declared.item.Item.{Item}
use Rattle.trace_format.specs.declared.item.Item.TheVariants as item
use Rattle.trace_format.specs.declared.trace.Header.{Header}
use Rattle.trace_format.specs.declared.trace.TheConstants.{SEQ_LIMIT}
use Rattle.trace_format.specs.Accepting.{Next, next_of}
use Rattle.trace_format.specs.Fields.{Spelt, spelling}
use Rattle.trace_format.specs.Items.{item_bytes, items_bytes}
use Rattle.trace_format.specs.Reached.{IsReached, bytes_at, flat, stage_of}
use Rattle.trace_format.specs.Taking.{Stage, first_stage, next_stage, stage_from}
use Rattle.trace_format.proofs.Beginning.{goes_of, none_over}
use Rattle.trace_format.proofs.Coming.{GoesOn, goes_on}
use Rattle.trace_format.proofs.Completed.{IsGood, follow_of, good_first, good_from, good_next, open_at}
use Rattle.trace_format.proofs.Following.{Follow}
use Rattle.trace_format.proofs.Lengths.{end_length, event_short, header_length, item_short, two_short}
use Rattle.trace_format.proofs.Lists.{spelling-append, spelling_named, spelt_bytes}
use Rattle.trace_format.proofs.Rows.{IsItemBelow, named, spelt_next}
use Rattle.trace_format.proofs.SameBytes.{no_next}
use Rattle.trace_format.proofs.Walking.{whole_here, whole_is}

-- the most bytes that there can be behind the items that were given
header_room : Option Header → ℕ
header_room None = 0
header_room (Some header) = 16

end_room : Bool → ℕ
end_room true = 10
end_room false = 0

room : Stage → ℕ
room stage = header_room stage.header + 60 * stage.count + end_room stage.over

item_room : (limit : ℕ) (stage : Stage) (it : Item) → stage.over ≡ false → IsItemBelow limit stage it → length (item_bytes it) + room stage ≤ room (next_stage stage it)
unfolding header_room end_room room
item_room limit stage item.More goes is_item = absurd is_item
item_room limit stage (item.Header header) goes is_item =
    let none : header_room stage.header ≡ 0 = ap header_room is_item.0 in
    omega (arith, none, header_length header)
item_room limit stage (item.Event event) goes is_item = omega (arith, event_short event)
item_room limit stage (item.End end) goes is_item =
    let none : end_room stage.over ≡ 0 = ap end_room goes in
    omega (arith, none, end_length end)

items_room : (limit : ℕ) (stage : Stage) (items : List Item) → Follow limit stage items → length (items_bytes items) + room stage ≤ room (stage_from stage items)
items_room limit stage [] all = omega arith
items_room limit stage (it ∷ items) all =
    let one = item_room limit stage it all.0 all.1 in
    let more = items_room limit (next_stage stage it) items all.2 in
    omega (arith, one, more, length-append (item_bytes it) (items_bytes items))

header_few : (header : Option Header) → header_room header ≤ 16
unfolding header_room
header_few None = omega arith
header_few (Some header) = omega arith

end_few : (over : Bool) → end_room over ≤ 10
unfolding end_room
end_few true = omega arith
end_few false = omega arith

room_few : (stage : Stage) → IsGood stage → room stage ≤ 157286426
unfolding room
room_few stage good = omega (arith, good.count, good.least, header_few stage.header, end_few stage.over)

room_goes : (stage : Stage) → IsGood stage → stage.over ≡ false → room stage ≤ 157286416
unfolding room end_room
room_goes stage good goes =
    let none : end_room stage.over ≡ 0 = ap end_room goes in
    omega (arith, good.count, good.least, header_few stage.header, none)

-- the bytes of items, and of one more
pub items_few : (items : List Item) → Follow SEQ_LIMIT first_stage items → length (items_bytes items) ≤ 157286426
items_few items all = omega (arith, items_room SEQ_LIMIT first_stage items all, room_few (stage_of items) (good_from first_stage items good_first all))

items_goes : (items : List Item) → Follow SEQ_LIMIT first_stage items → (stage_of items).over ≡ false → length (items_bytes items) ≤ 157286416
items_goes items all goes = omega (arith, items_room SEQ_LIMIT first_stage items all, room_goes (stage_of items) (good_from first_stage items good_first all) goes)

pub more_few : (items : List Item) (it : Item) → Follow SEQ_LIMIT first_stage items → (stage_of items).over ≡ false → IsItemBelow SEQ_LIMIT (stage_of items) it → length (items_bytes items) + length (item_bytes it) ≤ 157286426
more_few items it all goes is_item =
    let stage = stage_of items in
    let good = good_next stage it (good_from first_stage items good_first all) is_item in
    omega (arith, items_room SEQ_LIMIT first_stage items all, item_room SEQ_LIMIT stage it goes is_item, room_few (next_stage stage it) good)

-- the bytes of an item's fields, and of one more
module _ (stage : Stage) (fields : List (List ℕ)) (next : Next) (on : GoesOn stage fields next) where
  on_short : length (flat fields) + next.width ≤ length (item_bytes on.it)
  on_short =
      let field : Spelt = record { field = next.field; bytes = on.has.bytes } in
      let whole : item_bytes on.it ≡ (flat fields ++ (on.has.bytes ++ [])) ++ spelling on.has.more =
      ap (λ (ss : List Spelt). spelling ss) on.has.fields_are ∙ spelling-append (named stage fields ++ field ∷ []) on.has.more
      ∙ ap (λ (bs : List ℕ). bs ++ spelling on.has.more) (spelling-append (named stage fields) (field ∷ []) ∙ ap (λ (bs : List ℕ). bs ++ (on.has.bytes ++ [])) (spelling_named stage fields)) in
      let long = ap (λ (bs : List ℕ). length bs) whole in
      omega (arith, long, length-append (flat fields ++ (on.has.bytes ++ [])) (spelling on.has.more), length-append (flat fields) (on.has.bytes ++ []), length-append on.has.bytes [], on.has.width)

on_one : (stage : Stage) (first : List ℕ) (next : Next) → GoesOn stage (first ∷ []) next → length (flat (first ∷ [])) + next.width ≤ 6
on_one stage first next on =
    let spelt = spelt_next (next_of stage []) first in
    let short = two_short on.it spelt (record { field = next.field; bytes = on.has.bytes }) on.has.more on.has.fields_are in
    let same = ap (λ (bs : List ℕ). length bs) (spelt_bytes (next_of stage []) first) in
    omega (arith, short, same, length-append first [], on.has.width)

module _ (items : List Item) (fields : List (List ℕ)) (next : Next) (reached : IsReached items fields) (comes : next_of (stage_of items) fields ≡ Some next) where
  follow_next : Follow SEQ_LIMIT first_stage items
  follow_next = follow_of items reached.first

  goes_next : (stage_of items).over ≡ false
  goes_next = goes_of (stage_of items) fields next comes

  on_next : GoesOn (stage_of items) fields next
  on_next = goes_on (stage_of items) fields next (open_at items follow_next goes_next) reached.accepted comes

  pub item_next : length (flat fields) + next.width ≤ 60
  item_next = omega (arith, on_short (stage_of items) fields next on_next, item_short on_next.it)

  next_other : (length fields ≡ 1 → ⊥) → length (items_bytes items) + (length (flat fields) + next.width) ≤ 157286426
  next_other other = omega (arith, on_short (stage_of items) fields next on_next, more_few items on_next.it follow_next goes_next (on_next.low other))

-- a place with its next field
next_sum : (items : List Item) (fields : List (List ℕ)) (next : Next) → IsReached items fields → next_of (stage_of items) fields ≡ Some next → length (items_bytes items) + (length (flat fields) + next.width) ≤ 157286426
next_sum items [] next reached comes = next_other items [] next reached comes (λ one. absurd (omega arith))
next_sum items (first ∷ []) next reached comes =
    let few = items_goes items (follow_next items (first ∷ []) next reached comes) (goes_next items (first ∷ []) next reached comes) in
    omega (arith, few, on_one (stage_of items) first next (on_next items (first ∷ []) next reached comes))
next_sum items (first ∷ second ∷ fields) next reached comes = next_other items (first ∷ second ∷ fields) next reached comes (λ one. absurd (omega arith))

pub next_few : (items : List Item) (fields : List (List ℕ)) (next : Next) → IsReached items fields → next_of (stage_of items) fields ≡ Some next → length (bytes_at items fields) + next.width ≤ 157286426
next_few items fields next reached comes = omega (arith, next_sum items fields next reached comes, length-append (items_bytes items) (flat fields))

-- no field was accepted behind the end mark
pub alone : (items : List Item) (fields : List (List ℕ)) → IsReached items fields → (stage_of items).over ≡ true → fields ≡ []
alone items [] reached over = refl
alone items (bytes ∷ fields) reached over = absurd (no_next reached.accepted.0.next (next_of (stage_of items) []) reached.accepted.0.comes (none_over (stage_of items) [] over))

pub record AreFew (items : List Item) (fields : List (List ℕ)) : Type 0 where
  pub bytes : length (bytes_at items fields) ≤ 157286426
  pub item : length (flat fields) ≤ 60

pub few_at : (items : List Item) (fields : List (List ℕ)) → IsReached items fields → AreFew items fields
few_at items fields reached = go (next_of (stage_of items) fields) refl (stage_of items).over refl
  where
    all : Follow SEQ_LIMIT first_stage items
    all = follow_of items reached.first

    sum : length (bytes_at items fields) ≡ length (items_bytes items) + length (flat fields)
    sum = length-append (items_bytes items) (flat fields)

    go : (o : Option Next) → next_of (stage_of items) fields ≡ o → (b : Bool) → (stage_of items).over ≡ b → AreFew items fields
    go (Some next) comes b over = record { bytes = omega (arith, next_few items fields next reached comes); item = omega (arith, item_next items fields next reached comes) }
    go None none true over =
        let nothing : length (flat fields) ≡ 0 = ap (λ (fs : List (List ℕ)). length (flat fs)) (alone items fields reached over) in
        record { bytes = omega (arith, items_few items all, sum, nothing); item = omega (arith, nothing) }
    go None none false goes =
        let it = whole_here items fields reached goes none in
        let is_item = whole_is items fields reached goes none in
        let same = ap (λ (bs : List ℕ). length bs) (ap (λ (ss : List Spelt). spelling ss) is_item.names ∙ spelling_named (stage_of items) fields) in
        record { bytes = omega (arith, more_few items it all goes is_item.is_item, same, sum); item = omega (arith, item_short it, same) }
