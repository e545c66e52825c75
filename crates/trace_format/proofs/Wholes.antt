-- The items that are whole in bytes: no further item is, where the bytes end at a place or where no field is accepted.
use Rattle.std.proofs.Common.{◌≡◌, ◌≢◌, ℕ, true, false, List, [], ◌∷◌, ◌++◌, length, refl, sym, ap, ◌∙◌, append_assoc, append-nil, true≢false, arith}
use Rattle.trace_format.specs.declared.item.Item.{Item}
use Rattle.trace_format.specs.declared.item.Item.TheVariants as item
use Rattle.trace_format.specs.declared.trace.Trace.{Trace}
use Rattle.trace_format.specs.declared.trace.TheConstants.{SEQ_LIMIT}
use Rattle.trace_format.specs.Fields.{Spelt, spelling}
use Rattle.trace_format.specs.Items.{AreFirst, AreWhole, IsRead, item_bytes, items_bytes, items_of}
use Rattle.trace_format.specs.Reached.{IsAccepted, IsReached, bytes_at, flat, stage_of}
use Rattle.trace_format.specs.Taking.{first_stage}
use Rattle.trace_format.specs.Validity.{Writes}
use Rattle.trace_format.proofs.Completed.{follow_of, good_first, open_of, good_from}
use Rattle.trace_format.proofs.Following.{Follow, fields_are, follow_rest, items_over, trace_of}
use Rattle.trace_format.proofs.Lists.{items_fields, spelling_items}
use Rattle.trace_format.proofs.Places.{Compared, IsPlace, ahead_item, compare}
use Rattle.trace_format.proofs.Places.Compared.{before, here, behind}
use Rattle.trace_format.proofs.Stopping.{never_over, trace_place}

-- the item behind others that begin a trace
pub last_follow : (items : List Item) (next : Item) → AreFirst (items ++ next ∷ []) → Follow SEQ_LIMIT (stage_of items) (next ∷ [])
last_follow items next first = follow_rest SEQ_LIMIT first_stage items (next ∷ []) (follow_of (items ++ next ∷ []) first)

-- where the bytes don't go on with a field that is accepted no item is whole
pub no_item :
    (items : List Item) (fields : List (List ℕ)) (part : List ℕ) → IsPlace first_stage items fields → ((value left : List ℕ) → IsAccepted (stage_of items) fields value → part ≡ value ++ left → ⊥)
    → (next : Item) (rest : List ℕ) → AreFirst (items ++ next ∷ []) → flat fields ++ part ≡ item_bytes next ++ rest → ⊥
no_item items fields part place never next rest first same =
    let last = last_follow items next first in
    let goes = open_of (stage_of items) (good_from first_stage items good_first place.follow) last.0 in
    let ahead = ahead_item (stage_of items) fields next part rest [] goes place.accepted (place.settled last.0) last.1 same in
    never ahead.bytes ahead.left ahead.accepted ahead.x_is

pub whole_at :
    (items : List Item) (fields : List (List ℕ)) (part : List ℕ) → IsReached items fields → IsPlace first_stage items fields → ((value left : List ℕ) → IsAccepted (stage_of items) fields value → part ≡ value ++ left → ⊥)
    → AreWhole (bytes_at items fields ++ part) items (flat fields ++ part)
whole_at items fields part reached place never =
    record {
      first = reached.first;
      bytes_are = append_assoc (items_bytes items) (flat fields) part;
      no_more = λ next rest other first same. no_item items fields part place never next rest first same;
    }

-- no item is without bytes
item_some : (it : Item) (rest : List ℕ) → it ≢ item.More → [] ≡ item_bytes it ++ rest → ⊥
item_some item.More rest other same = other refl
item_some (item.Header header) rest other same = cc
item_some (item.Event event) rest other same = omega (arith, ap (λ (bs : List ℕ). length bs) same)
item_some (item.End end) rest other same = omega (arith, ap (λ (bs : List ℕ). length bs) same)

pub none_whole : (next : Item) (rest : List ℕ) → next ≢ item.More → [] ≡ item_bytes next ++ rest → ⊥
none_whole next rest other same = item_some next rest other same

-- behind the end mark there is no item
pub none_behind_end : (items : List Item) (next : Item) → (stage_of items).over ≡ true → AreFirst (items ++ next ∷ []) → ⊥
none_behind_end items next over first = true≢false (sym over ∙ (last_follow items next first).0)

-- bytes that end at a place before the end mark are no trace
pub unwritten_at :
    (items : List Item) (fields : List (List ℕ)) (part : List ℕ) → IsPlace first_stage items fields → (stage_of items).over ≡ false → ((value left : List ℕ) → IsAccepted (stage_of items) fields value → part ≡ value ++ left → ⊥)
    → (trace : Trace) → Writes trace (bytes_at items fields ++ part) → ⊥
unwritten_at items fields part place goes never trace writes =
    which (compare first_stage items fields part (items_of trace) [] [] good_first place (trace_place trace (bytes_at items fields ++ part) writes) bytes)
  where
    over : (stage_of (items_of trace)).over ≡ true
    over = items_over SEQ_LIMIT trace writes.is_trace

    bytes : items_bytes items ++ (flat fields ++ part) ≡ items_bytes (items_of trace) ++ []
    bytes = sym (append_assoc (items_bytes items) (flat fields) part) ∙ writes.bytes_are ∙ ap (λ (ss : List Spelt). spelling ss) (fields_are trace) ∙ spelling_items (items_of trace) ∙ sym (append-nil (items_bytes (items_of trace)))

    which : Compared first_stage items fields part (items_of trace) [] [] → ⊥
    which (before ahead) = never ahead.bytes ahead.left ahead.accepted ahead.x_is
    which (here its fs x) = true≢false (sym over ∙ ap (λ (i : List Item). (stage_of i).over) (sym its) ∙ goes)
    which (behind ahead) = never_over (items_of trace) [] ahead.bytes over ahead.accepted

-- bytes that end with the end mark are a trace
pub read_over : (items : List Item) → IsReached items [] → (stage_of items).over ≡ true → IsRead (bytes_at items []) items
read_over items reached over =
    let t = trace_of SEQ_LIMIT items (follow_of items reached.first) over in
    record {
      trace = t.trace;
      writes =
          record {
            is_trace = t.is_trace;
            bytes_are = append-nil (items_bytes items) ∙ sym (spelling_items items) ∙ ap (λ (its : List Item). spelling (items_fields its)) (sym t.items_are) ∙ ap (λ (ss : List Spelt). spelling ss) (sym (fields_are t.trace));
          };
      items_are = sym t.items_are;
    }
