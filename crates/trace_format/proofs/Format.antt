-- The laws of the format: what is so of a reader that stands behind items and fields.
use Rattle.std.proofs.Common.{◌≡◌, ℕ, ◌<◌, ◌≤◌, true, false, List, [], ◌∷◌, ◌++◌, length, Some, None, inl, inr, refl, sym, ap, subst, ◌∙◌, append-nil, true≢false}
use Rattle.trace_format.specs.declared.item.Item.{Item}
use Rattle.trace_format.specs.declared.refusal.Reason.TheVariants.{AfterEnd}
use Rattle.trace_format.specs.declared.refusal.Refusal.{Refusal}
use Rattle.trace_format.specs.declared.trace.Trace.{Trace}
use Rattle.trace_format.specs.declared.trace.TheConstants.{SEQ_LIMIT}
use Rattle.trace_format.specs.Accepting.{Next, next_of}
use Rattle.trace_format.specs.Items.{AreWhole, IsRead, item_bytes, items_bytes}
use Rattle.trace_format.specs.Reached.{IsAccepted, IsBytes, IsReached, bytes_at, flat, stage_of}
use Rattle.trace_format.specs.Fields.{Spelt, spelling}
use Rattle.trace_format.specs.Refusing.{IsRefused, Refuses, reason_of}
use Rattle.trace_format.specs.Validity.{Writes}
use Rattle.trace_format.proofs.Beginning.{goes_of, none_over, place_next, place_over}
use Rattle.trace_format.specs.Taking.{first_stage}
use Rattle.trace_format.proofs.Decoded.{item_in}
use Rattle.trace_format.proofs.Bounds.{alone, few_at}
use Rattle.trace_format.proofs.Completed.{follow_of, good_first, good_from}
use Rattle.trace_format.proofs.Lists.{items_bytes-append, spelling_named, split_same}
use Rattle.trace_format.proofs.Refusals.{refuses_after, refuses_field}
use Rattle.trace_format.proofs.SameBytes.{no_next, one_next}
use Rattle.trace_format.proofs.Stopping.{never_more, never_over, unrefused}
use Rattle.trace_format.proofs.Walking.{reached_more, start_reached, whole_is, whole_reached}
use Rattle.trace_format.proofs.Wholes.{none_behind_end, none_whole, read_over, unwritten_at, whole_at}

-- before the first byte
pub start : IsReached [] []
start = start_reached

-- a field more was accepted
pub accepts : (items : List Item) (fields : List (List ℕ)) (bytes : List ℕ) → IsReached items fields → IsAccepted (stage_of items) fields bytes → IsReached items (fields ++ bytes ∷ [])
accepts items fields bytes reached accepted = reached_more items fields bytes reached accepted

-- an item is whole
pub record IsWhole (items : List Item) (fields : List (List ℕ)) (next : Item) : Type 0 where
  pub reached : IsReached (items ++ next ∷ []) []
  pub bytes : item_bytes next ≡ flat fields
  pub whole : AreWhole (bytes_at items fields) (items ++ next ∷ []) []

pub whole_item : (items : List Item) (fields : List (List ℕ)) → IsReached items fields → (stage_of items).over ≡ false → next_of (stage_of items) fields ≡ None → IsWhole items fields (item_in (stage_of items).header (flat fields))
whole_item items fields reached goes none =
    let next = item_in (stage_of items).header (flat fields) in
    let is_item = whole_is items fields reached goes none in
    let there = whole_reached items fields reached goes none in
    let spelt : item_bytes next ≡ flat fields = ap (λ (ss : List Spelt). spelling ss) is_item.names ∙ spelling_named (stage_of items) fields in
    record {
      reached = there;
      bytes = spelt;
      whole =
          record {
            first = there.first;
            bytes_are =
                ap (λ (bs : List ℕ). items_bytes items ++ bs) (sym spelt ∙ sym (append-nil (item_bytes next))) ∙ sym (items_bytes-append items (next ∷ [])) ∙ sym (append-nil (items_bytes (items ++ next ∷ [])));
            no_more = λ more rest other first same. none_whole more rest other same;
          };
    }

-- part of a field has come
pub record IsPart (items : List Item) (fields : List (List ℕ)) (part : List ℕ) : Type 0 where
  pub whole : AreWhole (bytes_at items fields ++ part) items (flat fields ++ part)
  pub unrefused : (refusal : Refusal) → IsRefused (bytes_at items fields ++ part) refusal → ⊥
  pub unwritten : (trace : Trace) → Writes trace (bytes_at items fields ++ part) → ⊥

pub part_come : (items : List Item) (fields : List (List ℕ)) (next : Next) (some : List ℕ) → IsReached items fields → next_of (stage_of items) fields ≡ Some next → length some < next.width → IsPart items fields some
part_come items fields next some reached comes short =
    let place = place_next items fields next reached comes in
    let goes = goes_of (stage_of items) fields next comes in
    let shorter = λ (that : Next) (so : next_of (stage_of items) fields ≡ Some that). subst (λ (n : Next). length some < n.width) (one_next next that (sym comes ∙ so)) short in
    let ended : (stage_of items).over ≡ true → some ≡ [] = λ over. absurd (true≢false (sym over ∙ goes)) in
    let never = never_more items fields some place shorter ended in
    record {
      whole = whole_at items fields some reached place never;
      unrefused = unrefused items fields some place shorter ended;
      unwritten = unwritten_at items fields some place goes never;
    }

-- a field isn't accepted
pub record IsStopped (items : List Item) (fields : List (List ℕ)) (bytes : List ℕ) (refusal : Refusal) : Type 0 where
  pub refuses : Refuses (bytes_at items fields ++ bytes) refusal
  pub whole : AreWhole (bytes_at items fields ++ bytes) items (flat fields ++ bytes)

not_accepted : (items : List Item) (fields : List (List ℕ)) (next : Next) (bytes : List ℕ) → next_of (stage_of items) fields ≡ Some next → next.accepts bytes ≡ false → IsAccepted (stage_of items) fields bytes → ⊥
not_accepted items fields next bytes comes refused accepted =
    let same = one_next accepted.next next (sym accepted.comes ∙ comes) in
    true≢false (sym accepted.accepted ∙ ap (λ (n : Next). n.accepts bytes) same ∙ refused)

not_ahead :
    (items : List Item) (fields : List (List ℕ)) (next : Next) (bytes : List ℕ) → next_of (stage_of items) fields ≡ Some next → length bytes ≡ next.width → next.accepts bytes ≡ false
    → (value left : List ℕ) → IsAccepted (stage_of items) fields value → bytes ≡ value ++ left → ⊥
not_ahead items fields next bytes comes width refused value left accepted same =
    let that = one_next accepted.next next (sym accepted.comes ∙ comes) in
    let long : length bytes ≡ length value = width ∙ ap (λ (n : Next). n.width) (sym that) ∙ sym accepted.width in
    let parts = split_same bytes value [] left long (append-nil bytes ∙ same) in
    not_accepted items fields next bytes comes refused (subst (λ (bs : List ℕ). IsAccepted (stage_of items) fields bs) (sym parts.0) accepted)

pub stops :
    (items : List Item) (fields : List (List ℕ)) (next : Next) (bytes : List ℕ) → IsReached items fields → next_of (stage_of items) fields ≡ Some next → length bytes ≡ next.width → IsBytes bytes
    → next.accepts bytes ≡ false → IsStopped items fields bytes (record { reason = reason_of next.field bytes; offset = length (bytes_at items fields) })
stops items fields next bytes reached comes width is_bytes refused =
    let place = place_next items fields next reached comes in
    record {
      refuses = inl (refuses_field items fields next bytes reached comes width (not_accepted items fields next bytes comes refused));
      whole = whole_at items fields bytes reached place (not_ahead items fields next bytes comes width refused);
    }

-- the end mark has come
pub record IsOver (items : List Item) : Type 0 where
  pub read : IsRead (bytes_at items []) items
  pub whole : AreWhole (bytes_at items []) items []
  pub unrefused : (refusal : Refusal) → IsRefused (bytes_at items []) refusal → ⊥
  pub after : (byte : ℕ) → IsStopped items [] (byte ∷ []) (record { reason = AfterEnd; offset = length (bytes_at items []) })

pub over_all : (items : List Item) → IsReached items [] → (stage_of items).over ≡ true → IsOver items
over_all items reached is_over =
    let place = place_over items (follow_of items reached.first) is_over in
    let short = λ (next : Next) (comes : next_of (stage_of items) [] ≡ Some next). absurd {A = 0 < next.width} (no_next next (next_of (stage_of items) []) comes (none_over (stage_of items) [] is_over)) in
    record {
      read = read_over items reached is_over;
      whole = record { first = reached.first; bytes_are = refl; no_more = λ next rest other first same. none_behind_end items next is_over first };
      unrefused = λ refusal refused. unrefused items [] [] place short (λ over. refl) refusal (subst (λ (bs : List ℕ). IsRefused bs refusal) (sym (append-nil (bytes_at items []))) refused);
      after = λ byte.
          record {
            refuses = inr (refuses_after items byte reached is_over);
            whole = whole_at items [] (byte ∷ []) reached place (λ value left accepted same. never_over items [] value is_over accepted);
          };
    }

-- how much there can be
pub record IsBounded (items : List Item) (fields : List (List ℕ)) : Type 0 where
  pub count : (stage_of items).count ≤ (stage_of items).least
  pub least : (stage_of items).least ≤ SEQ_LIMIT
  pub bytes : length (bytes_at items fields) ≤ 157286426
  pub item : length (flat fields) ≤ 60
  pub alone : (stage_of items).over ≡ true → fields ≡ []

pub bounded_at : (items : List Item) (fields : List (List ℕ)) → IsReached items fields → IsBounded items fields
bounded_at items fields reached =
    let good = good_from first_stage items good_first (follow_of items reached.first) in
    let few = few_at items fields reached in
    record { count = good.count; least = good.least; bytes = few.bytes; item = few.item; alone = λ over. alone items fields reached over }
