-- The field that comes next at a place does so in a trace.
use Rattle.std.proofs.Common.{◌≡◌, ℕ, ◌+◌, List, [], ◌∷◌, ◌++◌, length, Option, Some, refl, sym, ap, ap₂, subst, ◌∙◌, append_assoc, append-nil, arith}
use Rattle.std.proofs.lemmas.List.{append_cancel_left, map-append}
use Rattle.trace_format.specs.declared.field.Field.{Field}
use Rattle.trace_format.specs.declared.field.Field.TheVariants.{Number, Seq}
use Rattle.trace_format.specs.declared.item.Item.{Item}
use Rattle.trace_format.specs.declared.item.Item.TheVariants as item
use Rattle.trace_format.specs.declared.trace.TheConstants.{SEQ_LIMIT}
use Rattle.trace_format.specs.Accepting.{Next, next_of}
use Rattle.trace_format.specs.Fields.{Spelt}
use Rattle.trace_format.specs.Items.{item_fields}
use Rattle.trace_format.specs.Reached.{AreAccepted, IsReached, stage_of}
use Rattle.trace_format.specs.Refusing.{Begins, ComesNext}
use Rattle.trace_format.specs.Taking.{Stage}
use Rattle.trace_format.proofs.Beginning.{fields_at, goes_of}
use Rattle.trace_format.proofs.Beyond.{head_same}
use Rattle.trace_format.proofs.Completed.{begins_with, follow_of, open_at}
use Rattle.trace_format.proofs.Lists.{bytes_named, items_fields, named_at, spelt_bytes}
use Rattle.trace_format.proofs.Rows.{IsItemBelow, IsOpen, bytes_in, can_be_here, can_be_whole, named, named_from, reads_item, reads_number, spelt_next}
use Rattle.trace_format.proofs.Following.{item_higher}
use Rattle.trace_format.proofs.SameBytes.{accepted_at, no_next, one_next}

-- behind these fields of an item stands the field that comes next
pub record HasNext (stage : Stage) (fields : List (List ℕ)) (next : Next) (it : Item) : Type 0 where
  pub bytes : List ℕ
  pub width : length bytes ≡ next.width
  pub more : List Spelt
  pub fields_are : item_fields it ≡ (named stage fields ++ record { field = next.field; bytes = bytes } ∷ []) ++ more

pub has_next :
    (stage : Stage) (fields : List (List ℕ)) (next : Next) (it : Item) (rest : List Spelt) → IsOpen stage → next_of stage fields ≡ Some next → IsItemBelow SEQ_LIMIT stage it → item_fields it ≡ named stage fields ++ rest → HasNext stage fields next it
has_next stage fields next it rest goes comes is_item names = go rest names (bytes_behind rest names)
  where
    bytes_behind : (rs : List Spelt) → item_fields it ≡ named stage fields ++ rs → bytes_in (item_fields it) ≡ fields ++ bytes_in rs
    bytes_behind rs same =
        ap (λ (ss : List Spelt). bytes_in ss) same ∙ map-append (λ (spelt : Spelt). spelt.bytes) (named stage fields) rs ∙ ap (λ (bs : List (List ℕ)). bs ++ bytes_in rs) (bytes_named stage [] fields)

    go : (rs : List Spelt) → item_fields it ≡ named stage fields ++ rs → bytes_in (item_fields it) ≡ fields ++ bytes_in rs → HasNext stage fields next it
    go [] same bytes =
        let none = (reads_item stage it goes is_item).none in
        absurd (no_next next (next_of stage fields) comes (ap (λ (bs : List (List ℕ)). next_of stage bs) (sym (bytes ∙ append-nil fields)) ∙ none))
    go (r ∷ rs) same bytes =
        let reads = reads_item stage it goes is_item in
        let accepted = accepted_at stage [] fields r.bytes (bytes_in rs) (subst (λ (bs : List (List ℕ)). AreAccepted stage [] bs) bytes reads.accepted) in
        let that = one_next accepted.next next (sym accepted.comes ∙ comes) in
        let spelt = spelt_next (next_of stage fields) r.bytes in
        let behind = named_from stage (fields ++ r.bytes ∷ []) (bytes_in rs) in
        let again = sym same ∙ reads.names ∙ ap (λ (bs : List (List ℕ)). named stage bs) bytes ∙ named_at stage fields r.bytes (bytes_in rs) in
        let one : r ≡ spelt = head_same (append_cancel_left (named stage fields) (r ∷ rs) (spelt ∷ behind) again) in
        let field : r ≡ record { field = next.field; bytes = r.bytes } = one ∙ ap (λ (o : Option Next). spelt_next o r.bytes) comes in
        record {
          bytes = r.bytes;
          width = accepted.width ∙ ap (λ (n : Next). n.width) that;
          more = rs;
          fields_are = same ∙ ap (λ (s : Spelt). named stage fields ++ s ∷ rs) field ∙ sym (append_assoc (named stage fields) (record { field = next.field; bytes = r.bytes } ∷ []) rs);
        }

-- also behind the number of an event that may have one sequence number more
has_next_one :
    (stage : Stage) (first : List ℕ) (next : Next) (it : Item) (rest : List Spelt) → IsOpen stage → next_of stage (first ∷ []) ≡ Some next → IsItemBelow (SEQ_LIMIT + 1) stage it → item_fields it ≡ named stage (first ∷ []) ++ rest
    → HasNext stage (first ∷ []) next it
has_next_one stage first next item.More rest goes comes is_item names = absurd is_item
has_next_one stage first next (item.Header header) rest goes comes is_item names = has_next stage (first ∷ []) next (item.Header header) rest goes comes is_item names
has_next_one stage first next (item.End end) rest goes comes is_item names = has_next stage (first ∷ []) next (item.End end) rest goes comes is_item names
has_next_one stage first next (item.Event event) rest goes comes is_item names =
    let number = reads_number stage event goes is_item in
    let spelt = spelt_next (next_of stage []) first in
    let one : ◌≡◌ {A = Spelt} (record { field = Number; bytes = number.bytes }) spelt = head_same (sym number.fields ∙ names) in
    let same : number.bytes ≡ first = ap (λ (s : Spelt). s.bytes) one ∙ spelt_bytes (next_of stage []) first in
    let that = one_next number.next next (sym number.comes ∙ ap (λ (bs : List ℕ). next_of stage (bs ∷ [])) same ∙ comes) in
    let field : Seq ≡ next.field = sym number.field ∙ ap (λ (n : Next). n.field) that in
    record {
      bytes = number.seq;
      width = sym number.width ∙ ap (λ (n : Next). n.width) that;
      more = number.rest;
      fields_are = number.fields ∙ ap₂ (λ (s : Spelt) (f : Field). s ∷ record { field = f; bytes = number.seq } ∷ number.rest) one field;
    }

-- an item that goes on so
pub record GoesOn (stage : Stage) (fields : List (List ℕ)) (next : Next) : Type 0 where
  pub it : Item
  pub is_item : IsItemBelow (SEQ_LIMIT + 1) stage it
  pub low : (length fields ≡ 1 → ⊥) → IsItemBelow SEQ_LIMIT stage it
  pub has : HasNext stage fields next it

goes_low : (stage : Stage) (fields : List (List ℕ)) (next : Next) → IsOpen stage → AreAccepted stage [] fields → next_of stage fields ≡ Some next → (length fields ≡ 1 → ⊥) → GoesOn stage fields next
goes_low stage fields next goes accepted comes other =
    let whole = can_be_here stage fields goes accepted other in
    record {
      it = whole.it;
      is_item = item_higher SEQ_LIMIT (SEQ_LIMIT + 1) stage whole.it (omega arith) whole.is_item;
      low = λ not_one. whole.is_item;
      has = has_next stage fields next whole.it whole.rest goes comes whole.is_item whole.names;
    }

pub goes_on : (stage : Stage) (fields : List (List ℕ)) (next : Next) → IsOpen stage → AreAccepted stage [] fields → next_of stage fields ≡ Some next → GoesOn stage fields next
goes_on stage [] next goes accepted comes = goes_low stage [] next goes accepted comes (λ one. absurd (omega arith))
goes_on stage (first ∷ []) next goes accepted comes =
    let whole = can_be_whole stage (first ∷ []) goes accepted in
    record { it = whole.it; is_item = whole.is_item; low = λ other. absurd (other refl); has = has_next_one stage first next whole.it whole.rest goes comes whole.is_item whole.names }
goes_on stage (first ∷ second ∷ fields) next goes accepted comes = goes_low stage (first ∷ second ∷ fields) next goes accepted comes (λ one. absurd (omega arith))

pub comes_here : (items : List Item) (fields : List (List ℕ)) (next : Next) → IsReached items fields → next_of (stage_of items) fields ≡ Some next → ComesNext (fields_at items fields) next.field next.width
comes_here items fields next reached comes =
    let stage = stage_of items in
    let follow = follow_of items reached.first in
    let goes = goes_of stage fields next comes in
    let on = goes_on stage fields next (open_at items follow goes) reached.accepted comes in
    let field : Spelt = record { field = next.field; bytes = on.has.bytes } in
    let begins = begins_with (SEQ_LIMIT + 1) items on.it (named stage fields ++ field ∷ []) on.has.more (omega arith) follow goes on.is_item on.has.fields_are in
    record { bytes = on.has.bytes; begins = subst (λ (ss : List Spelt). Begins (SEQ_LIMIT + 1) ss) (sym (append_assoc (items_fields items) (named stage fields) (field ∷ []))) begins; width_is = on.has.width }
