-- A field that is accepted at a place may stand there, and so all fields that were accepted. What comes next at a place has a trace.
use Rattle.std.proofs.Common.{◌≡◌, ℕ, ◌+◌, ◌<◌, ◌≤◌, false, List, [], ◌∷◌, ◌++◌, length-append, Option, Some, None, ⊎_elim, refl, sym, ap, subst, ◌∙◌, append_assoc, append-nil, arith}
use Rattle.std.proofs.lemmas.Bool.{cases_lt}
use Rattle.ompt_calls.specs.declared.event.EventRecord.{EventRecord}
use Rattle.trace_format.specs.declared.field.Field.{Field}
use Rattle.trace_format.specs.declared.field.Field.TheVariants.{Number}
use Rattle.trace_format.specs.declared.item.Item.{Item}
use Rattle.trace_format.specs.declared.trace.Header.{Header}
use Rattle.trace_format.specs.declared.trace.TheConstants.{SEQ_LIMIT}
use Rattle.trace_format.specs.Accepting.{next_of}
use Rattle.trace_format.specs.Fields.{Spelt}
use Rattle.trace_format.specs.Reached.{AreAccepted, IsAccepted, IsReached, stage_of}
use Rattle.trace_format.specs.Refusing.{AllStand, Begins, Stands, limit_at}
use Rattle.trace_format.specs.Taking.{Stage, first_stage}
use Rattle.trace_format.specs.Validity.{AreEvents}
use Rattle.trace_format.proofs.Beginning.{fields_at, goes_of}
use Rattle.trace_format.proofs.Beyond.{number_first}
use Rattle.trace_format.proofs.Completed.{begins_with, follow_of, good_first, good_from, open_at}
use Rattle.trace_format.proofs.Following.{Follow, fields_are}
use Rattle.trace_format.proofs.Lists.{fields_more, items_fields, items_fields-append}
use Rattle.trace_format.proofs.Rows.{CanBeWhole, IsOpen, can_be_below, can_be_here, can_be_whole, named, named_from, spelt_next}
use Rattle.trace_format.proofs.SameBytes.{accepted_more}

-- what begins a trace begins one with a higher limit
events_higher : (low high : ℕ) (header : Header) (least : ℕ) (events : List EventRecord) → low ≤ high → AreEvents low header least events → AreEvents high header least events
events_higher low high header least [] less all = tt
events_higher low high header least (event ∷ events) less all = (all.0, omega (arith, all.1), all.2, events_higher low high header (event.seq + 1) events less all.3)

pub begins_higher : (low high : ℕ) (fields : List Spelt) → low ≤ high → Begins low fields → Begins high fields
begins_higher low high fields less begins =
    let t = begins.is_trace in
    record {
      trace = begins.trace;
      is_trace = record { header = t.header; events = events_higher low high begins.trace.header 0 begins.trace.events less t.events; detail = t.detail; count = t.count };
      rest = begins.rest;
      whole = begins.whole;
    }

limit_low : (field : Field) → SEQ_LIMIT ≤ limit_at field
limit_low Number = omega arith
limit_low other = omega arith

stands_low : (before : List Spelt) (spelt : Spelt) → Begins SEQ_LIMIT (before ++ spelt ∷ []) → Stands before spelt
stands_low before spelt begins = begins_higher SEQ_LIMIT (limit_at spelt.field) (before ++ spelt ∷ []) (limit_low spelt.field) begins

-- each field of what begins a trace may stand
stand_begun : (before fields : List Spelt) → Begins SEQ_LIMIT (before ++ fields) → AllStand before fields
stand_begun before [] begins = tt
stand_begun before (spelt ∷ fields) begins =
    let more = stand_begun (before ++ spelt ∷ []) fields (subst (λ (ss : List Spelt). Begins SEQ_LIMIT ss) (sym (append_assoc before (spelt ∷ []) fields)) begins) in
    let one : Begins SEQ_LIMIT (before ++ spelt ∷ []) = record { trace = begins.trace; is_trace = begins.is_trace; rest = fields ++ begins.rest; whole = begins.whole ∙ simp append_assoc } in
    (stands_low before spelt one, more)

stand-append : (before a b : List Spelt) → AllStand before a → AllStand (before ++ a) b → AllStand before (a ++ b)
stand-append before [] b first more = subst (λ (ss : List Spelt). AllStand ss b) (append-nil before) more
stand-append before (spelt ∷ a) b first more = (first.0, stand-append (before ++ spelt ∷ []) a b first.1 (subst (λ (ss : List Spelt). AllStand ss b) (sym (append_assoc before (spelt ∷ []) a)) more))

-- an accepted field may stand
module _ (items : List Item) (fields : List (List ℕ)) (bytes : List ℕ) (reached : IsReached items fields) (accepted : IsAccepted (stage_of items) fields bytes) where
  follow_here : Follow SEQ_LIMIT first_stage items
  follow_here = follow_of items reached.first

  goes_here : (stage_of items).over ≡ false
  goes_here = goes_of (stage_of items) fields accepted.next accepted.comes

  open_here : IsOpen (stage_of items)
  open_here = open_at items follow_here goes_here

  all_here : AreAccepted (stage_of items) [] (fields ++ bytes ∷ [])
  all_here = accepted_more (stage_of items) [] fields bytes reached.accepted accepted

  begins_whole : (limit : ℕ) → SEQ_LIMIT ≤ limit → CanBeWhole limit (stage_of items) (fields ++ bytes ∷ []) → Begins limit (fields_at items fields ++ spelt_next (next_of (stage_of items) fields) bytes ∷ [])
  begins_whole limit less whole =
      subst (λ (ss : List Spelt). Begins limit ss) (fields_more first_stage items fields bytes)
      (begins_with limit items whole.it (named (stage_of items) (fields ++ bytes ∷ [])) whole.rest less follow_here goes_here whole.is_item whole.names)

  stands_whole : CanBeWhole SEQ_LIMIT (stage_of items) (fields ++ bytes ∷ []) → Stands (fields_at items fields) (spelt_next (next_of (stage_of items) fields) bytes)
  stands_whole whole = stands_low (fields_at items fields) (spelt_next (next_of (stage_of items) fields) bytes) (begins_whole SEQ_LIMIT (omega arith) whole)

-- .. also the number of an event where the last sequence number was used
stands_number : (items : List Item) (bytes : List ℕ) → IsReached items [] → IsAccepted (stage_of items) [] bytes → SEQ_LIMIT ≤ (stage_of items).least → Stands (fields_at items []) (spelt_next (next_of (stage_of items) []) bytes)
stands_number items bytes reached accepted high = go (stage_of items).header refl
  where
    stage : Stage
    stage = stage_of items

    spelt : Spelt
    spelt = spelt_next (next_of (stage_of items) []) bytes

    go : (h : Option Header) → (stage_of items).header ≡ h → Stands (fields_at items []) spelt
    go None none = let low : (stage_of items).least ≡ 0 = (good_from first_stage items good_first (follow_of items reached.first)).first none in absurd (omega arith)
    go (Some header) same =
        let goes = goes_of stage [] accepted.next accepted.comes in
        let whole = can_be_whole stage (bytes ∷ []) (open_at items (follow_of items reached.first) goes) (accepted, tt) in
        let begins = begins_whole items [] bytes reached accepted (SEQ_LIMIT + 1) (omega arith) whole in
        let named_so = number_first stage header bytes goes same in
        subst (λ (s : Spelt). Begins (limit_at s.field) (fields_at items [] ++ spelt ∷ [])) (sym named_so) begins

pub stands_here : (items : List Item) (fields : List (List ℕ)) (bytes : List ℕ) → IsReached items fields → IsAccepted (stage_of items) fields bytes → Stands (fields_at items fields) (spelt_next (next_of (stage_of items) fields) bytes)
stands_here items [] bytes reached accepted =
    ⊎_elim
    (λ (low : (stage_of items).least < SEQ_LIMIT). stands_whole items [] bytes reached accepted (can_be_below (stage_of items) (bytes ∷ []) (open_here items [] bytes reached accepted) (accepted, tt) refl low))
    (λ (high : SEQ_LIMIT ≤ (stage_of items).least). stands_number items bytes reached accepted high) (cases_lt (stage_of items).least SEQ_LIMIT)
stands_here items (f ∷ fields) bytes reached accepted =
    stands_whole items (f ∷ fields) bytes reached accepted
    (can_be_here (stage_of items) (f ∷ fields ++ bytes ∷ []) (open_here items (f ∷ fields) bytes reached accepted) (all_here items (f ∷ fields) bytes reached accepted) (λ one. absurd (omega (arith, length-append fields (bytes ∷ [])))))

-- the fields of a place may stand
stand_fields :
    (items : List Item) (before fields : List (List ℕ)) → IsReached items before → AreAccepted (stage_of items) before fields → AllStand (fields_at items before) (named_from (stage_of items) before fields)
stand_fields items before [] reached all = tt
stand_fields items before (bytes ∷ fields) reached all =
    let here : IsReached items (before ++ bytes ∷ []) = record { first = reached.first; accepted = accepted_more (stage_of items) [] before bytes reached.accepted all.0 } in
    (stands_here items before bytes reached all.0, subst (λ (ss : List Spelt). AllStand ss (named_from (stage_of items) (before ++ bytes ∷ []) fields)) (fields_more first_stage items before bytes) (stand_fields items (before ++ bytes ∷ []) fields here all.1))

pub all_stand : (items : List Item) (fields : List (List ℕ)) → IsReached items fields → AllStand [] (fields_at items fields)
all_stand items fields reached =
    let first = reached.first in
    let begins : Begins SEQ_LIMIT (items_fields items) =
    record { trace = first.trace; is_trace = first.is_trace; rest = items_fields first.rest; whole = fields_are first.trace ∙ ap (λ (its : List Item). items_fields its) first.whole ∙ items_fields-append items first.rest } in
    let here : IsReached items [] = record { first = first; accepted = tt } in
    stand-append [] (items_fields items) (named (stage_of items) fields) (stand_begun [] (items_fields items) begins)
    (subst (λ (ss : List Spelt). AllStand ss (named (stage_of items) fields)) (append-nil (items_fields items)) (stand_fields items [] fields here reached.accepted))
