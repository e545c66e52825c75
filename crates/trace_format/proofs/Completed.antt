-- Items that may follow one another begin a trace, and so do fields of an item that may come next.
use Rattle.std.proofs.Common.{◌≡◌, ℕ, ◌≤◌, ◌⊎◌, true, false, List, [], ◌∷◌, ◌++◌, Some, None, inl, inr, refl, sym, ap, subst, ◌∙◌, append_assoc, append-nil, true≢false, arith}
use Rattle.trace_format.specs.declared.item.Item.{Item}
use Rattle.trace_format.specs.declared.item.Item.TheVariants as item
use Rattle.trace_format.specs.declared.trace.Header.{Header}
use Rattle.trace_format.specs.declared.trace.Trace.{Trace}
use Rattle.trace_format.specs.declared.trace.TheConstants.{SEQ_LIMIT}
use Rattle.trace_format.specs.Fields.{Spelt}
use Rattle.trace_format.specs.Items.{AreFirst, item_fields, items_of}
use Rattle.trace_format.specs.Reached.{stage_of}
use Rattle.trace_format.specs.Refusing.{Begins}
use Rattle.trace_format.specs.Taking.{Stage, first_stage, next_stage, stage_from}
use Rattle.trace_format.specs.Validity.{IsDetail, IsHeader, IsTraceBelow}
use Rattle.trace_format.proofs.Following.{Follow, fields_are, follow-append, follow_front, follow_higher, items_follow, trace_of}
use Rattle.trace_format.proofs.Lists.{items_fields, items_fields-append, stage-append}
use Rattle.trace_format.proofs.Rows.{IsItemBelow, IsOpen, can_be_here}

-- what is so of the stages behind items
pub record IsGood (stage : Stage) : Type 0 where
  pub header : (header : Header) → stage.header ≡ Some header → IsHeader header
  pub least : stage.least ≤ SEQ_LIMIT
  pub count : stage.count ≤ stage.least
  pub first : stage.header ≡ None → stage.least ≡ 0

pub good_first : IsGood first_stage
good_first = record { header = λ header never. absurd (cc); least = omega arith; count = omega arith; first = λ none. refl }

same_some : (a b : Header) → Some a ≡ Some b → b ≡ a
same_some a b same = cc

pub good_next : (stage : Stage) (it : Item) → IsGood stage → IsItemBelow SEQ_LIMIT stage it → IsGood (next_stage stage it)
good_next stage item.More good is_item = good
good_next stage (item.Header header) good is_item =
    record { header = λ other same. subst IsHeader (sym (same_some header other same)) is_item.1; least = good.least; count = good.count; first = λ never. absurd (cc) }
good_next stage (item.Event event) good is_item =
    record { header = good.header; least = omega (arith, is_item.3); count = omega (arith, good.count, is_item.2); first = λ none. let never : Some is_item.0 ≡ None = sym is_item.1 ∙ none in absurd (cc) }
good_next stage (item.End end) good is_item = record { header = good.header; least = good.least; count = good.count; first = good.first }

pub good_from : (stage : Stage) (items : List Item) → IsGood stage → Follow SEQ_LIMIT stage items → IsGood (stage_from stage items)
good_from stage [] good all = good
good_from stage (it ∷ items) good all = good_from (next_stage stage it) items (good_next stage it good all.1) all.2

pub open_of : (stage : Stage) → IsGood stage → stage.over ≡ false → IsOpen stage
open_of stage good goes = record { not_over = goes; header = good.header; least = good.least; count = good.count }

pub open_at : (items : List Item) → Follow SEQ_LIMIT first_stage items → (stage_of items).over ≡ false → IsOpen (stage_of items)
open_at items all goes = open_of (stage_of items) (good_from first_stage items good_first all) goes

-- a trace, with sequence numbers below this limit, begins with these items
pub record HasTrace (limit : ℕ) (items : List Item) : Type 0 where
  pub trace : Trace
  pub is_trace : IsTraceBelow limit trace
  pub rest : List Item
  pub whole : items_of trace ≡ items ++ rest

-- the end mark can always come behind the header
done : IsDetail 0 0
done = record { status_is = refl; short = omega arith; none = λ among. refl; some = λ never. absurd (true≢false (sym never)); trap = λ never. absurd (omega arith); limit = λ never. absurd (omega arith) }

-- behind an item stands the header, or the end mark
behind_item : (limit : ℕ) (stage : Stage) (it : Item) → IsItemBelow limit stage it → ((next_stage stage it).over ≡ true) ⊎ ((header : Header) × ((next_stage stage it).header ≡ Some header) × ((next_stage stage it).over ≡ stage.over))
behind_item limit stage item.More is_item = absurd is_item
behind_item limit stage (item.Header header) is_item = inr (header, refl, refl)
behind_item limit stage (item.Event event) is_item = inr (is_item.0, is_item.1, refl)
behind_item limit stage (item.End end) is_item = inl refl

completed : (limit : ℕ) (items : List Item) (stage : Stage) → stage_of items ≡ stage → Follow limit first_stage items → (stage.over ≡ true) ⊎ ((header : Header) × (stage.header ≡ Some header) × (stage.over ≡ false)) → HasTrace limit items
completed limit items stage at all (inl over) =
    let t = trace_of limit items all (ap (λ (s : Stage). s.over) at ∙ over) in
    record { trace = t.trace; is_trace = t.is_trace; rest = []; whole = t.items_are ∙ sym (append-nil items) }
completed limit items stage at all (inr goes) =
    let end = item.End (record { status = 0; detail = 0; count = stage.count }) in
    let one : Follow limit stage (end ∷ []) = (goes.2, (goes.0, goes.1, done, refl), tt) in
    let more = follow-append limit first_stage items (end ∷ []) all (subst (λ (s : Stage). Follow limit s (end ∷ [])) (sym at) one) in
    let over : (stage_of (items ++ end ∷ [])).over ≡ true = ap (λ (s : Stage). s.over) (stage-append first_stage items (end ∷ [])) in
    let t = trace_of limit (items ++ end ∷ []) more over in
    record { trace = t.trace; is_trace = t.is_trace; rest = end ∷ []; whole = t.items_are }

pub follow_more : (limit : ℕ) (items : List Item) (it : Item) → SEQ_LIMIT ≤ limit → Follow SEQ_LIMIT first_stage items → (stage_of items).over ≡ false → IsItemBelow limit (stage_of items) it → Follow limit first_stage (items ++ it ∷ [])
follow_more limit items it less all goes is_item = follow-append limit first_stage items (it ∷ []) (follow_higher SEQ_LIMIT limit first_stage items less all) (goes, is_item, tt)

pub trace_with : (limit : ℕ) (items : List Item) (it : Item) → SEQ_LIMIT ≤ limit → Follow SEQ_LIMIT first_stage items → (stage_of items).over ≡ false → IsItemBelow limit (stage_of items) it → HasTrace limit (items ++ it ∷ [])
trace_with limit items it less all goes is_item =
    completed limit (items ++ it ∷ []) (next_stage (stage_of items) it) (stage-append first_stage items (it ∷ [])) (follow_more limit items it less all goes is_item)
    (elim (behind_item limit (stage_of items) it is_item) [ inl over ↦ inl over | inr header ↦ inr (header.0, header.1, header.2 ∙ goes) ])

pub first_of_trace : (items : List Item) → HasTrace SEQ_LIMIT items → AreFirst items
first_of_trace items has = record { trace = has.trace; is_trace = has.is_trace; rest = has.rest; whole = has.whole }

pub follow_of : (items : List Item) → AreFirst items → Follow SEQ_LIMIT first_stage items
follow_of items first = follow_front SEQ_LIMIT first_stage items first.rest (subst (λ (its : List Item). Follow SEQ_LIMIT first_stage its) first.whole (items_follow SEQ_LIMIT first.trace first.is_trace))

pub first_more : (items : List Item) (it : Item) → Follow SEQ_LIMIT first_stage items → (stage_of items).over ≡ false → IsItemBelow SEQ_LIMIT (stage_of items) it → AreFirst (items ++ it ∷ [])
first_more items it all goes is_item = first_of_trace (items ++ it ∷ []) (trace_with SEQ_LIMIT items it (omega arith) all goes is_item)

-- a trace begins with nothing
pub first_none : AreFirst []
first_none =
    let goes = open_of first_stage good_first refl in
    let whole = can_be_here first_stage [] goes tt (λ one. absurd (omega arith)) in
    let first = first_more [] whole.it tt refl whole.is_item in
    record { trace = first.trace; is_trace = first.is_trace; rest = whole.it ∷ first.rest; whole = first.whole }

-- .. and with fields of an item that may come next
fields-split : (all a b r : List Spelt) (fields : List Spelt) → fields ≡ a ++ b → all ++ (fields ++ r) ≡ (all ++ a) ++ (b ++ r)
fields-split all a b r fields same = ap (λ (fs : List Spelt). all ++ (fs ++ r)) same ∙ simp append_assoc

pub begins_with : (limit : ℕ) (items : List Item) (it : Item) (a b : List Spelt) → SEQ_LIMIT ≤ limit → Follow SEQ_LIMIT first_stage items → (stage_of items).over ≡ false → IsItemBelow limit (stage_of items) it → item_fields it ≡ a ++ b → Begins limit (items_fields items ++ a)
begins_with limit items it a b less all goes is_item fields =
    let has = trace_with limit items it less all goes is_item in
    record {
      trace = has.trace;
      is_trace = has.is_trace;
      rest = b ++ items_fields has.rest;
      whole =
          fields_are has.trace
          ∙ ap (λ (its : List Item). items_fields its) (has.whole ∙ append_assoc items (it ∷ []) has.rest)
          ∙ items_fields-append items (it ∷ has.rest)
          ∙ fields-split (items_fields items) a b (items_fields has.rest) (item_fields it) fields;
    }
