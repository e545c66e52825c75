-- Items that may follow one another, and the traces that begin with them.
use Rattle.std.proofs.Common.{◌≡◌, ℕ, ◌+◌, ◌≤◌, true, false, List, [], ◌∷◌, ◌++◌, length, map, Some, None, refl, sym, ap, subst, ◌∙◌, append_assoc, append-nil, true≢false, arith}
use Rattle.std.specs.List.{flat_map}
use Rattle.ompt_calls.specs.declared.event.EventRecord.{EventRecord}
use Rattle.trace_format.specs.declared.item.Item.{Item}
use Rattle.trace_format.specs.declared.item.Item.TheVariants as item
use Rattle.trace_format.specs.declared.trace.EndMark.{EndMark}
use Rattle.trace_format.specs.declared.trace.Header.{Header}
use Rattle.trace_format.specs.declared.trace.Trace.{Trace}
use Rattle.trace_format.specs.Fields.{Spelt, end_fields, event_fields, fields_of, header_fields}
use Rattle.trace_format.specs.Items.{items_of}
use Rattle.trace_format.specs.Reached.{stage_of}
use Rattle.trace_format.specs.Taking.{Stage, first_stage, next_stage, stage_from}
use Rattle.trace_format.specs.Validity.{AreEvents, IsDetail, IsEvent, IsTraceBelow}
use Rattle.trace_format.proofs.Lists.{items_fields}
use Rattle.trace_format.proofs.Rows.{IsItemBelow}

-- each of these items may come where those before it have come
abbrev pub Follow : ℕ → Stage → List Item → Type 0
Follow limit stage [] = Unit {0}
Follow limit stage (it ∷ rest) = (stage.over ≡ false) × IsItemBelow limit stage it × Follow limit (next_stage stage it) rest

pub follow-append : (limit : ℕ) (stage : Stage) (a b : List Item) → Follow limit stage a → Follow limit (stage_from stage a) b → Follow limit stage (a ++ b)
follow-append limit stage [] b first then_b = then_b
follow-append limit stage (it ∷ a) b first then_b = (first.0, first.1, follow-append limit (next_stage stage it) a b first.2 then_b)

pub follow_front : (limit : ℕ) (stage : Stage) (a b : List Item) → Follow limit stage (a ++ b) → Follow limit stage a
follow_front limit stage [] b all = tt
follow_front limit stage (it ∷ a) b all = (all.0, all.1, follow_front limit (next_stage stage it) a b all.2)

pub follow_rest : (limit : ℕ) (stage : Stage) (a b : List Item) → Follow limit stage (a ++ b) → Follow limit (stage_from stage a) b
follow_rest limit stage [] b all = all
follow_rest limit stage (it ∷ a) b all = follow_rest limit (next_stage stage it) a b all.2

-- a higher limit
pub item_higher : (low high : ℕ) (stage : Stage) (it : Item) → low ≤ high → IsItemBelow low stage it → IsItemBelow high stage it
item_higher low high stage item.More less is_item = is_item
item_higher low high stage (item.Header header) less is_item = is_item
item_higher low high stage (item.Event event) less is_item = (is_item.0, is_item.1, is_item.2, omega (arith, is_item.3), is_item.4)
item_higher low high stage (item.End end) less is_item = is_item

pub follow_higher : (low high : ℕ) (stage : Stage) (items : List Item) → low ≤ high → Follow low stage items → Follow high stage items
follow_higher low high stage [] less all = tt
follow_higher low high stage (it ∷ rest) less all = (all.0, item_higher low high stage it less all.1, follow_higher low high (next_stage stage it) rest less all.2)

-- the items of a trace
behind_header : Header → ℕ → ℕ → Stage
behind_header header count least = record { header = Some header; count = count; least = least; over = false }

record AreOver (limit : ℕ) (stage : Stage) (items : List Item) : Type 0 where
  follow : Follow limit stage items
  over : (stage_from stage items).over ≡ true

events_follow :
    (limit : ℕ) (header : Header) (count least : ℕ) (events : List EventRecord) (end : EndMark) → AreEvents limit header least events → IsDetail end.status end.detail → end.count ≡ count + length events
    → AreOver limit (behind_header header count least) (map item.Event events ++ item.End end ∷ [])
unfolding behind_header
events_follow limit header count least [] end all detail counted = record { follow = (refl, (header, refl, detail, omega arith), tt); over = refl }
events_follow limit header count least (event ∷ events) end all detail counted =
    let more = events_follow limit header (count + 1) (event.seq + 1) events end all.3 detail (omega arith) in
    record { follow = (refl, (header, refl, all.0, all.1, all.2), more.follow); over = more.over }

pub items_follow : (limit : ℕ) (trace : Trace) → IsTraceBelow limit trace → Follow limit first_stage (items_of trace)
unfolding behind_header
items_follow limit trace is_trace = (refl, (refl, is_trace.header), (events_follow limit trace.header 0 0 trace.events trace.end is_trace.events is_trace.detail (omega (arith, is_trace.count))).follow)

pub items_over : (limit : ℕ) (trace : Trace) → IsTraceBelow limit trace → (stage_of (items_of trace)).over ≡ true
unfolding behind_header
items_over limit trace is_trace = (events_follow limit trace.header 0 0 trace.events trace.end is_trace.events is_trace.detail (omega (arith, is_trace.count))).over

-- .. have its fields
events_fields : (events : List EventRecord) (end : EndMark) → items_fields (map item.Event events ++ item.End end ∷ []) ≡ flat_map event_fields events ++ end_fields end
events_fields [] end = append-nil (end_fields end)
events_fields (event ∷ events) end = ap (λ (fs : List Spelt). event_fields event ++ fs) (events_fields events end) ∙ sym (append_assoc (event_fields event) (flat_map event_fields events) (end_fields end))

pub fields_are : (trace : Trace) → fields_of trace ≡ items_fields (items_of trace)
fields_are trace = ap (λ (fs : List Spelt). header_fields trace.header ++ fs) (sym (events_fields trace.events trace.end))

-- items that may follow one another up to an end mark are those of a trace
record AreEventsOf (limit : ℕ) (header : Header) (count least : ℕ) (items : List Item) : Type 0 where
  events : List EventRecord
  end : EndMark
  items_are : items ≡ map item.Event events ++ item.End end ∷ []
  are_events : AreEvents limit header least events
  detail : IsDetail end.status end.detail
  counted : end.count ≡ count + length events

same_header : (a b : Header) → Some a ≡ Some b → a ≡ b
same_header a b same = cc

none_behind : (limit : ℕ) (stage : Stage) (items : List Item) → stage.over ≡ true → Follow limit stage items → items ≡ []
none_behind limit stage [] over all = refl
none_behind limit stage (it ∷ items) over all = absurd (true≢false (sym over ∙ all.0))

events_of : (limit : ℕ) (header : Header) (count least : ℕ) (items : List Item) → Follow limit (behind_header header count least) items → (stage_from (behind_header header count least) items).over ≡ true → AreEventsOf limit header count least items
unfolding behind_header
events_of limit header count least [] all over = absurd (true≢false (sym over))
events_of limit header count least (item.More ∷ items) all over = absurd all.1
events_of limit header count least (item.Header other ∷ items) all over = let never : Some header ≡ None = all.1.0 in absurd (cc)
events_of limit header count least (item.Event event ∷ items) all over =
    let more = events_of limit header (count + 1) (event.seq + 1) items all.2 over in
    let same = same_header header all.1.0 all.1.1 in
    record {
      events = event ∷ more.events;
      end = more.end;
      items_are = ap (λ (its : List Item). item.Event event ∷ its) more.items_are;
      are_events = (all.1.2, all.1.3, subst (λ (h : Header). IsEvent h event) (sym same) all.1.4, more.are_events);
      detail = more.detail;
      counted = omega (arith, more.counted);
    }
events_of limit header count least (item.End end ∷ items) all over =
    record {
      events = [];
      end = end;
      items_are = ap (λ (its : List Item). item.End end ∷ its) (none_behind limit (record { header = Some header; count = count; least = least; over = true }) items refl all.2);
      are_events = tt;
      detail = all.1.2;
      counted = omega (arith, all.1.3);
    }

pub record IsTraceOf (limit : ℕ) (items : List Item) : Type 0 where
  pub trace : Trace
  pub is_trace : IsTraceBelow limit trace
  pub items_are : items_of trace ≡ items

pub trace_of : (limit : ℕ) (items : List Item) → Follow limit first_stage items → (stage_of items).over ≡ true → IsTraceOf limit items
unfolding behind_header
trace_of limit [] all over = absurd (true≢false (sym over))
trace_of limit (item.More ∷ items) all over = absurd all.1
trace_of limit (item.Header header ∷ items) all over =
    let more = events_of limit header 0 0 items all.2 over in
    record {
      trace = record { header = header; events = more.events; end = more.end };
      is_trace = record { header = all.1.1; events = more.are_events; detail = more.detail; count = omega (arith, more.counted) };
      items_are = ap (λ (its : List Item). item.Header header ∷ its) (sym more.items_are);
    }
trace_of limit (item.Event event ∷ items) all over = let never : None ≡ Some all.1.0 = all.1.1 in absurd (cc)
trace_of limit (item.End end ∷ items) all over = let never : None ≡ Some all.1.0 = all.1.1 in absurd (cc)
