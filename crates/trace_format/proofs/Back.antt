-- An item is read back from its bytes.
use Rattle.std.proofs.Common.{◌≡◌, ℕ, cond, Bool, Some, Option, List, sym, ap, ◌∙◌, arith}
use Rattle.ompt_calls.specs.declared.event.EventRecord.{EventRecord}
use Rattle.trace_format.specs.declared.item.Item.{Item}
use Rattle.trace_format.specs.declared.item.Item.TheVariants as item
use Rattle.trace_format.specs.declared.trace.Header.{Header}
use Rattle.trace_format.specs.declared.trace.TheConstants.{SEQ_LIMIT}
use Rattle.trace_format.specs.Decoding.{end_in, header_in}
use Rattle.trace_format.specs.Fields.{end_fields, event_fields, header_fields}
use Rattle.trace_format.specs.Items.{item_bytes}
use Rattle.trace_format.specs.Reached.{flat}
use Rattle.trace_format.specs.Taking.{Stage}
use Rattle.trace_format.proofs.Decoded.{event_in, item_in}
use Rattle.trace_format.proofs.Ends.{end_again}
use Rattle.trace_format.proofs.EventWhole.{bytes_of, event_again, event_begins, fields_bytes}
use Rattle.trace_format.proofs.Headers.{header_again}
use Rattle.trace_format.proofs.Lists.{flat_bytes}
use Rattle.trace_format.proofs.Rows.{IsItemBelow, IsOpen}

-- the bytes of an event
event_bytes : (event : EventRecord) → flat (bytes_of event) ≡ item_bytes (item.Event event)
event_bytes event = ap (λ (bs : List (List ℕ)). flat bs) (sym (fields_bytes event)) ∙ flat_bytes (event_fields event)

pub item_back : (stage : Stage) (it : Item) → IsOpen stage → IsItemBelow SEQ_LIMIT stage it → item_in stage.header (item_bytes it) ≡ it
item_back stage item.More goes is_item = absurd is_item
item_back stage (item.Header header) goes is_item =
    ap (λ (o : Option Header). item_in o (item_bytes (item.Header header))) is_item.0
    ∙ ap (λ (bs : List ℕ). item.Header (header_in bs)) (sym (flat_bytes (header_fields header)))
    ∙ ap item.Header (header_again header is_item.1)
item_back stage (item.Event event) goes is_item =
    let bytes = flat (bytes_of event) in
    ap (λ (o : Option Header). item_in o (item_bytes (item.Event event))) is_item.1
    ∙ ap (λ (bs : List ℕ). item_in (Some is_item.0) bs) (sym (event_bytes event))
    ∙ ap (λ (b : Bool). cond b (item.End (end_in bytes)) (item.Event (event_in bytes))) (event_begins event)
    ∙ ap item.Event (event_again is_item.0 event (goes.header is_item.0 is_item.1) is_item.3 is_item.4)
item_back stage (item.End end) goes is_item =
    ap (λ (o : Option Header). item_in o (item_bytes (item.End end))) is_item.1
    ∙ ap (λ (bs : List ℕ). item.End (end_in bs)) (sym (flat_bytes (end_fields end)))
    ∙ ap item.End (end_again end is_item.2 (omega (arith, is_item.3, goes.count, goes.least)))
