-- What was decoded is the function of its bytes: a callback is told by its number and its arguments.
use Rattle.std.proofs.Common.{ℕ, ◌≡◌, List, Option, Some, None, sym, ap, ◌∙◌, drop, ne_eqb, eq-eqb}
use Rattle.byteorder.specs.Endian.{big_number}
use Rattle.ompt_calls.specs.declared.call.Call.{Call}
use Rattle.ompt_calls.specs.declared.event.EventRecord.{EventRecord}
use Rattle.trace_format.specs.declared.item.Item.{Item}
use Rattle.trace_format.specs.declared.item.Item.TheVariants as item
use Rattle.trace_format.specs.declared.trace.Header.{Header}
use Rattle.trace_format.specs.Accepting.{kinds_of}
use Rattle.trace_format.specs.Decoding.{IsCallIn, IsEventIn, IsItemIn, made_from}
use Rattle.trace_format.proofs.Decoded.{call_in, event_in, item_in}
use Rattle.trace_format.proofs.EventWhole.{same_event}
use Rattle.trace_format.proofs.Profile.{call_at}
use Rattle.trace_format.proofs.Rows.{end_chosen, event_chosen}

call_is : (number : ℕ) (args : List ℕ) (call : Call) → IsCallIn number args call → call_in number args ≡ call
call_is number args call is =
    ap (λ (n : ℕ). call_in n args) (sym is.number)
    ∙ call_at call args (ap (λ (n : ℕ). made_from 0 (kinds_of n) args) is.number ∙ sym is.arguments)

event_is : (bytes : List ℕ) (event : EventRecord) → IsEventIn bytes event → event_in bytes ≡ event
event_is bytes event is =
    same_event _ _ _ _ _ event (sym is.seq) (sym is.thread) (sym is.state) (sym is.wait_id) (call_is (big_number 1 bytes) (drop 12 bytes) event.call is.call)

pub item_is : (header : Option Header) (bytes : List ℕ) (it : Item) → IsItemIn header bytes it → it ≡ item_in header bytes
item_is None bytes (item.Header header) is = ap item.Header is
item_is None bytes item.More is = absurd is
item_is None bytes (item.Event event) is = absurd is
item_is None bytes (item.End end) is = absurd is
item_is (Some header) bytes (item.Event event) is = sym (event_chosen header bytes (ne_eqb _ 0 is.0) ∙ ap item.Event (event_is bytes event is.1))
item_is (Some header) bytes (item.End end) is = ap item.End is.1 ∙ sym (end_chosen header bytes (eq-eqb _ 0 is.0))
item_is (Some header) bytes item.More is = absurd is
item_is (Some header) bytes (item.Header other) is = absurd is
