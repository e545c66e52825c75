-- What is written of the items of a whole trace, and then at the end of the input, is what is written of the trace.
use Rattle.std.proofs.Common.{ℕ, ◌≡◌, List, [], ◌∷◌, ◌++◌, map, Option, Some, None, refl, sym, ap, ap₂, ◌∙◌}
use Rattle.std.specs.List.{flat_map}
use Rattle.std.proofs.lemmas.List.{append-nil}
use Rattle.ompt_calls.specs.declared.event.EventRecord.{EventRecord}
use Rattle.ompt_calls.specs.Line.{line_text}
use Rattle.trace_format.specs.declared.item.Item.{Item}
use Rattle.trace_format.specs.declared.item.Item.TheVariants as item
use Rattle.trace_format.specs.declared.trace.EndMark.{EndMark}
use Rattle.trace_format.specs.declared.trace.Trace.{Trace}
use Rattle.trace_format.specs.Fields.{Spelt, fields_of, spelling}
use Rattle.trace_format.specs.Items.{item_bytes, items_bytes, items_of}
use Rattle.trace_format.proofs.Following.{fields_are}
use Rattle.trace_format.proofs.Lists.{spelling_items}
use Rattle.trace_copy.specs.declared.form.Form.{Form}
use Rattle.trace_copy.specs.declared.form.Form.TheVariants.{Lines, SecondVersion}
use Rattle.trace_copy.specs.Ending.{last_end, last_line}
use Rattle.trace_format.specs.Migrating.{migrated_header, migrated_trace}
use Rattle.trace_copy.specs.Written.{written_of, written_of_trace}

-- events, and the end mark behind them
abbrev ended : List EventRecord → EndMark → List Item
ended events end = map item.Event events ++ item.End end ∷ []

-- the end mark comes last among them
last_ended : (found : Option EndMark) (events : List EventRecord) (end : EndMark) → last_end found (ended events end) ≡ Some end
last_ended found [] end = refl
last_ended found (event ∷ events) end = last_ended found events end

-- they are written as a line for each event
lines_ended :
    (events : List EventRecord) (end : EndMark)
    → written_of Lines (ended events end) ≡ flat_map (λ (event : EventRecord). line_text event.seq event.thread event.call) events
lines_ended [] end = refl
lines_ended (event ∷ events) end = ap (λ (bytes : List ℕ). line_text event.seq event.thread event.call ++ bytes) (lines_ended events end)

-- .. or as their own bytes: they are the same in both versions of the format
second_ended : (events : List EventRecord) (end : EndMark) → written_of SecondVersion (ended events end) ≡ items_bytes (ended events end)
second_ended [] end = refl
second_ended (event ∷ events) end = ap (λ (bytes : List ℕ). item_bytes (item.Event event) ++ bytes) (second_ended events end)

-- the bytes of a trace are those of its items
bytes_of_items : (trace : Trace) → spelling (fields_of trace) ≡ items_bytes (items_of trace)
bytes_of_items trace = ap (λ (fields : List Spelt). spelling fields) (fields_are trace) ∙ spelling_items (items_of trace)

-- what is written of the items of a trace, and then at the end of the input, is what is written of the trace
pub written_whole_trace :
    (form : Form) (trace : Trace) → written_of form (items_of trace) ++ last_line form (last_end None (items_of trace)) ≡ written_of_trace form trace
written_whole_trace Lines trace =
    ap₂ (λ (a b : List ℕ). a ++ b) (lines_ended trace.events trace.end)
    (ap (λ (found : Option EndMark). last_line Lines found) (last_ended None trace.events trace.end))
written_whole_trace SecondVersion trace =
    append-nil (written_of SecondVersion (items_of trace))
    ∙ ap (λ (bytes : List ℕ). item_bytes (item.Header (migrated_header trace.header)) ++ bytes) (second_ended trace.events trace.end)
    ∙ sym (bytes_of_items (migrated_trace trace))

-- .. where these are the items of the trace
pub written_read :
    (form : Form) (trace : Trace) (items : List Item) → items ≡ items_of trace
    → written_of form items ++ last_line form (last_end None items) ≡ written_of_trace form trace
written_read form trace items are =
    ap (λ (its : List Item). written_of form its ++ last_line form (last_end None its)) are ∙ written_whole_trace form trace
