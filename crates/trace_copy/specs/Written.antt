-- What is written of a trace and of its items: lines, or the trace in the second version of the format.
use Rattle.std.specs.Prelude.{ℕ, List, [], ◌∷◌, ◌++◌, codes}
use Rattle.std.specs.List.{flat_map}
use Rattle.std.specs.Fmt.{decimal}
use Rattle.ompt_calls.specs.declared.event.EventRecord.{EventRecord}
use Rattle.ompt_calls.specs.Line.{line_text}
use Rattle.trace_format.specs.declared.item.Item.{Item}
use Rattle.trace_format.specs.declared.item.Item.TheVariants as item
use Rattle.trace_format.specs.declared.trace.EndMark.{EndMark}
use Rattle.trace_format.specs.declared.trace.Trace.{Trace}
use Rattle.trace_format.specs.Fields.{fields_of, spelling}
use Rattle.trace_format.specs.Items.{item_bytes}
use Rattle.trace_format.specs.Migrating.{migrated, migrated_trace}
use Rattle.trace_copy.specs.declared.form.Form.{Form}
use Rattle.trace_copy.specs.declared.form.Form.TheVariants.{Lines, SecondVersion}

-- a line for each event
abbrev pub line_of_item : Item → List ℕ
line_of_item (item.Event event) = line_text event.seq event.thread event.call
line_of_item other = []

-- what is written of an item, as soon as it is whole
abbrev pub written_of_item : Form → Item → List ℕ
written_of_item Lines it = line_of_item it
written_of_item SecondVersion it = item_bytes (migrated it)

-- what is written of items, as they come
abbrev pub written_of : Form → List Item → List ℕ
written_of form items = flat_map (written_of_item form) items

-- a line for the end mark
abbrev pub line_of_end : EndMark → List ℕ
line_of_end end = codes "end " ++ decimal end.status ++ codes " " ++ decimal end.detail ++ codes " " ++ decimal end.count ++ 10 ∷ []

-- what is written of a whole trace: a line for each event and one for the end mark, or the trace in the second version of the format
abbrev pub written_of_trace : Form → Trace → List ℕ
written_of_trace Lines trace =
    flat_map (λ (event : EventRecord). line_text event.seq event.thread event.call) trace.events ++ line_of_end trace.end
written_of_trace SecondVersion trace = spelling (fields_of (migrated_trace trace))
