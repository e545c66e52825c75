-- What is collected of the items of a trace. It serves the contracts of private functions and the proofs.
use Rattle.std.specs.Prelude.{List, [], ◌∷◌, ◌++◌}
use Rattle.trace_format.specs.declared.item.Item.{Item}
use Rattle.trace_format.specs.declared.item.Item.TheVariants as item
use Rattle.trace_format.specs.declared.trace.Trace.{Trace}
use Rattle.tool_tasks.specs.declared.collector.Collector.{Collector}

-- the trace that has come
abbrev pub trace_in : Collector → Trace
trace_in collector = record { header = collector.header; events = collector.events.items; end = collector.end }

-- a trace with one item more
abbrev pub with_item : Trace → Item → Trace
with_item trace item.More = trace
with_item trace (item.Header header) = record trace { header = header }
with_item trace (item.Event event) = record trace { events = trace.events ++ event ∷ [] }
with_item trace (item.End end) = record trace { end = end }

abbrev pub collected : Trace → List Item → Trace
collected trace [] = trace
collected trace (it ∷ items) = collected (with_item trace it) items
