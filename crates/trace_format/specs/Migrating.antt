-- What a trace is in the second version of the format.
use Rattle.std.specs.Prelude.{◌==◌, if◌then◌else◌}
use Rattle.trace_format.specs.declared.item.Item.{Item}
use Rattle.trace_format.specs.declared.item.Item.TheVariants as item
use Rattle.trace_format.specs.declared.trace.Header.{Header}
use Rattle.trace_format.specs.declared.trace.Trace.{Trace}
use Rattle.trace_format.specs.declared.trace.TheConstants.{FIRST_VERSION, VERSION, MIGRATED}

-- a header of the first version in the second one: it says where it comes from
abbrev pub migrated_header : Header → Header
migrated_header header =
    if header.version == FIRST_VERSION then record header { version = VERSION; origin = MIGRATED } else header

-- an item in the second version of the format
abbrev pub migrated : Item → Item
migrated (item.Header header) = item.Header (migrated_header header)
migrated other = other

-- the trace in the second version of the format
abbrev pub migrated_trace : Trace → Trace
migrated_trace trace = record trace { header = migrated_header trace.header }
