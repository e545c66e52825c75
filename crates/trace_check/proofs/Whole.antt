-- What is known of all the items of a whole input is known of the trace.
use Rattle.std.proofs.Common.{ℕ, List, Option, subst}
use Rattle.std.specs.Io.KnownBytes.{Consumes}
use Rattle.trace_format.specs.declared.item.Item.{Item}
use Rattle.trace_format.specs.declared.trace.Trace.{Trace}
use Rattle.trace_format.specs.Inputs.{IsInput}
use Rattle.trace_format.specs.Items.{IsRead, items_of}
use Rattle.trace_format.specs.Validity.{Writes}
use Rattle.trace_check.specs.declared.told.Told.{Told}
use Rattle.trace_check.specs.Items.{KnowsItems}

pub whole_known :
    (told : Told) (left rest : Option (List ℕ)) (P : Trace → Type 0)
    → ((taken : List ℕ) × (items : List Item) × IsInput left taken × Consumes left rest taken × IsRead taken items × KnowsItems told items)
    → ((trace : Trace) → KnowsItems told (items_of trace) → P trace)
    → (taken : List ℕ) × (trace : Trace) × IsInput left taken × Writes trace taken × P trace
whole_known told left rest P (taken, items, input, consumed, read, knows) says =
    (taken, read.trace, input, read.writes, says read.trace (subst (KnowsItems told) read.items_are knows))
