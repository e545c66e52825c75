-- What was read of a source and written to a sink, by how it ended.
use Rattle.std.specs.Prelude.{ℕ, ◌⊎◌, List, Option}
use Rattle.std.specs.Io.KnownBytes.{Appends, Consumes}
use Rattle.run_edges.specs.Edges.{AppendsFront}
use Rattle.trace_format.specs.declared.item.Item.{Item}
use Rattle.trace_format.specs.declared.trace.Trace.{Trace}
use Rattle.trace_format.specs.Inputs.{AreItems, IsInput, IsInputFront, IsRefusedInput}
use Rattle.trace_format.specs.Validity.{Writes}
use Rattle.trace_copy.specs.declared.form.Form.{Form}
use Rattle.trace_copy.specs.declared.copied.Copied.{Copied}
use Rattle.trace_copy.specs.declared.copied.Copied.TheVariants.{Whole, Refused, ReadFault, WriteFault, Memory}
use Rattle.trace_copy.specs.Written.{written_of, written_of_trace}

-- what was written before a write or memory failed: a front of what is written of the items of a front of the input, or, where the whole input is a
-- trace, a front of what is written of it
abbrev pub IsCutOff : Form → (left held after : Option (List ℕ)) → Type 0
IsCutOff form left held after =
    ((taken : List ℕ) × (items : List Item) × IsInputFront left taken × AreItems taken items × AppendsFront held after (written_of form items))
    ⊎ ((taken : List ℕ) × (trace : Trace) × IsInput left taken × Writes trace taken × AppendsFront held after (written_of_trace form trace))

-- By the end, over what the source has left before and after, and what the sink holds before and after. The whole input is a trace, and is written
-- so; or the input is refused, or a read failed, and what is written is that of the items that are whole in what was taken.
abbrev pub HasCopied : Form → Copied → (left rest held after : Option (List ℕ)) → Type 0
HasCopied form Whole left rest held after =
    (taken : List ℕ) × (trace : Trace) × IsInput left taken × Writes trace taken × Appends held after (written_of_trace form trace)
HasCopied form (Refused refusal) left rest held after =
    (taken : List ℕ) × (items : List Item) × IsRefusedInput left taken refusal × AreItems taken items × Appends held after (written_of form items)
HasCopied form ReadFault left rest held after =
    (taken : List ℕ) × (items : List Item) × Consumes left rest taken × AreItems taken items × Appends held after (written_of form items)
HasCopied form WriteFault left rest held after = IsCutOff form left held after
HasCopied form Memory left rest held after = IsCutOff form left held after
