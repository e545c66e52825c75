-- What was read of a source and said of it, by how the checking of a trace ended.
use Rattle.std.specs.Prelude.{ℕ, List, Option}
use Rattle.std.specs.Io.KnownBytes.{Consumes}
use Rattle.trace_format.specs.declared.trace.Trace.{Trace}
use Rattle.trace_format.specs.Inputs.{IsInput, IsRefusedInput, IsUnrefused}
use Rattle.trace_format.specs.Validity.{Writes}
use Rattle.trace_check.specs.declared.checked.Checked.{Checked}
use Rattle.trace_check.specs.declared.checked.Checked.TheVariants as checked
use Rattle.trace_check.specs.Nested.{IsFirstBreach, Nested}

-- By the end, over what the source has left before and after. The whole input is a trace, and is nested or has this first breach; or the input is
-- refused; or a read failed behind bytes that aren't. Want of memory is free.
abbrev pub HasChecked : Checked → (left rest : Option (List ℕ)) → Type 0
HasChecked checked.Nested left rest =
    (taken : List ℕ) × (trace : Trace) × IsInput left taken × Writes trace taken × Nested trace.header trace.events trace.end
HasChecked (checked.Broken breach) left rest =
    (taken : List ℕ) × (trace : Trace) × IsInput left taken × Writes trace taken × IsFirstBreach trace.header trace.events trace.end breach
HasChecked (checked.Refused refusal) left rest = (taken : List ℕ) × IsRefusedInput left taken refusal
HasChecked checked.ReadFault left rest = (taken : List ℕ) × Consumes left rest taken × IsUnrefused taken
HasChecked checked.Memory left rest = Unit {0}
