-- What was read of a source, by what was answered.
use Rattle.std.specs.Prelude.{ℕ, List, Option, Result, Ok, Err}
use Rattle.std.specs.Io.KnownBytes.{Consumes}
use Rattle.trace_check.specs.Nested.{IsFirstBreach, Nested}
use Rattle.trace_format.specs.declared.trace.Trace.{Trace}
use Rattle.trace_format.specs.Inputs.{IsInput, IsRefusedInput, IsUnrefused}
use Rattle.trace_format.specs.Validity.{Writes}
use Rattle.tool_tasks.specs.declared.unread.Unread.{Unread}
use Rattle.tool_tasks.specs.declared.unread.Unread.TheVariants.{Refused, Broken, ReadFault, Memory}

-- By the answer, over what the source has left before and after. The whole input is the spelling of the trace that is given, or of one with this first
-- breach; or the input is refused; or a read failed behind bytes that aren't. Want of memory is free.
abbrev pub HasReadNested : Result Trace Unread → (left rest : Option (List ℕ)) → Type 0
HasReadNested (Ok trace) left rest = (taken : List ℕ) × IsInput left taken × Consumes left rest taken × Writes trace taken
HasReadNested (Err (Refused refusal)) left rest = (taken : List ℕ) × IsRefusedInput left taken refusal
HasReadNested (Err (Broken breach)) left rest =
    (taken : List ℕ) × (trace : Trace) × IsInput left taken × Writes trace taken × IsFirstBreach trace.header trace.events trace.end breach
HasReadNested (Err ReadFault) left rest = (taken : List ℕ) × Consumes left rest taken × IsUnrefused taken
HasReadNested (Err Memory) left rest = Unit {0}

-- what is answered of a trace. It is no fault of the input
abbrev pub IsJudged : Result (Unit {0}) Unread → Trace → Type 0
IsJudged (Ok done) trace = Nested trace.header trace.events trace.end
IsJudged (Err (Refused refusal)) trace = ⊥
IsJudged (Err (Broken breach)) trace = IsFirstBreach trace.header trace.events trace.end breach
IsJudged (Err ReadFault) trace = ⊥
IsJudged (Err Memory) trace = Unit {0}
