-- What was read of a source and written to a sink as a picture, by how it ended.
use Rattle.std.specs.Prelude.{ℕ, ◌≡◌, List, Option}
use Rattle.std.specs.Io.KnownBytes.{Appends, Consumes, Keeps}
use Rattle.run_edges.specs.Edges.{AppendsFront}
use Rattle.trace_check.specs.Nested.{IsFirstBreach, Nested}
use Rattle.trace_format.specs.declared.trace.Trace.{Trace}
use Rattle.trace_format.specs.Inputs.{IsInput, IsRefusedInput, IsUnrefused}
use Rattle.trace_format.specs.Validity.{Writes}
use Rattle.trace_view.specs.declared.picture.Picture.{Picture}
use Rattle.trace_view.specs.declared.picture.Picture.TheVariants.{Tasks, Timeline, Waits}
use Rattle.trace_view.specs.declared.viewed.Viewed.{Viewed}
use Rattle.trace_view.specs.declared.viewed.Viewed.TheVariants.{Whole, Refused, Broken, ReadFault, WriteFault, Memory}
use Rattle.trace_view.specs.Dot.{IsDot}
use Rattle.trace_view.specs.Svg.{svg_of}
use Rattle.trace_view.specs.Waits.{IsWaitTable}

-- the text is this picture of the trace
abbrev pub IsPicture : Picture → Trace → List ℕ → Type 0
IsPicture Tasks trace text = IsDot trace.events text
IsPicture (Timeline columns) trace text = text ≡ svg_of columns trace.events
IsPicture Waits trace text = IsWaitTable trace.events text

-- By the end, over what the source has left before and after, and what the sink holds before and after. The whole input is a nested trace,
-- and its picture was written, or a front of it; or it is a trace with this first breach; or the input is refused, or a read failed. Then
-- nothing was written.
abbrev pub HasDrawn : Picture → Viewed → (left rest held after : Option (List ℕ)) → Type 0
HasDrawn picture Whole left rest held after =
    (taken : List ℕ) × (trace : Trace) × (text : List ℕ) × IsInput left taken
    × Writes trace taken × Nested trace.header trace.events trace.end × IsPicture picture trace text × Appends held after text
HasDrawn picture (Refused refusal) left rest held after = (taken : List ℕ) × IsRefusedInput left taken refusal × Keeps held after
HasDrawn picture (Broken breach) left rest held after =
    (taken : List ℕ) × (trace : Trace) × IsInput left taken × Writes trace taken × IsFirstBreach trace.header trace.events trace.end breach
    × Keeps held after
HasDrawn picture ReadFault left rest held after = (taken : List ℕ) × Consumes left rest taken × IsUnrefused taken × Keeps held after
HasDrawn picture WriteFault left rest held after =
    (taken : List ℕ) × (trace : Trace) × (text : List ℕ) × IsInput left taken
    × Writes trace taken × Nested trace.header trace.events trace.end × IsPicture picture trace text × AppendsFront held after text
HasDrawn picture Memory left rest held after = Keeps held after

-- what was written of a trace, by how it ended: the whole picture, a front of it, or nothing. Nothing else comes to pass
abbrev pub HasPut : Picture → Trace → Viewed → (held after : Option (List ℕ)) → Type 0
HasPut picture trace Whole held after = (text : List ℕ) × IsPicture picture trace text × Appends held after text
HasPut picture trace (Refused refusal) held after = ⊥
HasPut picture trace (Broken breach) held after = ⊥
HasPut picture trace ReadFault held after = ⊥
HasPut picture trace WriteFault held after = (text : List ℕ) × IsPicture picture trace text × AppendsFront held after text
HasPut picture trace Memory held after = Keeps held after
