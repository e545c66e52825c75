-- What the code has written of some items, and what it writes at the end of the input, from the end mark that it has kept. This serves the contracts
-- of private functions and the proofs: what is written of a whole trace is said in `Written`.
use Rattle.std.specs.Prelude.{ℕ, ◌≡◌, ◌≢◌, ◌⊎◌, List, [], ◌∷◌, ◌++◌, Option, Some}
use Rattle.std.specs.Io.KnownBytes.{Appends}
use Rattle.run_edges.specs.Edges.{AppendsFront, Rose}
use Rattle.trace_format.specs.declared.item.Item.{Item}
use Rattle.trace_format.specs.declared.item.Item.TheVariants as item
use Rattle.trace_format.specs.declared.trace.EndMark.{EndMark}
use Rattle.trace_copy.specs.declared.copied.Copied.{Copied}
use Rattle.trace_copy.specs.declared.copied.Copied.TheVariants.{WriteFault, Memory}
use Rattle.trace_copy.specs.declared.form.Form.{Form}
use Rattle.trace_copy.specs.declared.form.Form.TheVariants.{Lines, SecondVersion}
use Rattle.trace_copy.specs.Written.{line_of_end, written_of}

-- the end mark that came last among these items
abbrev pub last_end : Option EndMark → List Item → Option EndMark
last_end found [] = found
last_end found (item.More ∷ rest) = last_end found rest
last_end found (item.Header header ∷ rest) = last_end found rest
last_end found (item.Event event ∷ rest) = last_end found rest
last_end found (item.End end ∷ rest) = last_end (Some end) rest

-- what is written once the input has come to its end: the line of the end mark
abbrev pub last_line : Form → Option EndMark → List ℕ
last_line Lines (Some end) = line_of_end end
last_line form found = []

-- What is said of these items was written, and the end mark that came last is kept.
abbrev pub HasPut : Form → (before now : Option EndMark) (held after : Option (List ℕ)) → List Item → Type 0
HasPut form before now held after items = (now ≡ last_end before items) × Appends held after (written_of form items)

-- A write or memory failed at one more item. The faults are those that were counted before and after.
pub record StopsAt (form : Form) (stop : Copied) (faults counted : ℕ) (held after : Option (List ℕ)) (items : List Item) (next : Item) : Type 0 where
  pub ends : (stop ≡ WriteFault) ⊎ (stop ≡ Memory)
  pub memory : form ≡ SecondVersion → stop ≢ Memory
  pub write : stop ≡ WriteFault → Rose faults counted
  pub steady : stop ≢ WriteFault → counted ≡ faults
  pub part : AppendsFront held after (written_of form (items ++ next ∷ []))
