-- How the copying of a trace ends, by how the reading of its items did.
use Rattle.std.proofs.Common.{ℕ, ◌≡◌, List, Option, None, inr, sym, subst}
use Rattle.std.proofs.KnownBytes.{Appends-trans}
use Rattle.std.specs.Io.KnownBytes.{Appends, Consumes}
use Rattle.run_edges.specs.Edges.{AppendsFront}
use Rattle.trace_format.specs.declared.item.Item.{Item}
use Rattle.trace_format.specs.declared.trace.EndMark.{EndMark}
use Rattle.trace_format.specs.Inputs.{IsInput}
use Rattle.trace_format.specs.Items.{IsRead}
use Rattle.trace_copy.specs.declared.copied.Copied.{Copied}
use Rattle.trace_copy.specs.declared.copied.Copied.TheVariants.{Whole, WriteFault}
use Rattle.trace_copy.specs.declared.form.Form.{Form}
use Rattle.trace_copy.specs.Copying.{HasCopied, IsCutOff}
use Rattle.trace_copy.specs.Ending.{HasPut, last_line}
use Rattle.trace_copy.specs.Written.{written_of, written_of_trace}
use Rattle.trace_copy.proofs.Onward.{front_behind}
use Rattle.trace_copy.proofs.Traces.{written_read}

-- the whole input was read and is a trace, and what is said of its items was written
abbrev HasReadWhole : (A B C : Type 0) → Form → Option EndMark → (left rest held between : Option (List ℕ)) → Type 0
HasReadWhole A B C form end left rest held between =
    (taken : List ℕ) × (items : List Item) × IsInput left taken × Consumes left rest taken × IsRead taken items
    × (A × B × C × HasPut form None end held between items)

-- .. and its last line
pub copied_whole :
    {A B C : Type 0} (form : Form) (end : Option EndMark) (left rest held between after : Option (List ℕ))
    → HasReadWhole A B C form end left rest held between → Appends between after (last_line form end) → HasCopied form Whole left rest held after
copied_whole form end left rest held between after (taken, items, input, consumed, read, (a, b, c, (is, wrote))) last = (
  taken,
  read.trace,
  input,
  read.writes,
  subst (Appends held after) (written_read form read.trace items read.items_are)
      (Appends-trans held between after (written_of form items) (last_line form _) wrote
      (subst (λ (mark : Option EndMark). Appends between after (last_line form mark)) is last)),
)

-- .. or a front of that
pub copied_last :
    {A B C : Type 0} (form : Form) (end : Option EndMark) (stop : Copied) (left rest held between after : Option (List ℕ))
    → HasReadWhole A B C form end left rest held between → stop ≡ WriteFault → AppendsFront between after (last_line form end)
    → HasCopied form stop left rest held after
copied_last form end stop left rest held between after (taken, items, input, consumed, read, (a, b, c, (is, wrote))) failed last =
    let cut : IsCutOff form left held after =
    inr (
      taken,
      read.trace,
      input,
      read.writes,
      front_behind held between after (written_of form items) (last_line form _) (written_of_trace form read.trace)
          (sym (written_read form read.trace items read.items_are)) wrote
          (subst (λ (mark : Option EndMark). AppendsFront between after (last_line form mark)) is last),
    ) in
    subst (λ (s : Copied). HasCopied form s left rest held after) (sym failed) cut
