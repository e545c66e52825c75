-- What a command that reads a trace or a history file has read and written, by how it ended.
use Rattle.std.specs.Prelude.{ℕ, ◌≡◌, ◌≢◌, IsSomeAnd, List, [], ◌∷◌, ◌++◌, Option, Ok, Err, codes}
use Rattle.std.specs.Io.KnownBytes.{Appends, Keeps}
use Rattle.trace_check.specs.declared.checked.Checked.TheVariants as checked
use Rattle.trace_copy.specs.declared.copied.Copied.TheVariants as copied
use Rattle.tool_tasks.specs.declared.unread.Unread.TheVariants as unread
use Rattle.trace_copy.specs.{declared.form.Form.TheVariants.Lines, declared.form.Form.TheVariants.SecondVersion, declared.form.Form.Form, Copying.HasCopied}
use Rattle.ompt_cli.specs.Names.{AppendsFront, Writes, Refusal, Trace, Breach, HasChecked, Nested, HasReadNested, IsForestText, ReadCommand, Check, Migrate, Rerun, Show, Tasks, HistoryFile}
use Rattle.ompt_cli.specs.{Histories.Certifies, Histories.HasRerun, Histories.MayCertify, declared.end.End.End, Names.WritesHistory}
use Rattle.ompt_cli.specs.declared.end.End.TheVariants.{Read, TraceRefused, Broken, ReadFault, WriteFault, Memory}

-- the trace breaks no rule of the checker
abbrev pub IsNested : Trace → Type 0
IsNested trace = Nested trace.header trace.events trace.end

-- Over what the source has left before and after, and what the output holds before and after.

-- a trace was copied in this form
abbrev pub HasCopy : Form → End → (left rest held after : Option (List ℕ)) → Type 0
HasCopy form Read left rest held after = HasCopied form copied.Whole left rest held after
HasCopy form (TraceRefused refusal) left rest held after = HasCopied form (copied.Refused refusal) left rest held after
HasCopy form ReadFault left rest held after = HasCopied form copied.ReadFault left rest held after
HasCopy form WriteFault left rest held after = HasCopied form copied.WriteFault left rest held after
HasCopy form Memory left rest held after = HasCopied form copied.Memory left rest held after
HasCopy form other left rest held after = ⊥

-- what is written of a trace that is nested
abbrev pub ok_text : List ℕ
ok_text = codes "ok" ++ 10 ∷ []

-- a trace was checked, and nothing is written but where it is nested
abbrev pub HasJudged : End → (left rest held after : Option (List ℕ)) → Type 0
HasJudged Read left rest held after = HasChecked checked.Nested left rest × Appends held after ok_text
HasJudged (TraceRefused refusal) left rest held after = HasChecked (checked.Refused refusal) left rest × Keeps held after
HasJudged (Broken breach) left rest held after = HasChecked (checked.Broken breach) left rest × Keeps held after
HasJudged ReadFault left rest held after = HasChecked checked.ReadFault left rest × Keeps held after
HasJudged WriteFault left rest held after = HasChecked checked.Nested left rest × AppendsFront held after ok_text
HasJudged Memory left rest held after = HasChecked checked.Memory left rest × Keeps held after
HasJudged other left rest held after = ⊥

-- The tasks of a trace were told: a nested trace was read whole, and the text of its tasks is written, or a front of it where a write
-- failed. Nothing is written else
abbrev pub HasTasks : End → (left rest held after : Option (List ℕ)) → Type 0
HasTasks Read left rest held after =
    (trace : Trace) × HasReadNested (Ok trace) left rest × IsNested trace × (text : List ℕ) × IsForestText trace.events text ×
    Appends held after text
HasTasks (TraceRefused refusal) left rest held after = HasReadNested (Err (unread.Refused refusal)) left rest × Keeps held after
HasTasks (Broken breach) left rest held after = HasReadNested (Err (unread.Broken breach)) left rest × Keeps held after
HasTasks ReadFault left rest held after = HasReadNested (Err unread.ReadFault) left rest × Keeps held after
HasTasks WriteFault left rest held after =
    (trace : Trace) × HasReadNested (Ok trace) left rest × IsNested trace × (text : List ℕ) × IsForestText trace.events text ×
    AppendsFront held after text
HasTasks Memory left rest held after = Keeps held after
HasTasks other left rest held after = ⊥

-- what the command has read and written
abbrev pub HasRead : ReadCommand → End → (left rest held after : Option (List ℕ)) → Type 0
HasRead Show end left rest held after = HasCopy Lines end left rest held after
HasRead Migrate end left rest held after = HasCopy SecondVersion end left rest held after
HasRead Check end left rest held after = HasJudged end left rest held after
HasRead Rerun end left rest held after = HasRerun end left held after
HasRead Tasks end left rest held after = HasTasks end left rest held after

-- What a command that reads has read and written, by how it ended: the trace or the file was read to its end, or it is refused, isn't
-- nested or isn't legal, or a read, a write or memory failed. No trace is refused, no nested one has a breach, and `migrate` takes no
-- memory. Each certificate is found to be one.
pub record HasReadInput (command : ReadCommand) (end : End) (left rest held after : Option (List ℕ)) : Type 0 where
  pub copied : HasRead command end left rest held after
  pub unrefused : (trace : Trace) → IsSomeAnd left (Writes trace) → (refusal : Refusal) → end ≢ TraceRefused refusal
  pub unbroken : (trace : Trace) → IsSomeAnd left (Writes trace) → IsNested trace → (breach : Breach) → end ≢ Broken breach
  pub migrated : command ≡ Migrate → end ≢ Memory
  pub certified : command ≡ Rerun → (file : HistoryFile) → IsSomeAnd left (WritesHistory file) → Certifies file → MayCertify end
