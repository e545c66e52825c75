-- What is written of a run: a trace, or a history file, which is a certificate of the run.
-- What a command that reads has written, by how it ended. No trace is refused, and a nested one has no breach. And what is so of a history file that is a certificate.
use Rattle.std.proofs.Common.{◌≡◌, ◌⊎◌, ℕ, List, [], ◌∷◌, ◌++◌, map, Option, Some, None, IsSomeAnd, Result, Ok, Err, inl, inr, refl, ap, subst, sym, ◌∙◌, arith, ◌≢◌, ◌≤◌, length}
use Rattle.std.specs.{Io.KnownBytes.Appends, Io.KnownBytes.Keeps, Prelude.IfErr, Prelude.IfOk}
use Rattle.trace_check.specs.declared.checked.Checked.TheVariants as checks
use Rattle.omp_model.specs.declared.cause.Cause.TheVariants as causes
use Rattle.ompt_words.specs.declared.settings.RunOutput.TheVariants as output
use Rattle.ompt_cli.specs.declared.end.End.TheVariants as end
use Rattle.trace_format.{specs.Inputs.IsRefusedInput, specs.Refusing.IsTruncated, proofs.Unique.one_spelling, proofs.Unrefused.never_refused_trace}
use Rattle.trace_check.specs.Nested.{Broken as BreaksRule}
use Rattle.history_file.{specs.declared.file.TheConstants.HISTORY_LIMIT, specs.Verdicts.heard_call, proofs.Lengths.written_short, proofs.OfRuns.files_of_runs}
use Rattle.numbered_runs.proofs.Histories.{same_cause, same_legal}
use Rattle.run_trace.{specs.TraceOf.detail_of, specs.TraceOf.status_of}
use Rattle.ompt_cli.specs.Names.{AppendsFront, ConsumesMore, TreeView, Item, line_text, lines_of, record_of, Refusal, Trace, Writes, Breach, HasChecked, Nested, ReadCommand, Check, Migrate, Rerun, Show, Tasks, HasReadNested, IsForestText, HistoryFile, IsCertificate, run_of_file, WritesHistory, Cause, FitsCause, history_fields, history_spelling, FitsFile, Command}
use Rattle.ompt_cli.specs.Names.{Running, Settings}
use Rattle.ompt_cli.specs.declared.end.End.TheVariants.{Broken, Memory, Read, TraceRefused, WriteFault}
use Rattle.ompt_cli.specs.Histories.{HasRerun, IsCertified, heard_text, lines_of_calls, file_of_report}
use Rattle.ompt_cli.specs.Commands.{HasWritten, EndsAs, run_of, run_text, text_in, unless_memory, written_by}
use Rattle.ompt_cli.{specs.Traces.HasRead, specs.Traces.HasTasks, specs.Traces.IsNested, specs.declared.end.End.End, specs.Text.Spells, proofs.Reading.longer, proofs.Reading.programs-alike, specs.declared.report.Report.Report, specs.declared.job.Job.Job, specs.Reports.HasCertificate, specs.Reports.Observes, proofs.Telling.few-threads, proofs.Telling.some-threads}

-- something is written of each run that found memory
pub unless-found : (of : Cause) (lines : List ℕ) → of ≢ causes.Memory → unless_memory of lines ≡ lines
unless-found causes.Memory lines found = absurd (found refl)
unless-found other lines found = refl

-- an end that isn't want of memory tells of a run that found memory
pub ends-found : (of : Cause) (told : End) → EndsAs of told → told ≢ end.Memory → of ≢ causes.Memory
ends-found of (end.Ended why) ends other = ends.1
ends-found of end.WriteFault ends other = ends
ends-found of end.Memory ends other = absurd (other refl)
ends-found of rest ends other = absurd ends

module _ {Table : Type 0} {Behind : Table → Type 0} (report : Report Table Behind) where
  -- the file that was made is that of the report
  pub file-is : (text : List ℕ) (result : Option (ℕ × ℕ)) (status detail : ℕ) → text_in report ≡ text → result ≡ Some (status, detail) → result ≡ Some (status_of report.cause, detail_of report.cause)
      → record { threads = report.threads; mask = report.mask; steps = report.steps; text = text; history = report.history; status = status; detail = detail } ≡ file_of_report report
  file-is text result status detail text_is is of =
      let pair-is : (a b : ℕ × ℕ) → Some a ≡ Some b → a ≡ b = λ a b same. cc in
      let ends = pair-is (status, detail) (status_of report.cause, detail_of report.cause) (sym is ∙ of) in
      rw (text_is, ap (λ (pair : ℕ × ℕ). pair.0) ends, ap (λ (pair : ℕ × ℕ). pair.1) ends) refl

  -- what is written of the run is what is written of the file
  pub filed-text : report.command ≡ Running output.History → report.cause ≢ causes.Memory → history_spelling (history_fields (file_of_report report)) ≡ run_text (Some report)
  filed-text is found = sym (unless-found report.cause _ found ∙ ap (λ (command : Command). written_by command (text_in report) (run_of report) report.cause report.history) is)

  -- and the file is a certificate
  pub filed : (job : Job) → Observes job report → report.cause ≢ causes.Memory → FitsFile (file_of_report report) → FitsCause report.cause → HasCertificate report
  filed job observes found fits fits_cause =
      let steps : report.steps ≡ job.settings.steps = ap (λ (settings : Settings). settings.steps) observes.asked in
      let both = files_of_runs (run_of report) (text_in report) report.history report.cause (some-threads job report observes) (few-threads job report observes) (omega (arith, steps, job.steps)) (omega (arith, steps, job.bounded))
      observes.always (subst (λ (text : List ℕ). length text ≤ 65536) (sym observes.text_is) job.short) observes.to.legal (observes.to.ends found) fits fits_cause in
      record { is_file = both.0; certificate = both.1 }

-- what is so of each of the three ends with what is written at it
by-end : (Has : End → Type 0) (text : List ℕ) (held after : Option (List ℕ)) (told : End) → (told ≡ Read) ⊎ ((told ≡ WriteFault) ⊎ (told ≡ Memory)) → HasWritten told text held after
    → (Appends held after text → Has Read) → (AppendsFront held after text → Has WriteFault) → (Keeps held after → Has Memory) → Has told
by-end Has text held after told (inl is) written all front kept = subst Has (sym is) (all (written.listed (λ same. let wrong : Read ≡ WriteFault = sym is ∙ same in cc) (λ same. let wrong : Read ≡ Memory = sym is ∙ same in cc)))
by-end Has text held after told (inr (inl is)) written all front kept = subst Has (sym is) (front (written.part is))
by-end Has text held after told (inr (inr is)) written all front kept = subst Has (sym is) (kept (written.kept is))

-- of a certificate
pub written-rerun : (left held after : Option (List ℕ)) (file : HistoryFile) (program : TreeView) (told : End) → (told ≡ Read) ⊎ ((told ≡ WriteFault) ⊎ (told ≡ Memory)) → IsCertified left file program
    → HasWritten told (heard_text program file) held after → HasRerun told left held after
written-rerun left held after file program told ends certified written =
    by-end (λ end. HasRerun end left held after) (heard_text program file) held after told ends written
    (λ all. (file, program, certified, all)) (λ front. (file, program, certified, front)) (λ kept. kept)

-- of the tasks of a nested trace, and nothing where there was no memory for their text
module _ (left rest held after : Option (List ℕ)) (trace : Trace) (has : HasReadNested (Ok trace) left rest) (nested : IsNested trace) where
  pub tasks-told : {T E : Type 0} (items : T → List ℕ) (made : Result T E) (told : End) → (told ≡ Read) ⊎ ((told ≡ WriteFault) ⊎ (told ≡ Memory)) → IfErr made (λ fault. told ≡ Memory)
      → IfOk made (λ lines. IsForestText trace.events (items lines)) → ((text : List ℕ) → IfOk made (λ lines. items lines ≡ text) → HasWritten told text held after) → HasTasks told left rest held after
  tasks-told items (Ok lines) told ends memory forest written =
      by-end (λ end. HasTasks end left rest held after) (items lines) held after told ends (written (items lines) refl)
      (λ all. (trace, has, nested, items lines, forest, all)) (λ front. (trace, has, nested, items lines, forest, front)) (λ kept. kept)
  tasks-told items (Err fault) told ends memory forest written = subst (λ (end : End). HasTasks end left rest held after) (sym memory) ((written [] tt).kept memory)

-- no file is longer than the longest one may be
pub never-long : (left rest : Option (List ℕ)) (file : HistoryFile) → IsSomeAnd left (WritesHistory file) → ConsumesMore left rest HISTORY_LIMIT → ⊥
never-long None rest file is more = is
never-long (Some text) None file is more = more.2
never-long (Some text) (Some rest) file is more = absurd (omega (arith, longer text more.0 rest more.2, more.1, written_short file text is))

-- the lines of the calls are those of the records
pub lines-heard : (items : List Item) → lines_of_calls (map heard_call items) ≡ lines_of (map record_of items)
lines-heard [] = refl
lines-heard (item ∷ items) = ap (λ (rest : List ℕ). line_text item.seq item.thread item.call ++ rest) (lines-heard items)

-- a certificate of one program is one of each that its text spells
pub certificate-of : (file : HistoryFile) (one other : TreeView) → Spells file.text one → Spells file.text other → IsCertificate (run_of_file one file) file → IsCertificate (run_of_file other file) file
certificate-of file one other spells spelled certificate =
    let alike = programs-alike file.text one other spells spelled in record {
      cause = certificate.cause;
      legal = same_legal (run_of_file one file) other alike file.history certificate.legal;
      ends = same_cause (run_of_file one file) other alike file.history ∙ certificate.ends;
      status_is = certificate.status_is;
      detail_is = certificate.detail_is;
    }

-- a trace isn't refused: neither a front of it nor the whole
never-refused : (text taken : List ℕ) (trace : Trace) (refusal : Refusal) → Writes trace text → IsRefusedInput (Some text) taken refusal → ⊥
never-refused text taken trace refusal writes (inl front) = (never_refused_trace trace text refusal writes).0 (record { front = taken; rest = front.0.0; whole = front.0.1; refuses = front.1 })
never-refused text taken trace refusal writes (inr whole) = (never_refused_trace trace text refusal writes).1 (subst (λ (bytes : List ℕ). IsTruncated bytes refusal) (sym whole.0) whole.1)

-- an input that was refused has no trace for its spelling
refused-input : (left : Option (List ℕ)) (taken : List ℕ) (trace : Trace) (refusal : Refusal) → IsSomeAnd left (Writes trace) → IsRefusedInput left taken refusal → ⊥
refused-input None taken trace refusal is refused = is
refused-input (Some text) taken trace refusal is refused = never-refused text taken trace refusal is refused

-- so no command that reads it ends so
pub trace_unrefused : (command : ReadCommand) (left rest held after : Option (List ℕ)) (told : End) (trace : Trace) (refusal : Refusal) → IsSomeAnd left (Writes trace)
    → HasRead command told left rest held after → told ≡ TraceRefused refusal → ⊥
trace_unrefused command left rest held after told trace refusal is read same = by command (subst (λ (told : End). HasRead command told left rest held after) same read)
  where
    by : (command : ReadCommand) → HasRead command (TraceRefused refusal) left rest held after → ⊥
    by Show read = refused-input left read.0 trace refusal is read.2
    by Migrate read = refused-input left read.0 trace refusal is read.2
    by Rerun read = read
    by Check (checked, kept) = refused-input left checked.0 trace refusal is checked.1
    by Tasks (answered, kept) = refused-input left answered.0 trace refusal is answered.1

-- a nested trace has no first breach
nested-unbroken : (left rest : Option (List ℕ)) (trace : Trace) (breach : Breach) → IsSomeAnd left (Writes trace) → Nested trace.header trace.events trace.end → HasChecked (checks.Broken breach) left rest → ⊥
nested-unbroken None rest trace breach is nested broken = is
nested-unbroken (Some text) rest trace breach is nested (taken, other, input, writes, first) =
    let same : other ≡ trace = (one_spelling other trace text text [] [] (subst (Writes other) (sym input) writes) is refl).0 in
    nested breach.rule breach.seq (subst (λ (of : Trace). BreaksRule of.header of.events of.end breach.rule breach.seq) same first.broken)

-- so no command ends with a breach of it
pub trace_unbroken : (command : ReadCommand) (left rest held after : Option (List ℕ)) (told : End) (trace : Trace) (breach : Breach) → IsSomeAnd left (Writes trace)
    → Nested trace.header trace.events trace.end → HasRead command told left rest held after → told ≡ Broken breach → ⊥
trace_unbroken command left rest held after told trace breach is nested read same = by command (subst (λ (told : End). HasRead command told left rest held after) same read)
  where
    by : (command : ReadCommand) → HasRead command (Broken breach) left rest held after → ⊥
    by Check (checked, kept) = nested-unbroken left rest trace breach is nested checked
    by Tasks (answered, kept) = nested-unbroken left rest trace breach is nested answered
    by command read = read
