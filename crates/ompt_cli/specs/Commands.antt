-- What a command does: what its words and its text decide, what it reports of its run, and what it writes.
use Rattle.std.specs.Prelude.{ℕ, ◌<◌, ◌≤◌, true, length, ◌≡◌, ◌≢◌, ⊤, List, [], ◌++◌, Option, Some, None, string_bytes}
use Rattle.std.specs.{Io.KnownBytes.Appends, Io.KnownBytes.Keeps, declared.string.String.String, declared.alloc.Global.Global}
use Rattle.omp_model.specs.declared.cause.Cause.TheVariants as cause
use Rattle.ompt_words.specs.declared.settings.RunOutput.TheVariants as output
use Rattle.tool_report.specs.Timeline.{timeline_of}
use Rattle.ompt_words.specs.declared.settings.Command.TheVariants.{List as Listing, Profile as Profiling, Timeline as Timelining}
use Rattle.team_run.specs.Program.{run_of_program}
use Rattle.ompt_cli.specs.Names.{AppendsFront, Rose, TreeView, Cause, Run, records_of, lines_of, after, EventRecord, generated, summary_of, AreShared, profile_of, SEQ_LIMIT, fields_of, spelling}
use Rattle.ompt_cli.specs.Names.{pending_at, threads_over, main_returned, trace_of, file_of, history_fields, history_spelling, Entry, Command, Generating, Recording, Running, Settings}
use Rattle.ompt_cli.specs.declared.end.End.TheVariants.{Ended, Shown, Usage, Refused, ReadFault, WriteFault, Memory}
use Rattle.ompt_cli.specs.declared.{end.Refusal.Refusal, end.End.End, report.Report.Report}

-- the program that ran, by its tree and by its text. A guest of the report is a box of a vtable and what lies behind it
abbrev pub program_in : {Table : Type 0} {Behind : Table → Type 0} → Report Table Behind → TreeView
program_in report = report.program.tree.value

abbrev pub text_in : {Table : Type 0} {Behind : Table → Type 0} → Report Table Behind → List ℕ
text_in report = report.program.text.value.items

-- the run that a report is of
abbrev pub run_of : {Table : Type 0} {Behind : Table → Type 0} → Report Table Behind → Run
run_of report = run_of_program (program_in report) report.mask report.threads report.steps

-- every thread that was made has ended, and main has returned
pub record IsWhole (run : Run) (history : List Entry) : Type 0 where
  pub over : threads_over (after run history).world ≡ true
  pub returned : main_returned (after run history).world ≡ true

-- the cause is Done or Returned
abbrev pub IsReturn : Cause → Type 0
IsReturn cause.Done = ⊤
IsReturn (cause.Returned value) = ⊤
IsReturn other = ⊥

-- no thread of the run is inside a callback
abbrev pub AreOutside : Run → List Entry → Type 0
AreOutside run history = (k : ℕ) → k < run.threads → pending_at (after run history) k ≡ None

-- nothing is written of a run that found no memory
abbrev pub unless_memory : Cause → List ℕ → List ℕ
unless_memory cause.Memory lines = []
unless_memory other lines = lines

-- recorders have events between them that are few enough for a trace
abbrev pub IsSharedFew : List (List EventRecord) → Type 0
IsSharedFew parts = (events : List EventRecord) × AreShared events parts × (length events ≤ SEQ_LIMIT)

-- the command runs the guests, and not the parts that this program has itself
abbrev pub HasGuests : Command → Type 0
HasGuests (Running what) = ⊤
HasGuests other = ⊥

-- what a command makes of these events: `list` a line for each, and `gen` the summary of a run whose program printed this
abbrev pub text_of_events : Command → List EventRecord → List ℕ → List ℕ
text_of_events (Generating blocks) events printed = summary_of (generated blocks) events printed
text_of_events other events printed = lines_of events

-- how many columns a timeline has
abbrev pub columns_in : Command → ℕ
columns_in (Timelining columns) = columns
columns_in other = 0

-- what a command writes of its run of the program of this text, which ended in this cause: a listing a line for each record, a recording
-- the trace, a profile the counts, a timeline the states, `run` what the program printed, the history file, or what was printed and then
-- the counts, and `gen` the summary
abbrev pub written_by : Command → List ℕ → Run → Cause → List Entry → List ℕ
written_by Listing text run cause history = lines_of (records_of run history)
written_by Recording text run cause history = spelling (fields_of (trace_of run cause history))
written_by Profiling text run cause history = profile_of (records_of run history)
written_by (Timelining columns) text run cause history = timeline_of columns (records_of run history)
written_by (Running output.Printed) text run cause history = (after run history).world.store.text
written_by (Running output.History) text run cause history = history_spelling (history_fields (file_of text run cause history))
written_by (Running output.Profile) text run cause history = (after run history).world.store.text ++ profile_of (records_of run history)
written_by (Generating blocks) text run cause history =
    summary_of (generated blocks) (records_of run history) (after run history).world.store.text

-- that is what this makes of the events of the run and of what the program printed
abbrev pub IsWrittenBy : (Command → List EventRecord → List ℕ → List ℕ) → Command → Type 0
IsWrittenBy text_of command = (text : List ℕ) (run : Run) (cause : Cause) (history : List Entry) →
    written_by command text run cause history ≡ text_of command (records_of run history) (after run history).world.store.text

-- what a command writes of its run, if there was one
abbrev pub run_text : {Table : Type 0} {Behind : Table → Type 0} → Option (Report Table Behind) → List ℕ
run_text None = []
run_text (Some report) = unless_memory report.cause (written_by report.command (text_in report) (run_of report) report.cause report.history)

-- what a command writes: the text that its words ask for, or else what it writes of its run
abbrev pub out_of : {Table : Type 0} {Behind : Table → Type 0} → Option (String Global) → Option (Report Table Behind) → List ℕ
out_of None ran = run_text ran
out_of (Some text) ran = string_bytes text

-- the settings with which a report's run was made
abbrev pub settings_in : {Table : Type 0} {Behind : Table → Type 0} → Report Table Behind → Settings
settings_in report = record { command = report.command; threads = report.threads; steps = report.steps; serial = report.serial }

-- the end of a command whose text is refused for this: that refusal, or what comes before it
abbrev pub MayRefuse : Refusal → End → Type 0
MayRefuse why (Refused other) = other ≡ why
MayRefuse why ReadFault = ⊤
MayRefuse why Memory = ⊤
MayRefuse why other = ⊥

-- the end of a command whose text is the program: none for its words or its text
abbrev pub MayRun : End → Type 0
MayRun (Ended why) = ⊤
MayRun ReadFault = ⊤
MayRun WriteFault = ⊤
MayRun Memory = ⊤
MayRun other = ⊥

-- the end of a command whose words ask for a run: its text may be refused too
abbrev pub EndsRun : End → Type 0
EndsRun (Refused why) = ⊤
EndsRun other = MayRun other

-- the end of a command whose words ask for a text: it is shown, unless a write or memory fails
abbrev pub IsShowing : End → Type 0
IsShowing Shown = ⊤
IsShowing WriteFault = ⊤
IsShowing Memory = ⊤
IsShowing other = ⊥

-- the end of a command whose words ask for no run, and for nothing to be read: they are refused, or a text is shown
abbrev pub IsUnread : End → Type 0
IsUnread Usage = ⊤
IsUnread other = IsShowing other

-- the end of a command that reads a trace or a history file: any but those of a run, of a text that is shown, and of words that are refused
abbrev pub IsReading : End → Type 0
IsReading (Ended why) = ⊥
IsReading Shown = ⊥
IsReading Usage = ⊥
IsReading other = ⊤

-- the end of a command that comes before its run
abbrev pub IsBeforeRun : End → Type 0
IsBeforeRun (Refused why) = ⊤
IsBeforeRun ReadFault = ⊤
IsBeforeRun Memory = ⊤
IsBeforeRun other = ⊥

-- the end of a command whose run ended in this cause: the cause is told, unless a write or memory fails
abbrev pub EndsAs : Cause → End → Type 0
EndsAs why (Ended told) = (told ≡ why) × (why ≢ cause.Memory)
EndsAs why WriteFault = why ≢ cause.Memory
EndsAs why Memory = ⊤
EndsAs why other = ⊥

-- What a command has written of this text, by how it ended: all of it, a front of it where a write failed, and nothing where memory
-- failed. Over what the output holds before and after.
pub record HasWritten (end : End) (text : List ℕ) (old new : Option (List ℕ)) : Type 0 where
  pub listed : end ≢ WriteFault → end ≢ Memory → Appends old new text
  pub part : end ≡ WriteFault → AppendsFront old new text
  pub kept : end ≡ Memory → Keeps old new

-- a count of faults rose where the command ended for them, and else is as it was
pub record CountsFaults (end faulty : End) (before now : ℕ) : Type 0 where
  pub rose : end ≡ faulty → Rose before now
  pub steady : end ≢ faulty → now ≡ before
