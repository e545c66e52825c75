-- What the top call says of its words, its run, its text, and what it touched, each as one record.
use Rattle.std.specs.Prelude.{ℕ, ◌≡◌, ◌≢◌, ◌<◌, ◌⊎◌, ◌↔◌, true, List, [], Option, Some, IfSome, IsSome, IsNone, IsSomeAnd}
use Rattle.std.specs.declared.{string.String.String, alloc.Global.Global}
use Rattle.omp_model.specs.declared.cause.Cause.TheVariants as causes
use Rattle.ompt_words.specs.declared.settings.Request.TheVariants as request
use Rattle.ompt_words.specs.declared.settings.RunOutput.TheVariants as output
use Rattle.omp_model.specs.Serial.{WholeSerial, serial as history_of_serial}
use Rattle.team_run.specs.Standing.{HearsSilent}
use Rattle.ompt_cli.specs.Names.{Rose, PROFILE_MASK, AreAlways, Cause, cause_of, Legal, Serial, trace_of, IsTrace, IsCertificate, WritesHistory, AreReadAs, AreWrong, AskForText, HoldBoth, AskInForm}
use Rattle.ompt_cli.specs.Names.{InForm, own_settings, Generating, Recording, Running, Settings, ReadCommand}
use Rattle.ompt_cli.specs.Commands.{EndsAs, EndsRun, HasWritten, IsReading, IsShowing, HasGuests, IsUnread, MayRefuse, MayRun, out_of, program_in, run_of, run_text, settings_in, text_in}
use Rattle.ompt_cli.specs.declared.end.End.TheVariants.{Ended, Shown, Usage, Refused, ReadFault, WriteFault, Memory}
use Rattle.ompt_cli.specs.{Commands.AreOutside, Commands.IsReturn, Commands.IsWhole, Histories.file_of_report, Text.IsProgram, Text.IsRefused, Text.Spells, Text.text_for, Traces.HasReadInput, Traces.IsNested}
use Rattle.ompt_cli.specs.{Words.AskFor, Words.AskForRun, Words.AskToRead, declared.end.End.End, declared.end.Refusal.Refusal, declared.report.Report.Report}

-- What the words decide: which of a run, a text that is shown and a trace or a history file that is read is there, one at most, and which
-- ends there may be. Words are refused only where clap may find a mistake in them, or where they are `run` with both `--history` and
-- `--profile`, and these always are. Words that ask for a run aren't, and a text is read only for them. A text is shown only where clap
-- may say so, and words of the form up to `--help` or `--version` have theirs shown. A trace or a history file is read only where the
-- words ask for it, and for no others. An end that tells of a run comes with that run, and a write that failed had something to write: a
-- text that the words ask for, or what a run gave that found memory.
pub record FollowsWords {Table : Type 0} {Behind : Table → Type 0} (words : List (List ℕ)) (end : End) (shown : Option (String Global))
    (read : Option ReadCommand) (ran : Option (Report Table Behind)) : Type 0 where
  pub usage : end ≡ Usage → AreWrong words × IsNone ran × IsNone shown × IsNone read
  pub formed : AskForRun words → EndsRun end × IsNone shown × IsNone read
  pub other : ¬ AskForRun words → ((command : ReadCommand) → ¬ AskToRead words command) → IsUnread end × IsNone ran × IsNone read
  pub shown_alone : IfSome shown (λ text. AskForText words × IsShowing end × IsNone ran × IsNone read)
  pub displayed : end ≡ Shown → IsSome shown
  pub help : AskInForm words → IsShowing end
  pub clash : HoldBoth words → (end ≡ Usage) ⊎ (end ≡ Memory)
  pub reads : (command : ReadCommand) → AskToRead words command →
      (read ≡ Some command) ⊎ ((end ≡ Memory) × IsNone ran × IsNone shown × IsNone read)
  pub read_alone : IfSome read (λ command. AreReadAs words (request.Read command) × IsReading end × IsNone ran × IsNone shown)
  pub ended : (why : Cause) → end ≡ Ended why → IsSomeAnd ran (λ report. report.cause ≡ why)
  pub unwritten : end ≡ WriteFault → IsNone read → IsSome shown ⊎ IsSomeAnd ran (λ report. report.cause ≢ causes.Memory)

-- What a report says of its run. It ran with the command, the threads and the steps that the words ask for, and serially where they do:
-- where they are in the form, their own with the defaults. What ran is the program that the text spells, which is the source's. Its
-- history is legal, and ends in the cause that is reported: whole exactly at Done or Returned, and with no thread inside a callback.
-- Unless its cause is Memory, a serial history is one to the end, and it is the one in which nothing is stored for all commands but
-- `run`, and where no tool stored anything. The end is the run's, unless a write or memory fails. Over what the source has left.
pub record IsRunOf {Table : Type 0} {Behind : Table → Type 0} (words : List (List ℕ)) (left : Option (List ℕ)) (end : End)
    (report : Report Table Behind) : Type 0 where
  pub asked : AreReadAs words (request.Run (settings_in report))
  pub own : (form : InForm words) → settings_in report ≡ own_settings form
  pub text : IfSome (text_for report.command left) (λ text. text ≡ text_in report)
  pub spelled : Spells (text_in report) (program_in report)
  pub mask : ¬ HasGuests report.command → report.mask ≡ PROFILE_MASK
  pub always : AreAlways report.mask
  pub legal : Legal (run_of report) report.history
  pub cause : report.cause ≢ causes.Memory → cause_of (run_of report) report.history ≡ Some report.cause
  pub finished : report.cause ≢ causes.Memory → IsReturn report.cause ↔ IsWhole (run_of report) report.history
  pub outside : report.cause ≢ causes.Memory → AreOutside (run_of report) report.history
  pub serial : report.serial ≡ true → Serial (run_of report) report.history
  pub whole : report.serial ≡ true → ¬ HasGuests report.command → report.cause ≢ causes.Memory →
      report.history ≡ history_of_serial (run_of report)
  pub silent_run : report.serial ≡ true → report.cause ≢ causes.Memory → HearsSilent (run_of report) report.history →
      report.history ≡ history_of_serial (run_of report)
  pub to_the_end : report.serial ≡ true → report.cause ≢ causes.Memory → WholeSerial (run_of report) report.history
  pub ended : EndsAs report.cause end
  pub memory : HasGuests report.command → report.command ≢ Running output.Profile → report.cause ≢ causes.Memory → end ≢ Memory
  pub begun : report.cause ≡ causes.Memory → report.history ≢ []

-- What is recorded of a run is a trace of the format. Where the parts of a run are no guests, the trace of the run, written or not,
-- breaks no rule of the checker. What is written as the history of a run is a history file, whose text spells the program that ran, and
-- which is a certificate of the run.
pub record HasTrace {Table : Type 0} {Behind : Table → Type 0} (end : End) (report : Report Table Behind) : Type 0 where
  pub traced : end ≢ WriteFault → end ≢ Memory → report.command ≡ Recording → IsTrace (trace_of (run_of report) report.cause report.history)
  pub nested : ¬ HasGuests report.command → report.cause ≢ causes.Memory → IsNested (trace_of (run_of report) report.cause report.history)
  pub history_file : end ≢ WriteFault → end ≢ Memory → report.command ≡ Running output.History →
      WritesHistory (file_of_report report) (run_text (Some report))
  pub certificate : end ≢ WriteFault → end ≢ Memory → report.command ≡ Running output.History →
      IsCertificate (run_of report) (file_of_report report)

-- A text that was to run is refused for what it is: what the source has left, or the program that is generated. A text that is refused
-- for something ends for that, and one that is a program isn't refused, unless a read or memory fails first.
pub record JudgesText (words : List (List ℕ)) (left : Option (List ℕ)) (end : End) (read : Option ReadCommand) : Type 0 where
  pub refused : IsNone read → (why : Refusal) → end ≡ Refused why → (settings : Settings) × AreReadAs words (request.Run settings) ×
      IfSome (text_for settings.command left) (IsRefused why)
  pub accepted : (settings : Settings) → AskFor words settings → (why : Refusal) →
      IsSomeAnd (text_for settings.command left) (IsRefused why) → MayRefuse why end
  pub runs : (settings : Settings) → AskFor words settings → IsSomeAnd (text_for settings.command left) IsProgram → MayRun end

-- Each fault was counted, and a count that is greater than before shows in how the command ended. Over the counts of the source and the
-- output.
pub record ShowsFaults (end : End) (source_before source_now out_before out_now : ℕ) : Type 0 where
  pub read : end ≡ ReadFault → Rose source_before source_now
  pub write : end ≡ WriteFault → Rose out_before out_now
  pub unread : source_before < source_now → end ≡ ReadFault
  pub lost : out_before < out_now → end ≡ WriteFault

-- What stays untouched: the source where the words ask for no text of it, and the output too where they are refused, or where they ask
-- that a trace or a history file is read and there was no memory for them.
pub record StaysUntouched {S O : Type 0} (words : List (List ℕ)) (end : End) (shown : Option (String Global)) (read : Option ReadCommand)
    (source source_now : S) (out out_now : O) : Type 0 where
  pub untouched : end ≡ Usage → (source_now ≡ source) × (out_now ≡ out)
  pub unasked : ¬ AskForRun words → ((command : ReadCommand) → ¬ AskToRead words command) → source_now ≡ source
  pub unread : IfSome shown (λ text. source_now ≡ source)
  pub unread_input : (command : ReadCommand) → AskToRead words command → IsNone read → (source_now ≡ source) × (out_now ≡ out)
  pub generates : (settings : Settings) → AskFor words settings → (blocks : ℕ) → settings.command ≡ Generating blocks → source_now ≡ source

-- All that a command says but the line of its end and the guests. The words decide which of a run, a text that is shown and a trace or a
-- history that is read is there (`words`). What ran is the program that the words and the source say, in one legal run that ends in the
-- cause that is reported (`ran`). Where a trace or a history file was read, the end says what was read and written of it (`read`). A text
-- that was to run is refused exactly for a reason that it has (`text`). Where neither is read, what is written is the text that was asked
-- for, or what the command writes of its run (`written`). A recording is a trace, the trace of each run of the shipped parts is nested,
-- and a history that is written is a certificate (`recorded`). Each fault of a read or a write was counted, and shows in the end
-- (`faults`). Nothing is read that the words don't ask for, and nothing is touched where they are refused (`untouched`). Over what the
-- source has left, what the output holds, and their counts of faults.
pub record CarriesOut {S O Table : Type 0} {Behind : Table → Type 0} (left : S → Option (List ℕ)) (reads_failed : S → ℕ)
    (held : O → Option (List ℕ)) (writes_failed : O → ℕ) (typed : List (List ℕ)) (end : End) (shown : Option (String Global))
    (read_by : Option ReadCommand) (ran_as : Option (Report Table Behind)) (source source_now : S) (out out_now : O) : Type 0 where
  pub words : FollowsWords typed end shown read_by ran_as
  pub ran : IfSome ran_as (IsRunOf typed (left source) end)
  pub read : IfSome read_by (λ command. HasReadInput command end (left source) (left source_now) (held out) (held out_now))
  pub text : JudgesText typed (left source) end read_by
  pub written : IsNone read_by → HasWritten end (out_of shown ran_as) (held out) (held out_now)
  pub recorded : IfSome ran_as (HasTrace end)
  pub faults : ShowsFaults end (reads_failed source) (reads_failed source_now) (writes_failed out) (writes_failed out_now)
  pub untouched : StaysUntouched typed end shown read_by source source_now out out_now
