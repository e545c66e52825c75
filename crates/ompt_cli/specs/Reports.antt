-- What a report says of its run.
use Rattle.std.specs.Prelude.{ℕ, ◌≡◌, ◌≢◌, List, Option, Some, IsSomeAnd}
use Rattle.std.specs.declared.{alloc.Global.Global, dyn_box.DynBox.DynBox}
use Rattle.omp_model.specs.declared.cause.Cause.TheVariants as cause
use Rattle.ompt_words.specs.declared.settings.RunOutput.TheVariants as output
use Rattle.team_run.specs.{declared.ran.Ran.Ran, Program.IsRan, Program.RunsTo, Program.run_of as ran_of, Serving.AreSame, Serving.RunsParts, Standing.HearsSilent}
use Rattle.ompt_cli.specs.Names.{PROFILE_MASK, AreAlways, after, records_of, EventRecord, AreKept, Record, Recording, Running, trace_of, IsTrace, IsCertificate, IsHistoryFile}
use Rattle.ompt_cli.specs.Commands.{CountsFaults, EndsAs, HasGuests, HasWritten, program_in, run_of, run_text, settings_in, text_in}
use Rattle.ompt_cli.specs.{declared.end.End.End, declared.end.End.TheVariants.Memory, declared.end.End.TheVariants.WriteFault, declared.job.Job.Job, declared.observing.ObservedRun.ObservedRun}
use Rattle.ompt_cli.specs.{declared.report.Report.Report, Guests.GuestsAfter, Histories.file_of_report, Commands.AreOutside}

-- a command that ended so has written what a program printed, and more may be written behind it: it ran guests and was asked for no history,
-- and neither memory nor a write failed
abbrev pub HasPrinted : {Table : Type 0} {Behind : Table → Type 0} → End → Option (Report Table Behind) → Type 0
HasPrinted end ran = IsSomeAnd ran (λ report. HasGuests report.command × (report.command ≢ Running output.History)) × (end ≢ Memory) × (end ≢ WriteFault)

-- the report is of a run of this job
pub record Observes {Table : Type 0} {Behind : Table → Type 0} (job : Job) (report : Report Table Behind) : Type 0 where
  pub asked : settings_in report ≡ job.settings
  pub program_is : program_in report ≡ job.loaded.program
  pub text_is : text_in report ≡ job.loaded.text.items
  pub to : RunsTo (run_of report) report.serial report.cause report.history
  pub outside : report.cause ≢ cause.Memory → AreOutside (run_of report) report.history
  pub always : AreAlways report.mask

-- where the parts are no guests, all callbacks of the profile are registered, and nothing is stored
pub record StaysSilent {Table : Type 0} {Behind : Table → Type 0} (report : Report Table Behind) : Type 0 where
  pub mask_is : report.mask ≡ PROFILE_MASK
  pub silent : HearsSilent (run_of report) report.history

-- the run that is reported makes a history file, which is a certificate of it
pub record HasCertificate {Table : Type 0} {Behind : Table → Type 0} (report : Report Table Behind) : Type 0 where
  pub is_file : IsHistoryFile (file_of_report report)
  pub certificate : IsCertificate (run_of report) (file_of_report report)

-- What a command reports that has run this job and ended so: its end is the run's, unless a write or memory fails. `run` without a profile
-- needs no memory after its run, what is recorded is a trace, and a history file is a certificate. The guests were called for what their
-- threads heard, and what the command writes of its run was written. Over the guests before, and what the output holds and counts
pub record Reports {O Table : Type 0} {Behind : Table → Type 0} (stands_for : DynBox Table Global Behind → Record → Type 0)
    (held : O → Option (List ℕ)) (writes_failed : O → ℕ) (job : Job) (guests : List (DynBox Table Global Behind)) (out out_now : O)
    (end : End) (report : Report Table Behind) : Type 0 where
  pub observes : Observes job report
  pub stays : ¬ HasGuests report.command → StaysSilent report
  pub ended : EndsAs report.cause end
  pub memory : HasGuests report.command → report.command ≢ Running output.Profile → report.cause ≢ cause.Memory → end ≢ Memory
  pub traced : end ≢ WriteFault → end ≢ Memory → report.command ≡ Recording → IsTrace (trace_of (run_of report) report.cause report.history)
  pub certified : end ≢ WriteFault → end ≢ Memory → report.command ≡ Running output.History → HasCertificate report
  pub guests_are : GuestsAfter stands_for guests report
  pub written : HasWritten end (run_text (Some report)) (held out) (held out_now)
  pub faults : CountsFaults end WriteFault (writes_failed out) (writes_failed out_now)

-- this was answered of a run of this job with these parts
abbrev pub RunsJob : {P : Type 0} → (P → Record → Type 0) → (P → P → Type 0) → Job → List P → Ran P → Type 0
RunsJob stands_for Same job parts ran =
    IsRan stands_for Same job.settings.serial (ran_of job.loaded.program job.settings.threads job.settings.steps ran) parts ran

-- the parts of a run of this job: they were called for what their threads heard, and are those that were given. The run printed this
-- text
pub record HasObserved {P Table : Type 0} {Behind : Table → Type 0} (stands_for : P → Record → Type 0) (Same : P → P → Type 0)
    (job : Job) (parts : List P) (observed : ObservedRun P Table Behind) : Type 0 where
  pub observes : Observes job observed.report
  pub runs : RunsParts stands_for observed.report.serial (run_of observed.report) observed.report.cause observed.report.history
      parts observed.parts.items
  pub same : AreSame Same parts observed.parts.items
  pub printed : observed.text.items ≡ (after (run_of observed.report) observed.report.history).world.store.text

-- parts that keep this of what they are told were run with this job: all callbacks of the profile were registered, nothing was stored, and
-- each kept its share of the records of the run, which printed this text
pub record HasKept {Table A : Type 0} {Behind : Table → Type 0} (keep : List EventRecord → A) (job : Job)
    (observed : ObservedRun A Table Behind) : Type 0 where
  pub observes : Observes job observed.report
  pub stays : StaysSilent observed.report
  pub kept : AreKept keep (records_of (run_of observed.report) observed.report.history) observed.parts.items
  pub printed : observed.text.items ≡ (after (run_of observed.report) observed.report.history).world.store.text
