-- What is known of a report, in the words of `top`.
use Rattle.std.proofs.Common.{◌∙◌, ◌≤◌, ◌⊎◌, inl, inr, arith, Bool, ◌≡◌, ℕ, List, refl, sym, ap}
use Rattle.std.specs.{declared.alloc.Global.Global, declared.dyn_box.DynBox.DynBox}
use Rattle.ompt_words.specs.declared.settings.RunOutput.TheVariants as output
use Rattle.ompt_words.specs.declared.settings.Request.TheVariants as request
use Rattle.ompt_cli.specs.declared.end.End.TheVariants as end
use Rattle.ompt_cli.specs.Names.{Record, Cause, Entry, Run, Command, Running, Settings, Request}
use Rattle.ompt_cli.specs.Commands.{CountsFaults, EndsAs, EndsRun, HasGuests, IsBeforeRun, MayRun, run_of, text_in, written_by}
use Rattle.ompt_cli.specs.{declared.job.Job.Job, Guests.AfterCommand, Guests.GuestsAfter, Guests.GuestsServe, declared.report.Report.Report, declared.end.End.End, Reports.Observes, Top.ShowsFaults}

-- the command and the threads of a report are those of its job
module _ {Table : Type 0} {Behind : Table → Type 0} (job : Job) (report : Report Table Behind) (observes : Observes job report) where
  pub command-is : report.command ≡ job.settings.command
  command-is = ap (λ (settings : Settings). settings.command) observes.asked

  -- what the command writes of the run is what the job's command does
  pub written-as : (command : Command) → job.settings.command ≡ command
      → written_by command (text_in report) (run_of report) report.cause report.history ≡ written_by report.command (text_in report) (run_of report) report.cause report.history
  written-as command is = ap (λ (command : Command). written_by command (text_in report) (run_of report) report.cause report.history) (sym (command-is ∙ is))

  pub threads-are : report.threads ≡ job.settings.threads
  threads-are = ap (λ (settings : Settings). settings.threads) observes.asked

  pub some-threads : 1 ≤ report.threads
  some-threads = omega (arith, threads-are, job.some)

  pub few-threads : report.threads ≤ 16
  few-threads = omega (arith, threads-are, job.few)

-- the guests of a command that calls none
pub guests-kept : {Table : Type 0} {Behind : Table → Type 0} (stands_for : DynBox Table Global Behind → Record → Type 0) (guests : List (DynBox Table Global Behind)) (report : Report Table Behind) → (HasGuests report.command → ⊥) → report.guests.items ≡ guests → GuestsAfter stands_for guests report
guests-kept {Table} {Behind} stands_for guests report none same = by report.command none
  where
    by : (command : Command) → (HasGuests command → ⊥) → AfterCommand stands_for (λ (guest other : DynBox Table Global Behind). guest.vtable ≡ other.vtable) command report.serial (run_of report) report.cause report.history guests report.guests.items
    by (Running what) other = absurd (other tt)
    by command other = same

-- those of `run` without a profile
pub served-after : {B : Type 0} (stands_for : B → Record → Type 0) (Same : B → B → Type 0) (command asked : Command) → command ≡ asked → (asked ≡ Running output.Printed) ⊎ (asked ≡ Running output.History)
    → (serial : Bool) (run : Run) (cause : Cause) (history : List Entry) (guests after : List B) → GuestsServe stands_for Same serial run cause history guests after → AfterCommand stands_for Same command serial run cause history guests after
served-after stands_for Same command asked is (inl printed) serial run cause history guests after serve = rw (is ∙ printed) serve
served-after stands_for Same command asked is (inr filed) serial run cause history guests after serve = rw (is ∙ filed) serve

-- the settings of the same request
pub same-settings : (found : Request) (settings other : Settings) → found ≡ request.Run settings → found ≡ request.Run other → settings ≡ other
same-settings found settings other is same = cc

-- a count that rose shows a read or a write that failed
pub shows-faults : (told : End) (source source_now out out_now : ℕ) → CountsFaults told end.ReadFault source source_now → CountsFaults told end.WriteFault out out_now → ShowsFaults told source source_now out out_now
shows-faults end.ReadFault source source_now out out_now reads writes =
    record { read = reads.rose; write = writes.rose; unread = λ rose. refl; lost = λ rose. absurd (omega (arith, writes.steady (λ is. cc), rose)) }
shows-faults end.WriteFault source source_now out out_now reads writes =
    record { read = reads.rose; write = writes.rose; unread = λ rose. absurd (omega (arith, reads.steady (λ is. cc), rose)); lost = λ rose. refl }
shows-faults other source source_now out out_now reads writes =
    record { read = reads.rose; write = writes.rose; unread = λ rose. absurd (omega (arith, reads.steady (λ is. cc), rose)); lost = λ rose. absurd (omega (arith, writes.steady (λ is. cc), rose)) }

-- the end of a command that comes before its run, or that a program may have, is one of those for words that ask for a run
pub before-run : (told : End) → IsBeforeRun told → EndsRun told
before-run (end.Refused why) before = tt
before-run end.ReadFault before = tt
before-run end.Memory before = tt
before-run other before = absurd before

pub may-run : (told : End) → MayRun told → EndsRun told
may-run (end.Refused why) may = tt
may-run other may = may

-- the end of a run is one of those that a program may have
pub ends-may : (why : Cause) (told : End) → EndsAs why told → MayRun told
ends-may why (end.Ended other) ends = tt
ends-may why end.WriteFault ends = tt
ends-may why end.Memory ends = tt
ends-may why other ends = absurd ends
