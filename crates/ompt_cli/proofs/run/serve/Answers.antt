use Rattle.std.proofs.Common.{◌≡◌, ◌∙◌, refl, sym}
use Rattle.ompt_cli.{specs.Commands.run_of, proofs.Handing.guests-serve, proofs.Telling.command-is, proofs.Telling.served-after, proofs.Telling.some-threads, proofs.Telling.threads-are}
use Rattle.ompt_cli.proofs.run.serve.Goals as goal

pub returns-clause-observes : goal.returns-clause-observes
returns-clause-observes g c =
    let observes = c.in_ok-observed.ensures.observes in
    record { asked = observes.asked; program_is = observes.program_is; text_is = observes.text_is; to = observes.to; outside = observes.outside; always = observes.always }

pub returns-clause-guests : goal.returns-clause-guests
returns-clause-guests g c =
    let report = c.in_ok-observed.observed.report in
    let parts = c.in_ok-parts.field-0.parts.items in
    let has = c.in_ok-observed.ensures in
    rw c.take_back_all.ensures
    (served-after _ _ report.command c.args.job.settings.command (command-is c.args.job report has.observes) c.requires.command report.serial (run_of report) report.cause report.history c.args.guests.items _
    (guests-serve (λ guest. guest.0) _ (λ guest other. guest.vtable ≡ other.vtable) (λ guest. refl) report.serial (run_of report) report.cause report.history c.args.guests.items parts c.in_ok-observed.observed.parts.items _
    (some-threads c.args.job report has.observes) (c.in_ok-parts.ensures.each ∙ sym (threads-are c.args.job report has.observes)) c.in_ok-parts.ensures.handed has.same has.runs))
