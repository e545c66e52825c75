use Rattle.std.proofs.Common.{◌≡◌, ◌∙◌, refl, sym}
use Rattle.ompt_cli.{specs.Commands.run_of, proofs.Beside.guests_beside, proofs.Beside.profiles_beside, proofs.Telling.command-is, proofs.Telling.some-threads, proofs.Telling.threads-are}
use Rattle.ompt_cli.proofs.run.serve_profiled.Goals as goal

pub returns-clause-guests : goal.returns-clause-guests
returns-clause-guests g c =
    let report = c.in_ok-observed.observed.report in
    let joined = c.in_ok-parts-2.field-0.parts.items in
    let has = c.in_ok-observed.ensures in
    rw (command-is c.args.job report has.observes ∙ c.requires.command, c.take_back_all.ensures, c.part_all-parts.ensures.parts)
    (guests_beside (λ guest. guest.0) _ (λ guest other. guest.vtable ≡ other.vtable) report.serial (run_of report) report.cause report.history (some-threads c.args.job report has.observes)
    c.in_ok-parts-2.field-0.masks (λ guest. refl) (λ first second third one other. one ∙ other) c.args.guests.items _ c.in_ok-parts.field-0.parts.items joined c.in_ok-observed.observed.parts.items
    (c.in_ok-parts.ensures.each ∙ sym (threads-are c.args.job report has.observes)) c.in_ok-parts.ensures.handed c.in_ok-parts-2.ensures.joined has.runs has.same)

pub returns-clause-counted : goal.returns-clause-counted
returns-clause-counted g c =
    let report = c.in_ok-observed.observed.report in
    let joined = c.in_ok-parts-2.field-0.parts.items in
    let has = c.in_ok-observed.ensures in
    rw c.part_all-parts.ensures.profiles
    (profiles_beside (λ guest. guest.0) _ (λ guest other. guest.vtable ≡ other.vtable) report.serial (run_of report) report.cause report.history (some-threads c.args.job report has.observes)
    c.in_ok-parts-2.field-0.masks c.in_ok-parts.field-0.parts.items joined c.in_ok-observed.observed.parts.items (c.in_ok-parts.ensures.each ∙ sym (threads-are c.args.job report has.observes))
    c.in_ok-parts-2.ensures.joined has.runs has.observes.to.legal has.observes.to.own)
