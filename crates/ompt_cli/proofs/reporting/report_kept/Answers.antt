use Rattle.std.proofs.{Common.ℕ, Common.◌∙◌, Common.List, Common.ap, Common.refl, Common.subst, Common.sym, lemmas.Result.IfOk-weaker}
use Rattle.omp_model.specs.Records.{records_of}
use Rattle.ompt_cli.{specs.Commands.HasGuests, specs.Commands.run_of, specs.Commands.text_in, proofs.Telling.command-is, proofs.Telling.guests-kept, proofs.Telling.written-as}
use Rattle.ompt_cli.proofs.reporting.report_kept.Goals as goal

pub returns-clause-ran : goal.returns-clause-ran
returns-clause-ran g c =
    let report = c.in_ok-observed.observed.report in
    let has = c.in_ok-observed.ensures.kept in
    let command = command-is c.args.job report has.observes in
    let run = run_of report in
    let records = records_of run report.history in record {
      observes = has.observes;
      stays = λ other. has.stays;
      ended = c.write_made-end.ensures.end;
      memory = λ guests. absurd (c.requires.guestless (subst HasGuests command guests));
      traced = λ whole memory is. absurd (c.requires.unrecorded (sym command ∙ is));
      certified = λ whole memory is. absurd (c.requires.guestless (subst HasGuests (sym is ∙ command) tt));
      guests_are = guests-kept _ c.args.guests.items report (λ guests. c.requires.guestless (subst HasGuests command guests)) (ap (λ list. list.items) c.in_ok-observed.ensures.guests);
      written =
          c.write_made-end.ensures.written _
          (IfOk-weaker c.text-made.result _ _ (λ text is. is records (rw c.deref.ensures.value has.kept) ∙ ap (λ (printed : List ℕ). g.P.Keeper.text_of c.args.job.settings.command records printed) (c.deref-2.ensures.value ∙ has.printed)
          ∙ sym (c.requires.text (text_in report) run report.cause report.history) ∙ written-as c.args.job report has.observes c.args.job.settings.command refl) c.text-made.ensures);
      faults = c.write_made-end.ensures.faults;
    }
