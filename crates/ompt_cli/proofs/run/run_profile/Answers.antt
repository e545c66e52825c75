use Rattle.std.proofs.{Common.ℕ, Common.◌++◌, Common.◌∙◌, Common.List, Common.ap, Common.subst, Common.sym, lemmas.Result.IfOk-weaker}
use Rattle.ompt_words.specs.declared.settings.RunOutput.TheVariants as output
use Rattle.ompt_cli.{specs.Names.records_of, specs.Names.profile_of, specs.Names.Running, specs.Commands.HasGuests, specs.Commands.run_of, proofs.Telling.command-is, proofs.Telling.written-as}
use Rattle.ompt_cli.proofs.run.run_profile.Goals as goal

pub returns-clause-ran : goal.returns-clause-ran
returns-clause-ran g c =
    let report = c.in_ok-observed.observed.report in
    let has = c.in_ok-observed.ensures in
    let command = command-is c.args.job report has.observes ∙ c.requires.command in
    let records = records_of (run_of report) report.history in record {
      observes = has.observes;
      stays = λ other. absurd (other (subst HasGuests (sym command) tt));
      ended = c.write_made-end.ensures.end;
      memory = λ guests other found. absurd (other command);
      traced = λ whole memory is. absurd cc;
      certified = λ whole memory is. absurd cc;
      guests_are = has.guests;
      written =
          c.write_made-end.ensures.written _
          (IfOk-weaker c.with_profile-made.result _ _ (λ text is. is records (rw c.deref.ensures.value has.counted) ∙ ap (λ (printed : List ℕ). printed ++ profile_of records) has.printed
          ∙ written-as c.args.job report has.observes (Running output.Profile) c.requires.command) c.with_profile-made.ensures);
      faults = c.write_made-end.ensures.faults;
    }
