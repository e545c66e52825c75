use Rattle.std.proofs.Common.{◌∙◌, subst, sym}
use Rattle.ompt_cli.{specs.Commands.HasGuests, proofs.Telling.command-is}
use Rattle.ompt_cli.proofs.run.run_history.Goals as goal

pub write_history_of_run-requires-clause-observes : goal.write_history_of_run-requires-clause-observes
write_history_of_run-requires-clause-observes g c = (c.args.job, c.in_ok-report.ensures.observes)

pub returns-clause-ran : goal.returns-clause-ran
returns-clause-ran g c =
    let observes = c.in_ok-report.ensures.observes in
    let command = command-is c.args.job c.in_ok-report.report observes ∙ c.requires.command in
    rw c.write_history_of_run.ensures.report
    (record {
      observes = observes;
      stays = λ other. absurd (other (subst HasGuests (sym command) tt));
      ended = c.write_history_of_run.ensures.end;
      memory = λ guests other found. c.write_history_of_run.ensures.memory found;
      traced = λ whole memory is. absurd cc;
      certified = λ whole memory is. c.write_history_of_run.ensures.certified whole memory;
      guests_are = c.in_ok-report.ensures.guests;
      written = c.write_history_of_run.ensures.written;
      faults = c.write_history_of_run.ensures.faults;
    })
