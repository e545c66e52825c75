use Rattle.std.proofs.Common.{ℕ, ◌∙◌, List, subst, sym}
use Rattle.ompt_words.specs.declared.settings.RunOutput.TheVariants as output
use Rattle.ompt_words.specs.declared.settings.Command.TheVariants.{Run as Running}
use Rattle.ompt_cli.{specs.Commands.HasGuests, specs.Commands.HasWritten, specs.Commands.unless_memory, proofs.Telling.command-is, proofs.Telling.written-as}
use Rattle.ompt_cli.proofs.run.run_printed.Goals as goal

pub returns-clause-ran : goal.returns-clause-ran
returns-clause-ran g c =
    let report = c.in_ok-report.report in
    let observes = c.in_ok-report.ensures.observes in
    let command = command-is c.args.job report observes ∙ c.requires.command in record {
      observes = observes;
      stays = λ other. absurd (other (subst HasGuests (sym command) tt));
      ended = c.write_run-end.ensures.end;
      memory = λ guests other found. c.write_run-end.ensures.memory found;
      traced = λ whole memory is. absurd cc;
      certified = λ whole memory is. absurd cc;
      guests_are = c.in_ok-report.ensures.guests;
      written =
          subst (λ (text : List ℕ). HasWritten c.write_run-end.result (unless_memory report.cause text) (g.O.Sink.held c.args.out.now) (g.O.Sink.held c.write_run-end.new.out))
          (c.deref.ensures.value ∙ c.in_ok-report.ensures.printed ∙ written-as c.args.job report observes (Running output.Printed) c.requires.command) c.write_run-end.ensures.written;
      faults = c.write_run-end.ensures.faults;
    }
