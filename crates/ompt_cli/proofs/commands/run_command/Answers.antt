use Rattle.std.proofs.Common.{ap}
use Rattle.ompt_words.specs.declared.settings.Command.{Command}
use Rattle.ompt_cli.specs.Commands.{written_by}
use Rattle.ompt_cli.proofs.commands.run_command.Goals as goal

pub report_kept-requires-clause-text : goal.report_kept-requires-clause-text
report_kept-requires-clause-text g c κs within = λ text run cause history.
    ap (λ (command : Command). written_by command text run cause history) c.in-Profile.is
