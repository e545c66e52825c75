use Rattle.std.proofs.Common.{codes}
use Rattle.clap.specs.Simple.{with_subcommand}
use Rattle.ompt_words.specs.CommandLine.{program, run_command, runner}
use Rattle.ompt_words.proofs.clap_command.runners.Goals as goal

pub returns-clause-app : goal.returns-clause-app
returns-clause-app c =
    let first = c.with_command-line.ensures.app program run_command c.program.ensures.app c.run_command.ensures.shape in
    let second = c.with_runner-line.ensures.app (with_subcommand program run_command) first in
    c.with_runner.ensures.app (with_subcommand (with_subcommand program run_command) (runner (codes "list"))) second
