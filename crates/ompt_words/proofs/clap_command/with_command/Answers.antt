use Rattle.std.proofs.Common.{rules}
use Rattle.ompt_words.proofs.Commands.{command_added, command_local}
use Rattle.ompt_words.proofs.clap_command.with_command.Goals as goal

pub returns-clause-app : goal.returns-clause-app
returns-clause-app c =
    command_added c.args.line c.args.command c.subcommand.result c.in_ok-line.line c.in_ok-command.command (search rules) (search rules)
    c.subcommand.ensures c.requires.command

pub returns-clause-local : goal.returns-clause-local
returns-clause-local c =
    command_local c.args.line c.args.command c.subcommand.result c.in_ok-line.line c.in_ok-command.command (search rules) (search rules)
    c.subcommand.ensures c.requires.line c.requires.command
