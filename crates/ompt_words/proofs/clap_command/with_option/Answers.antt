use Rattle.std.proofs.Common.{rules}
use Rattle.ompt_words.proofs.Commands.{option_added, option_local}
use Rattle.ompt_words.proofs.clap_command.with_option.Goals as goal

pub returns-clause-shape : goal.returns-clause-shape
returns-clause-shape c = option_added c.args.command c.arg.result c.in_ok-command.command c.args.option (search rules) c.arg.ensures c.requires.option

pub returns-clause-local : goal.returns-clause-local
returns-clause-local c =
    option_local c.args.command c.arg.result c.in_ok-command.command c.args.option (search rules) c.arg.ensures c.requires.option c.requires.command
