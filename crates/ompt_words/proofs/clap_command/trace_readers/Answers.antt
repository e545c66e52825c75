use Rattle.std.proofs.Common.{codes}
use Rattle.clap.specs.Simple.{with_subcommand}
use Rattle.ompt_words.specs.CommandLine.{reader, reporters}
use Rattle.ompt_words.proofs.clap_command.trace_readers.Goals as goal

pub returns-clause-app : goal.returns-clause-app
returns-clause-app c =
    let first = c.with_reader-line.ensures.app reporters c.reporters.ensures.app in
    let second = c.with_reader-line-2.ensures.app (with_subcommand reporters (reader (codes "show"))) first in
    c.with_reader.ensures.app (with_subcommand (with_subcommand reporters (reader (codes "show"))) (reader (codes "migrate"))) second
