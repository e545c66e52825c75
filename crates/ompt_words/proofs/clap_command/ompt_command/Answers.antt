use Rattle.std.proofs.Common.{codes}
use Rattle.clap.specs.Simple.{with_subcommand}
use Rattle.ompt_words.specs.CommandLine.{reader, trace_readers}
use Rattle.ompt_words.proofs.clap_command.ompt_command.Goals as goal

pub returns-clause-app : goal.returns-clause-app
returns-clause-app c =
    let first = c.with_reader-line.ensures.app trace_readers c.trace_readers.ensures.app in
    c.with_reader.ensures.app (with_subcommand trace_readers (reader (codes "rerun"))) first
