use Rattle.std.proofs.Common.{codes}
use Rattle.clap.specs.Simple.{with_subcommand}
use Rattle.ompt_words.specs.CommandLine.{generator, runner, runners, timeline}
use Rattle.ompt_words.proofs.clap_command.reporters.Goals as goal

pub returns-clause-app : goal.returns-clause-app
returns-clause-app c =
    let first = c.with_runner-line.ensures.app runners c.runners.ensures.app in
    let second = c.with_command-line.ensures.app (with_subcommand runners (runner (codes "profile"))) timeline first c.timeline.ensures.shape in
    c.with_command.ensures.app (with_subcommand (with_subcommand runners (runner (codes "profile"))) timeline) generator second c.generator.ensures.shape
