use Rattle.std.proofs.Common.{codes}
use Rattle.ompt_words.specs.CommandLine.{columns_rule, runner}
use Rattle.ompt_words.proofs.clap_command.timeline.Goals as goal

pub returns-clause-shape : goal.returns-clause-shape
returns-clause-shape c = c.with_option.ensures.shape (runner (codes "timeline")) columns_rule c.runner-command.ensures.shape c.columns.ensures.rule
