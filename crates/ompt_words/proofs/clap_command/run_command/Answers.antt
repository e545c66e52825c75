use Rattle.std.proofs.Common.{codes}
use Rattle.ompt_words.specs.CommandLine.{history_rule, profile_rule, runner, with_option}
use Rattle.ompt_words.proofs.clap_command.run_command.Goals as goal

pub returns-clause-shape : goal.returns-clause-shape
returns-clause-shape c =
    let first = c.with_option-command.ensures.shape (runner (codes "run")) history_rule c.runner-command.ensures.shape c.history.ensures.rule in
    c.with_option.ensures.shape (with_option (runner (codes "run")) history_rule) profile_rule first c.profile.ensures.rule
