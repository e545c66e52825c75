use Rattle.std.proofs.Common.{codes}
use Rattle.clap.specs.Simple.{new_shape}
use Rattle.ompt_words.specs.CommandLine.{blocks_rule, threads_rule, with_option}
use Rattle.ompt_words.proofs.clap_command.generator.Goals as goal

pub returns-clause-shape : goal.returns-clause-shape
returns-clause-shape c =
    let first = c.with_option-command.ensures.shape (new_shape (codes "gen")) blocks_rule c.bare.ensures.shape c.blocks-2.ensures.rule in
    c.with_option.ensures.shape (with_option (new_shape (codes "gen")) blocks_rule) threads_rule first c.threads.ensures.rule
