use Rattle.clap.specs.Simple.{new_shape}
use Rattle.ompt_words.specs.CommandLine.{serial_rule, steps_rule, threads_rule, with_option}
use Rattle.ompt_words.proofs.clap_command.runner.Goals as goal

pub returns-clause-shape : goal.returns-clause-shape
returns-clause-shape c =
    let first = c.with_option-command.ensures.shape (new_shape c.args.name.now) threads_rule c.bare.ensures.shape c.threads.ensures.rule in
    let second = c.with_option-command-2.ensures.shape (with_option (new_shape c.args.name.now) threads_rule) steps_rule first c.steps.ensures.rule in
    c.with_option.ensures.shape (with_option (with_option (new_shape c.args.name.now) threads_rule) steps_rule) serial_rule second c.serial.ensures.rule
