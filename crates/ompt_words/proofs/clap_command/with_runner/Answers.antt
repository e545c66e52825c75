use Rattle.ompt_words.specs.CommandLine.{runner}
use Rattle.ompt_words.proofs.clap_command.with_runner.Goals as goal

pub returns-clause-app : goal.returns-clause-app
returns-clause-app c = λ app before. c.with_command.ensures.app app (runner c.args.name.now) before c.runner.ensures.shape
