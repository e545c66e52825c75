use Rattle.ompt_words.specs.CommandLine.{reader}
use Rattle.ompt_words.proofs.clap_command.with_reader.Goals as goal

pub returns-clause-app : goal.returns-clause-app
returns-clause-app c = λ app before. c.with_command.ensures.app app (reader c.args.name.now) before c.bare.ensures.shape
