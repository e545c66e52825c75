use Rattle.std.{proofs.Common.ap, proofs.Common.◌∙◌, specs.Prelude.Err}
use Rattle.ompt_cli.proofs.Written.{never-long}
use Rattle.ompt_cli.proofs.rerunning.read_file.Goals as goal

pub returns-in-Err-TooLong-clause-only : goal.returns-in-Err-TooLong-clause-only
returns-in-Err-TooLong-clause-only g c = λ file is.
    absurd (never-long _ _ file is (c.read_all.ensures.long (c.in-Err-TooLong.is ∙ ap Err c.in-Err-TooLong.field-0-is)))
