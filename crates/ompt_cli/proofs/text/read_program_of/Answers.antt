use Rattle.std.proofs.{Common.Err, Common.ap, Common.◌∙◌, lemmas.Result.IfOk-weaker, lemmas.Result.IfErr-weaker}
use Rattle.ompt_cli.proofs.Reading.{ends-long, ends-read, loaded-read, read-whole}
use Rattle.ompt_cli.proofs.text.read_program_of.Goals as goal

pub returns-in-Ok-clause-loaded : goal.returns-in-Ok-clause-loaded
returns-in-Ok-clause-loaded g c = IfOk-weaker c.load.result _ _ (loaded-read _ c.in-Ok.text.items (read-whole _ _ c.in-Ok.text.items c.in-Ok.ensures.bytes c.in-Ok.ensures.whole)) c.load.ensures.loaded

pub returns-in-Ok-clause-ended : goal.returns-in-Ok-clause-ended
returns-in-Ok-clause-ended g c = IfErr-weaker c.load.result _ _ (ends-read _ c.in-Ok.text.items (read-whole _ _ c.in-Ok.text.items c.in-Ok.ensures.bytes c.in-Ok.ensures.whole)) c.load.ensures.ended

pub returns-in-Err-TooLong-clause-ended : goal.returns-in-Err-TooLong-clause-ended
returns-in-Err-TooLong-clause-ended g c = ends-long _ _ (c.read_all.ensures.long (c.in-Err-TooLong.is ∙ ap Err c.in-Err-TooLong.field-0-is))
