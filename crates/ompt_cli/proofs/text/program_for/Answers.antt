use Rattle.std.proofs.Common.{ℕ, IfErr, IfOk, List, Some, subst, sym}
use Rattle.ompt_cli.specs.{Names.Command, Text.EndsFor, Text.IsLoaded, Text.text_for}
use Rattle.ompt_cli.proofs.text.program_for.Goals as goal

pub returns-in-Ok-clause-loaded : goal.returns-in-Ok-clause-loaded
returns-in-Ok-clause-loaded g c =
    subst (λ (command : Command). IfOk c.load.result (IsLoaded (text_for command (g.S.Source.left c.args.source.now)))) (sym c.in-Generate.is)
    (subst (λ (text : List ℕ). IfOk c.load.result (IsLoaded (Some text))) c.in-Ok.ensures c.load.ensures.loaded)

pub returns-in-Ok-clause-ended : goal.returns-in-Ok-clause-ended
returns-in-Ok-clause-ended g c =
    subst (λ (command : Command). IfErr c.load.result (EndsFor (text_for command (g.S.Source.left c.args.source.now)))) (sym c.in-Generate.is)
    (subst (λ (text : List ℕ). IfErr c.load.result (EndsFor (Some text))) c.in-Ok.ensures c.load.ensures.ended)
