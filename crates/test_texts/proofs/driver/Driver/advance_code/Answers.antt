use Rattle.std.proofs.Common.{sym, ap, ◌∙◌}
use Rattle.c_syntax.specs.language.Numbered.{tree_at}
use Rattle.c_model.specs.declared.point.Point.{Point}
use Rattle.c_model.specs.Task.Outcome.{Occurs}
use Rattle.c_steps.proofs.Creating.{creation_stands}
use Rattle.test_texts.proofs.driver.Driver.advance_code.Goals as goal

pub create-requires-clause-created : goal.create-requires-clause-created
create-requires-clause-created c =
    let arm = c.in-Event-TaskCreate-default in
    creation_stands _ _ _ _ _ _ _ _ _ arm.ensures.kept (ap (λ (point : Point). Occurs point (tree_at c.self.inside.code.trees arm.node)) (sym arm.field-0-is) ∙ arm.ensures.step)
