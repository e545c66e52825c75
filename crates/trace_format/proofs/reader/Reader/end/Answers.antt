use Rattle.std.proofs.Common.{ap, sym, ◌∙◌, subst}
use Rattle.trace_format.specs.Flat.{stage_in}
use Rattle.trace_format.specs.Taking.{HasTaken, Reading}
use Rattle.trace_format.proofs.Ending.{read_of, truncated_of}
use Rattle.trace_format.proofs.reader.Reader.end.Goals as goal

pub returns-then-self-clause-whole : goal.returns-then-self-clause-whole
returns-then-self-clause-whole c =
    λ unrefused bytes items has. read_of (stage_in c.self.inside.kept) c.self.inside.room c.self.inside.begun_at c.self.inside.place c.self.inside.taken c.self.inside.refusal (c.self.invariant (ap (λ (r : Reading). r.refusal) c.self.view_is ∙ unrefused)) c.if-self.true bytes items (subst (λ (r : Reading). HasTaken r bytes items) (sym c.self.view_is) has)

pub returns-else-self-clause-truncated : goal.returns-else-self-clause-truncated
returns-else-self-clause-truncated c =
    λ unrefused bytes items has. truncated_of (stage_in c.self.inside.kept) c.self.inside.room c.self.inside.begun_at c.self.inside.place c.self.inside.taken c.self.inside.refusal (c.self.invariant (ap (λ (r : Reading). r.refusal) c.self.view_is ∙ unrefused)) (ap (λ (r : Reading). r.refusal) c.self.view_is ∙ unrefused) c.if-self.false bytes items (subst (λ (r : Reading). HasTaken r bytes items) (sym c.self.view_is) has)
