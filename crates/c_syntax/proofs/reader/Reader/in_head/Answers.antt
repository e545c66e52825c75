use Rattle.std.proofs.Common.{refl, sym, ◌∙◌}
use Rattle.c_syntax.proofs.Facing.{faces-in_head, refuses-in_head}
use Rattle.c_syntax.proofs.Weights.{lighter-in_head}
use Rattle.c_syntax.proofs.ReaderSteps.{refused}
use Rattle.c_syntax.proofs.reader.Reader.in_head.Goals as goal

pub returns-then-is_outside-clause-does : goal.returns-then-is_outside-clause-does
returns-then-is_outside-clause-does c = λ next seen before after faces. refused _ _ _ (c.unexpected.ensures.fault next seen) (refuses-in_head faces refl (sym c.is_outside.ensures ∙ c.if-is_outside.true) after)

pub returns-clause-does : goal.returns-clause-does
returns-clause-does c = λ next seen. record {
  faces = λ before faces. faces-in_head faces refl (sym c.is_outside.ensures ∙ c.if-is_outside.false);
  nearer = lighter-in_head _;
}
