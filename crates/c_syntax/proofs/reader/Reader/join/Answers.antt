use Rattle.std.proofs.Common.{refl}
use Rattle.c_syntax.specs.declared.grammar.Step.TheVariants.{Join}
use Rattle.c_syntax.proofs.Facing.{faces-join, faces-same}
use Rattle.c_syntax.proofs.Weights.{lighter-plain}
use Rattle.c_syntax.proofs.reader.Reader.join.Goals as goal

pub returns-in-Ok-clause-does : goal.returns-in-Ok-clause-does
returns-in-Ok-clause-does c = λ next seen. record {
  faces = λ before faces. faces-same (faces-join faces refl) refl refl refl c.in-Ok.ensures;
  nearer = lighter-plain (Join c.args.kind) _ refl;
}
