use Rattle.std.proofs.Common.{refl}
use Rattle.c_syntax.specs.declared.grammar.Step.TheVariants.{Wrap}
use Rattle.c_syntax.proofs.Facing.{faces-wrap, faces-same}
use Rattle.c_syntax.proofs.Weights.{lighter-plain}
use Rattle.c_syntax.proofs.reader.Reader.wrap.Goals as goal

pub returns-in-Ok-clause-does : goal.returns-in-Ok-clause-does
returns-in-Ok-clause-does c = λ next seen. record {
  faces = λ before faces. faces-same (faces-wrap faces refl) refl refl refl c.in-Ok.ensures;
  nearer = lighter-plain (Wrap c.args.kind) _ refl;
}
