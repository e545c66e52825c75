use Rattle.std.proofs.Common.{refl}
use Rattle.c_syntax.specs.declared.grammar.Step.TheVariants.{Skip}
use Rattle.c_syntax.proofs.Facing.{faces-skip, faces-same}
use Rattle.c_syntax.proofs.Weights.{lighter-plain}
use Rattle.c_syntax.proofs.reader.Reader.skip.Goals as goal

pub returns-in-Ok-clause-does : goal.returns-in-Ok-clause-does
returns-in-Ok-clause-does c = λ next seen. record {
  faces = λ before faces. faces-same (faces-skip faces refl) refl refl refl c.in-Ok.ensures;
  nearer = lighter-plain Skip _ refl;
}
