use Rattle.std.proofs.Common.{refl}
use Rattle.c_syntax.specs.declared.grammar.Step.TheVariants.{Rise}
use Rattle.c_syntax.proofs.Facing.{faces-rise, faces-same}
use Rattle.c_syntax.proofs.Weights.{lighter-plain}
use Rattle.c_syntax.proofs.reader.Reader.rise.Goals as goal

pub returns-clause-does : goal.returns-clause-does
returns-clause-does c = λ next seen. record {
  faces = λ before faces. faces-same (faces-rise faces refl) refl c.saturating_sub-self.ensures refl refl;
  nearer = lighter-plain Rise _ refl;
}
