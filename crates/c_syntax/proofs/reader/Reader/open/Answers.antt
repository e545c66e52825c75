use Rattle.std.proofs.Common.{refl, ap, sym, ◌∙◌, ◌∷◌}
use Rattle.c_tokens.specs.declared.token.Spot.{Spot}
use Rattle.c_syntax.specs.declared.grammar.Step.TheVariants.{Open}
use Rattle.c_syntax.specs.workings.Derivation.{opened_at}
use Rattle.c_syntax.proofs.Facing.{faces-open, faces-same}
use Rattle.c_syntax.proofs.Weights.{lighter-plain}
use Rattle.c_syntax.proofs.reader.Reader.open.Goals as goal

pub returns-in-Ok-clause-does : goal.returns-in-Ok-clause-does
returns-in-Ok-clause-does c = λ next seen. record {
  faces = λ before faces. faces-same (faces-open faces refl) refl refl refl (c.in-Ok.ensures ∙ ap (λ (spot : Spot). opened_at spot ∷ c.args.self.now.growth) (sym seen.spot));
  nearer = lighter-plain Open _ refl;
}
