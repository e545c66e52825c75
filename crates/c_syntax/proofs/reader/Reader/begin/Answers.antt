use Rattle.std.proofs.Common.{◌≡◌, Some, refl, sym, ap, ◌∙◌}
use Rattle.c_syntax.specs.workings.Grammar.{choice}
use Rattle.c_syntax.proofs.Facing.{faces-read, faces-same, refuses-read}
use Rattle.c_syntax.proofs.Weights.{lighter-read}
use Rattle.c_syntax.proofs.ReaderSteps.{refused}
use Rattle.c_syntax.proofs.reader.Reader.begin.Goals as goal

pub returns-in_default-clause-does : goal.returns-in_default-clause-does
returns-in_default-clause-does c = λ next seen before after faces.
    refused _ _ _ (c.unexpected.ensures.fault next seen) (refuses-read faces refl (ap (choice c.args.what) seen.term ∙ sym c.in_default.ensures) after)

pub returns-in-Ok-clause-does : goal.returns-in-Ok-clause-does
returns-in-Ok-clause-does c = λ next seen.
    let chosen : choice c.args.what next.term ≡ Some c.in-Some.steps.now = ap (choice c.args.what) seen.term ∙ sym c.in-Some.ensures in
    record {
      faces = λ before faces. faces-same (faces-read faces refl chosen) c.in-Ok.ensures refl refl refl;
      nearer = rw c.in-Ok.ensures (lighter-read c.args.what next.term c.in-Some.steps.now c.args.self.now.plan chosen);
    }
