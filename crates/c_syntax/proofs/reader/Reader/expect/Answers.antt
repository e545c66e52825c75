use Rattle.std.proofs.Common.{refl, sym, ap, ◌∙◌, rules}
use denote.Enum.Bare.{differs_false, differs_true}
use Rattle.c_syntax.specs.contracts.term.Term.{the_type}
use Rattle.c_syntax.specs.language.Heads.{behind}
use Rattle.c_syntax.specs.workings.Reading.{State}
use Rattle.c_syntax.proofs.Facing.{reaches-expect, reaches-same, refuses-expect}
use Rattle.c_syntax.proofs.ReaderSteps.{refused}
use Rattle.c_syntax.proofs.reader.Reader.expect.Goals as goal

pub returns-then-ne-clause-does : goal.returns-then-ne-clause-does
returns-then-ne-clause-does c = λ next seen before after faces.
    let other = differs_true the_type c.args.word.term c.args.term (sym c.if-ne.ensures) in
    refused _ _ _ (c.unexpected.ensures.fault next seen) (refuses-expect faces refl (λ same. other (sym seen.term ∙ same)) after)

pub returns-clause-does : goal.returns-clause-does
returns-clause-does c = λ next seen before faces.
    let same = differs_false the_type (search rules) c.args.word.term c.args.term (sym c.if-ne.ensures) in
    let state = c.pass.ensures.state in
    reaches-same (reaches-expect faces refl (seen.term ∙ same))
    (ap (λ (s : State). s.steps) state) (ap (λ (s : State). s.depth) state)
    (ap (λ (s : State). s.at) state ∙ ap (behind c.args.self.now.at) (sym seen.term)) (ap (λ (s : State). s.nodes) state)
