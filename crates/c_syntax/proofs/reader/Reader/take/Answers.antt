use Rattle.std.proofs.Common.{refl, sym, ap, ◌∙◌}
use Rattle.c_syntax.specs.declared.head.Head.{Head}
use Rattle.c_syntax.specs.language.Heads.{behind}
use Rattle.c_syntax.specs.workings.WordViews.{word_view}
use Rattle.c_syntax.specs.workings.Reading.{State}
use Rattle.c_syntax.proofs.Facing.{reaches-take, reaches-same, refuses-take}
use Rattle.c_syntax.proofs.ReaderSteps.{refused}
use Rattle.c_syntax.proofs.reader.Reader.take.Goals as goal

pub returns-then-not-fits-clause-does : goal.returns-then-not-fits-clause-does
returns-then-not-fits-clause-does c = λ before after faces.
    refused _ _ _ (c.unexpected.ensures.fault (word_view c.args.source.now c.args.word) record { term = refl; spot = refl }) (refuses-take faces refl (sym c.fits.ensures ∙ c.if-not-fits.true) after)

pub returns-clause-does : goal.returns-clause-does
returns-clause-does c = λ before faces.
    let kept = c.in-Ok.ensures.kept in
    let state = c.pass.ensures.state in
    reaches-same (reaches-take faces refl (sym c.fits.ensures ∙ c.if-not-fits.false))
    (ap (λ (s : State). s.steps) state ∙ ap (λ (s : State). s.steps) kept)
    (ap (λ (s : State). s.depth) state ∙ ap (λ (s : State). s.depth) kept)
    (ap (λ (s : State). s.at) state ∙ ap (λ (at : Head). behind at c.args.word.term) c.in-Ok.ensures.at)
    (ap (λ (s : State). s.nodes) state ∙ ap (λ (s : State). s.nodes) kept)
