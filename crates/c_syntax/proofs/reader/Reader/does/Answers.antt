use Rattle.std.proofs.Common.{refl, sym, subst}
use Rattle.c_syntax.specs.declared.grammar.Step.{Step}
use Rattle.c_syntax.specs.workings.WordViews.{word_view}
use Rattle.c_syntax.specs.workings.ReaderViews.{Does, state_of, with_step}
use Rattle.c_syntax.proofs.reader.Reader.does.Goals as goal

pub returns-in-Expect-clause-does : goal.returns-in-Expect-clause-does
returns-in-Expect-clause-does c =
    let word = word_view c.args.source.now c.args.word in
    let P : Step → Type 0 = λ step. Does word (with_step step (state_of c.args.self.now)) (state_of c.expect.new.self) c.expect.result in
    subst P (sym c.in-Expect.is) (c.expect.ensures.does word record { term = refl; spot = refl })

pub returns-in-Deepen-clause-does : goal.returns-in-Deepen-clause-does
returns-in-Deepen-clause-does c =
    let word = word_view c.args.source.now c.args.word in
    let P : Step → Type 0 = λ step. Does word (with_step step (state_of c.args.self.now)) (state_of c.deepen.new.self) c.deepen.result in
    subst P (sym c.in-Deepen.is) (c.deepen.ensures.does word record { term = refl; spot = refl })

pub returns-in-InHead-clause-does : goal.returns-in-InHead-clause-does
returns-in-InHead-clause-does c =
    let word = word_view c.args.source.now c.args.word in
    let P : Step → Type 0 = λ step. Does word (with_step step (state_of c.args.self.now)) (state_of c.in_head.new.self) c.in_head.result in
    subst P (sym c.in-InHead.is) (c.in_head.ensures.does word record { term = refl; spot = refl })

pub returns-in-Read-clause-does : goal.returns-in-Read-clause-does
returns-in-Read-clause-does c =
    let word = word_view c.args.source.now c.args.word in
    let P : Step → Type 0 = λ step. Does word (with_step step (state_of c.args.self.now)) (state_of c.begin.new.self) c.begin.result in
    subst P (sym c.in-Read.is) (c.begin.ensures.does word record { term = refl; spot = refl })

pub returns-in-Rise-clause-does : goal.returns-in-Rise-clause-does
returns-in-Rise-clause-does c =
    let word = word_view c.args.source.now c.args.word in
    let P : Step → Type 0 = λ step. Does word (with_step step (state_of c.args.self.now)) (state_of c.rise.new.self) c.rise.result in
    subst P (sym c.in-Rise.is) (c.rise.ensures.does word record { term = refl; spot = refl })

pub returns-in-Open-clause-does : goal.returns-in-Open-clause-does
returns-in-Open-clause-does c =
    let word = word_view c.args.source.now c.args.word in
    let P : Step → Type 0 = λ step. Does word (with_step step (state_of c.args.self.now)) (state_of c.open.new.self) c.open.result in
    subst P (sym c.in-Open.is) (c.open.ensures.does word record { term = refl; spot = refl })

pub returns-in-Make-clause-does : goal.returns-in-Make-clause-does
returns-in-Make-clause-does c =
    let word = word_view c.args.source.now c.args.word in
    let P : Step → Type 0 = λ step. Does word (with_step step (state_of c.args.self.now)) (state_of c.make.new.self) c.make.result in
    subst P (sym c.in-Make.is) (c.make.ensures.does word record { term = refl; spot = refl })

pub returns-in-Join-clause-does : goal.returns-in-Join-clause-does
returns-in-Join-clause-does c =
    let word = word_view c.args.source.now c.args.word in
    let P : Step → Type 0 = λ step. Does word (with_step step (state_of c.args.self.now)) (state_of c.join.new.self) c.join.result in
    subst P (sym c.in-Join.is) (c.join.ensures.does word record { term = refl; spot = refl })

pub returns-in-Wrap-clause-does : goal.returns-in-Wrap-clause-does
returns-in-Wrap-clause-does c =
    let word = word_view c.args.source.now c.args.word in
    let P : Step → Type 0 = λ step. Does word (with_step step (state_of c.args.self.now)) (state_of c.wrap.new.self) c.wrap.result in
    subst P (sym c.in-Wrap.is) (c.wrap.ensures.does word record { term = refl; spot = refl })

pub returns-in-Skip-clause-does : goal.returns-in-Skip-clause-does
returns-in-Skip-clause-does c =
    let word = word_view c.args.source.now c.args.word in
    let P : Step → Type 0 = λ step. Does word (with_step step (state_of c.args.self.now)) (state_of c.skip.new.self) c.skip.result in
    subst P (sym c.in-Skip.is) (c.skip.ensures.does word record { term = refl; spot = refl })
