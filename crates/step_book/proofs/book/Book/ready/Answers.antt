use Rattle.std.proofs.Common.{◌∙◌, ap, sym}
use Rattle.std.specs.Prelude.{is_some}
use Rattle.step_book.proofs.Visiting.{turn-here}
use Rattle.step_book.proofs.book.Book.ready.Goals as goal

pub returns-clause-turn : goal.returns-clause-turn
returns-clause-turn c =
    let unfinished = ap is_some (sym c.whole.ensures) ∙ sym c.is_some.ensures ∙ c.if-is_some.false in
    c.ready.ensures.enabled ∙ turn-here _ _ _ _ _ _ c.self.view_is c.self.invariant c.args.thread c.if-self.false unfinished c.requires
