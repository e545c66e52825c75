use Rattle.std.proofs.Common.{◌∙◌, ◌++◌, sym, ap, subst}
use Rattle.ompt_calls.specs.Snapshot.{stores_of}
use Rattle.omp_model.specs.Storing.{event_reply}
use Rattle.step_book.specs.Owing.{OwesAnswer}
use Rattle.step_book.specs.BookView.{BookView}
use Rattle.step_book.specs.Sharing.{AllBy, PassView, book_after}
use Rattle.step_book.proofs.Locking.{beyond, locked-after, grown, hold-made, owes-now, round, taken}
use Rattle.step_book.proofs.Others.{reply-own}
use Rattle.step_book.proofs.locked_book.LockedBook.answer.Goals as goal

pub answer-requires : goal.answer-requires
answer-requires g c =
    let begins = taken _ _ _ _ _ _ _ c.self.invariant.seat c.pass.invariant.badge c.take_pass.ensures.view c.take_pass.ensures.told in
    let owes = subst (λ (v : PassView). OwesAnswer (book_after g.K.BookName.run v.seen v.ended) v.thread c.args.snapshot.now) (sym c.pass.view_is) c.requires.owes in
    owes-now _ _ _ _ _ _ _ _ _ c.self.invariant begins owes

pub invariant_of-self : goal.invariant_of-self
invariant_of-self g c =
    let made = round _ _ _ _ _ _ _ _ _ _ _ c.self.invariant.seat c.pass.invariant.badge c.take_pass.ensures.view c.take_pass.ensures.told c.add_hold.ensures.view c.give_pass.ensures.view c.give_pass.ensures.pass_view in
    let stores = stores_of c.args.reply.now c.args.snapshot.now in
    let more = beyond c.self.inside.book c.answer.new.self _ _ _ c.entries-before.ensures c.entries.ensures c.answer.ensures in
    locked-after _ _ _ _ _ _ c.self.inside.book _ _ _ _ _ c.self.invariant made (c.give_pass.ensures.seat ∙ c.requires.table) (ap (λ (book : BookView). book.run) c.answer.ensures) (ap (λ (book : BookView). book.history) c.answer.ensures ∙ ap (λ more. c.self.inside.book.history ++ more) (sym more)) (subst (AllBy c.pass.inside.thread) (sym more) (reply-own c.pass.inside.thread stores))

pub returns-clause-seen : goal.returns-clause-seen
returns-clause-seen g c =
    let made = round _ _ _ _ _ _ _ _ _ _ _ c.self.invariant.seat c.pass.invariant.badge c.take_pass.ensures.view c.take_pass.ensures.told c.add_hold.ensures.view c.give_pass.ensures.view c.give_pass.ensures.pass_view in
    let more = beyond c.self.inside.book c.answer.new.self _ _ _ c.entries-before.ensures c.entries.ensures c.answer.ensures in
    let wanted = ap (λ (v : PassView). event_reply v.thread (stores_of c.args.reply.now c.args.snapshot.now)) c.pass.view_is in
    grown _ _ _ _ _ (hold-made _ _ _ _ _ _ _ made c.self.invariant.own _ _ _ _ _ c.pass.view_is) (more ∙ wanted)
