use Rattle.std.proofs.Common.{◌≡◌, ◌∙◌, ◌++◌, List, IfOk, OnOk, sym, ap, subst}
use Rattle.step_book.specs.BookView.{BookView, with_entries}
use Rattle.step_book.specs.Sharing.{AllBy, PassView, holds_in, book_after, seen_in}
use Rattle.atomic_table.specs.Table.{Me}
use Rattle.step_book.specs.declared.view.SeatView.{SeatView}
use Rattle.step_book.specs.Rule.{entries_of}
use Rattle.step_book.specs.Steps.{view_in}
use Rattle.step_book.specs.Visit.{visit}
use Rattle.step_book.proofs.Locking.{beyond, book-now, locked-after, goes-memory, goes-ok, has-gone, hold-made, owes-ok, round}
use Rattle.step_book.proofs.locked_book.LockedBook.go.Goals as goal

pub invariant_of-self : goal.invariant_of-self
invariant_of-self g c =
    let made = round _ _ _ _ _ _ _ _ _ _ _ c.self.invariant.seat c.pass.invariant.badge c.take_pass.ensures.view c.take_pass.ensures.told c.add_hold.ensures.view c.give_pass.ensures.view c.give_pass.ensures.pass_view in
    let gone = has-gone c.go-result.result c.self.inside.book c.go-result.new.self c.pass.inside.thread c.go-result.ensures.added c.go-result.ensures.memory in
    let more = beyond c.self.inside.book c.go-result.new.self _ _ _ c.entries-before.ensures c.entries.ensures gone.whole in
    locked-after _ _ _ _ _ _ c.self.inside.book _ _ _ _ _ c.self.invariant made (c.give_pass.ensures.seat ∙ c.requires.table) (ap (λ (book : BookView). book.run) gone.whole) (ap (λ (book : BookView). book.history) gone.whole ∙ ap (λ more. c.self.inside.book.history ++ more) (sym more)) (subst (AllBy c.pass.inside.thread) (sym more) gone.own)

pub returns-clause-ok : goal.returns-clause-ok
returns-clause-ok g c =
    let made = round _ _ _ _ _ _ _ _ _ _ _ c.self.invariant.seat c.pass.invariant.badge c.take_pass.ensures.view c.take_pass.ensures.told c.add_hold.ensures.view c.give_pass.ensures.view c.give_pass.ensures.pass_view in
    let hold = hold-made _ _ _ _ _ _ _ made c.self.invariant.own _ _ c.pass.inside.ended c.tells_over-told_over.result _ c.pass.view_is in
    let seen = ap (λ (v : PassView). v.seen) c.pass.view_is in
    let thread = ap (λ (v : PassView). v.thread) c.pass.view_is in
    let now = book-now _ _ _ _ _ _ _ c.self.invariant made.begins ∙ ap (λ seen. book_after g.K.BookName.run (seen ++ made.begins.rest) c.self.inside.book.ended) seen in
    goes-ok g.K.BookName.run c.self.inside.book c.go-result.new.self c.args.pass.now _ made.begins.rest _ hold now (λ added whole. beyond c.self.inside.book c.go-result.new.self _ _ added c.entries-before.ensures c.entries.ensures whole) c.go-result.result (subst (λ thread. IfOk c.go-result.result (λ step. step ≡ (visit c.self.inside.book thread).step)) thread c.go-result.ensures.step) (subst (λ thread. OnOk c.go-result.result (c.go-result.new.self ≡ with_entries c.self.inside.book (visit c.self.inside.book thread).added)) thread c.go-result.ensures.added)

pub returns-clause-owes : goal.returns-clause-owes
returns-clause-owes g c =
    let made = round _ _ _ _ _ _ _ _ _ _ _ c.self.invariant.seat c.pass.invariant.badge c.take_pass.ensures.view c.take_pass.ensures.told c.add_hold.ensures.view c.give_pass.ensures.view c.give_pass.ensures.pass_view in
    let locked = invariant_of-self g c in
    let sees : holds_in c.give_pass.new.seat.me.0 ≡ seen_in (view_in c.give_pass.new.pass.views) = ap (λ (me : Me (Unit {0}) SeatView). holds_in me.0) made.seat ∙ sym (ap (λ (views : List SeatView). seen_in (view_in views)) made.badge) in
    owes-ok c.go-result.result c.go-result.new.self g.K.BookName.run (seen_in (view_in c.give_pass.new.pass.views)) c.pass.inside.ended c.pass.inside.thread locked.run_is (locked.history ∙ ap entries_of sees) c.go-result.ensures.owes

pub returns-clause-memory : goal.returns-clause-memory
returns-clause-memory g c =
    let made = round _ _ _ _ _ _ _ _ _ _ _ c.self.invariant.seat c.pass.invariant.badge c.take_pass.ensures.view c.take_pass.ensures.told c.add_hold.ensures.view c.give_pass.ensures.view c.give_pass.ensures.pass_view in
    let hold = hold-made _ _ _ _ _ _ _ made c.self.invariant.own _ _ c.pass.inside.ended c.tells_over-told_over.result _ c.pass.view_is in
    let seen = ap (λ (v : PassView). v.seen) c.pass.view_is in
    let now = book-now _ _ _ _ _ _ _ c.self.invariant made.begins ∙ ap (λ seen. book_after g.K.BookName.run (seen ++ made.begins.rest) c.self.inside.book.ended) seen in
    goes-memory g.K.BookName.run c.self.inside.book c.go-result.new.self c.args.pass.now _ made.begins.rest _ hold now (λ added whole. beyond c.self.inside.book c.go-result.new.self _ _ added c.entries-before.ensures c.entries.ensures whole) c.go-result.result c.go-result.ensures.memory
