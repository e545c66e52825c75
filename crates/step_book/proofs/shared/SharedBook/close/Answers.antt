use Rattle.std.proofs.Common.{◌<◌, ◌≤◌, length, rules, arith}
use Rattle.step_book.proofs.Closing.{check-next, closing}
use Rattle.step_book.proofs.shared.SharedBook.close.Goals as goal

pub returns-clause-closed : goal.returns-clause-closed
returns-clause-closed g c =
    let checked = c.loop-place.invariant in
    let all : length c.args.passes.items ≤ c.loop-place.place = search rules in
    closing g.K.BookName.run c.args.passes.items c.loop-place.locked c.close.result.history c.requires.some c.requires.count c.requires.order c.close.ensures.history c.close.ensures.legal c.close.ensures.own
    (λ k d less. rw checked.same at (checked.begins k d (omega (arith, less, all, c.requires.count)))) (checked.below (omega (arith, all, c.requires.count, c.requires.some)))

pub loop-place-preserved : goal.loop-place-preserved
loop-place-preserved g c =
    let within : c.loop-place.place < length c.loop-place.passes.items = search rules in
    check-next g.K.BookName.run.threads c.loop-place.place c.loop-place.locked c.check.new.self c.args.passes.items c.loop-place.passes.items c.index_mut.result.now c.check.new.pass c.loop-place.invariant within c.check.ensures.book c.check.ensures.pass c.index_mut.ensures.value c.check.ensures.begins c.check.ensures.below
