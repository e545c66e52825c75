use Rattle.std.proofs.Common.{◌≡◌, ◌≤◌, ◌-◌, ◌*◌, ◌++◌, sym, subst, arith}
use Rattle.ompt_calls.specs.Snapshot.{stored_of, stores_of}
use Rattle.omp_model.specs.Legal.{back}
use Rattle.omp_model.specs.Storing.{event_reply}
use Rattle.step_book.specs.Sound.{IsBook}
use Rattle.step_book.proofs.Storing.{inside-at, may-answer-at, reply-history, reply-state, stores-at, stores-few}
use Rattle.step_book.proofs.Visiting.{book-returned, owes-here, owing-some}
use Rattle.step_book.proofs.book.Book.answer.Goals as goal

pub put_store-requires-clause-room : goal.put_store-requires-clause-room
put_store-requires-clause-room c =
    let owes = owes-here _ _ _ _ _ _ c.self.view_is c.self.invariant c.args.thread c.args.snapshot.now c.requires in
    omega (arith, c.self.invariant.room, owing-some _ _ _ _ _ c.args.thread c.args.snapshot.now c.self.invariant owes)

pub put_store-requires-clause-may : goal.put_store-requires-clause-may
put_store-requires-clause-may c =
    let owes = owes-here _ _ _ _ _ _ c.self.view_is c.self.invariant c.args.thread c.args.snapshot.now c.requires in
    (may-answer-at _ _ _ _ _ _ c.self.invariant.some owes.owes c.self.inside.machine.state c.args.reply.now c.self.invariant.reached).first

pub put_store-requires-2-clause-room : goal.put_store-requires-2-clause-room
put_store-requires-2-clause-room c =
    let owes = owes-here _ _ _ _ _ _ c.self.view_is c.self.invariant c.args.thread c.args.snapshot.now c.requires in
    omega (arith, c.self.invariant.room, owing-some _ _ _ _ _ c.args.thread c.args.snapshot.now c.self.invariant owes, c.put_store.ensures.room)

pub put_store-requires-2-clause-may : goal.put_store-requires-2-clause-may
put_store-requires-2-clause-may c =
    let owes = owes-here _ _ _ _ _ _ c.self.view_is c.self.invariant c.args.thread c.args.snapshot.now c.requires in
    rw c.put_store.ensures.machine (may-answer-at _ _ _ _ _ _ c.self.invariant.some owes.owes c.self.inside.machine.state c.args.reply.now c.self.invariant.reached).second

pub put_store-requires-3-clause-room : goal.put_store-requires-3-clause-room
put_store-requires-3-clause-room c =
    let owes = owes-here _ _ _ _ _ _ c.self.view_is c.self.invariant c.args.thread c.args.snapshot.now c.requires in
    omega (arith, c.self.invariant.room, owing-some _ _ _ _ _ c.args.thread c.args.snapshot.now c.self.invariant owes, c.put_store.ensures.room, c.put_store-2.ensures.room)

pub put_store-requires-3-clause-may : goal.put_store-requires-3-clause-may
put_store-requires-3-clause-may c =
    let owes = owes-here _ _ _ _ _ _ c.self.view_is c.self.invariant c.args.thread c.args.snapshot.now c.requires in
    rw (c.put_store-2.ensures.machine, c.put_store.ensures.machine) (may-answer-at _ _ _ _ _ _ c.self.invariant.some owes.owes c.self.inside.machine.state c.args.reply.now c.self.invariant.reached).third

pub put_back-requires-clause-room : goal.put_back-requires-clause-room
put_back-requires-clause-room c =
    let owes = owes-here _ _ _ _ _ _ c.self.view_is c.self.invariant c.args.thread c.args.snapshot.now c.requires in
    omega (arith, c.self.invariant.room, owing-some _ _ _ _ _ c.args.thread c.args.snapshot.now c.self.invariant owes, c.put_store.ensures.room, c.put_store-2.ensures.room, c.put_store-3.ensures.room)

pub put_back-requires-clause-inside : goal.put_back-requires-clause-inside
put_back-requires-clause-inside c =
    let owes = owes-here _ _ _ _ _ _ c.self.view_is c.self.invariant c.args.thread c.args.snapshot.now c.requires in
    rw (c.put_store-3.ensures.machine, c.put_store-2.ensures.machine, c.put_store.ensures.machine) (may-answer-at _ _ _ _ _ _ c.self.invariant.some owes.owes c.self.inside.machine.state c.args.reply.now c.self.invariant.reached).inside

pub overflow_sub-self : goal.overflow_sub-self
overflow_sub-self c =
    owing-some _ _ _ _ _ c.args.thread c.args.snapshot.now c.self.invariant (owes-here _ _ _ _ _ _ c.self.view_is c.self.invariant c.args.thread c.args.snapshot.now c.requires)

pub invariant_of-self : goal.invariant_of-self
invariant_of-self c =
    let run = c.self.inside.machine.run in
    let S = c.self.inside.machine.state in
    let t = c.args.thread in
    let snapshot = c.args.snapshot.now in
    let reply = c.args.reply.now in
    let first = stored_of snapshot reply.first in
    let second = stored_of snapshot reply.second in
    let third = stored_of snapshot reply.third in
    let owes = owes-here _ _ _ _ _ _ c.self.view_is c.self.invariant t snapshot c.requires in
    let entries : c.put_back.new.entries.list ≡ c.self.inside.entries.list ++ event_reply t (stores_of reply snapshot) = rw (c.put_back.ensures.entries, c.put_store-3.ensures.entries, c.put_store-2.ensures.entries, c.put_store.ensures.entries) (reply-history c.self.inside.entries.list t first second third) in
    let some = owing-some _ _ _ _ _ t snapshot c.self.invariant owes in
    let room : 4 * (c.self.inside.owing - 1) ≤ c.put_back.new.entries.free = omega (arith, c.self.invariant.room, some, c.put_store.ensures.room, c.put_store-2.ensures.room, c.put_store-3.ensures.room, c.put_back.ensures.room) in
    let may = stores-at _ _ _ _ _ _ c.self.invariant.some owes.owes S reply c.self.invariant.reached in
    let inside = inside-at _ _ _ _ _ _ c.self.invariant.some owes.owes S reply c.self.invariant.reached in
    let after = book-returned run S c.self.inside.entries c.self.inside.owing c.self.invariant t (stores_of reply snapshot) (stores-few reply snapshot) may inside c.put_back.new.entries entries (c.self.inside.owing - 1) (omega (arith, some)) room in
    rw (c.put_back.ensures.machine, c.put_store-3.ensures.machine, c.put_store-2.ensures.machine, c.put_store.ensures.machine) (subst (λ between. IsBook run (back between t) c.put_back.new.entries (c.self.inside.owing - 1)) (sym (reply-state S t first second third)) after)
