use Rattle.std.proofs.Common.{◌≡◌, ◌<◌, ◌∙◌, ◌++◌, ◌∷◌, [], true, false, length, refl, sym, ap, subst, arith}
use Rattle.omp_model.specs.Storing.{go_at}
use Rattle.omp_model.specs.State.{Run}
use Rattle.omp_model.specs.Turn.{turn}
use Rattle.omp_machine.specs.MachineView.{is_call}
use Rattle.omp_machine.proofs.Telling.{alone-by}
use Rattle.step_book.proofs.Visiting.{book-alone, book-returned, book-turned, enabled-here, owes-turned, reserved-free, reserved-list, same-run, short-history}
use Rattle.step_book.proofs.book.Book.go_ready.Goals as goal

pub overflow_mul-answers : goal.overflow_mul-answers
overflow_mul-answers c =
    let on = enabled-here _ _ _ _ _ _ c.self.view_is c.self.invariant c.args.ready.thread c.requires.enabled in
    omega (arith, short-history _ _ _ _ _ c.self.invariant on)

pub overflow_add-answers : goal.overflow_add-answers
overflow_add-answers c =
    let on = enabled-here _ _ _ _ _ _ c.self.view_is c.self.invariant c.args.ready.thread c.requires.enabled in
    omega (arith, short-history _ _ _ _ _ c.self.invariant on)

pub invariant_of-self : goal.invariant_of-self
invariant_of-self c = rw c.in_err-reserve.ensures.memory c.self.invariant

pub overflow_cast-seq : goal.overflow_cast-seq
overflow_cast-seq c =
    let on = enabled-here _ _ _ _ _ _ c.self.view_is c.self.invariant c.args.ready.thread c.requires.enabled in
    omega (arith, short-history _ _ _ _ _ c.self.invariant on, c.len-seq.ensures, ap length (reserved-list _ _ _ c.in_ok-reserve.ensures.room))

pub overflow_add-self : goal.overflow_add-self
overflow_add-self c =
    let on = enabled-here _ _ _ _ _ _ c.self.view_is c.self.invariant c.args.ready.thread c.requires.enabled in
    omega (arith, short-history _ _ _ _ _ c.self.invariant on)

pub invariant_of-self-in-Told : goal.invariant_of-self-in-Told
invariant_of-self-in-Told c =
    let on = enabled-here _ _ _ _ _ _ c.self.view_is c.self.invariant c.args.ready.thread c.requires.enabled in
    let entries = c.push.ensures.list ∙ ap (λ entries. entries ++ go_at c.args.ready.thread ∷ []) (reserved-list _ _ _ c.in_ok-reserve.ensures.room) in
    rw c.in_ok-went.ensures.turn (book-turned _ _ _ _ c.self.invariant c.args.ready.thread on c.push.new.self entries (omega (arith, c.push.ensures.free, reserved-free _ _ _ c.in_ok-reserve.ensures.room)))

pub invariant_of-self-in-Untold : goal.invariant_of-self-in-Untold
invariant_of-self-in-Untold c =
    let on = enabled-here _ _ _ _ _ _ c.self.view_is c.self.invariant c.args.ready.thread c.requires.enabled in
    let entries = c.push.ensures.list ∙ ap (λ entries. entries ++ go_at c.args.ready.thread ∷ []) (reserved-list _ _ _ c.in_ok-reserve.ensures.room) in
    let turned = book-turned _ _ _ _ c.self.invariant c.args.ready.thread on c.push.new.self entries (omega (arith, c.push.ensures.free, reserved-free _ _ _ c.in_ok-reserve.ensures.room)) in
    let called : is_call c.in_ok-went.went ≡ true = rw c.in-Untold.is refl in
    let inside = rw c.in_ok-went.ensures.turn at (c.in_ok-went.ensures.waits called) in
    rw (c.put_back.ensures.machine, c.in_ok-went.ensures.turn) (book-returned _ _ _ _ turned c.args.ready.thread [] (omega arith) tt inside c.put_back.new.entries c.put_back.ensures.entries c.self.inside.owing refl (omega (arith, c.push.ensures.free, reserved-free _ _ _ c.in_ok-reserve.ensures.room, c.put_back.ensures.room)))

pub invariant_of-self-in-Quiet : goal.invariant_of-self-in-Quiet
invariant_of-self-in-Quiet c =
    let on = enabled-here _ _ _ _ _ _ c.self.view_is c.self.invariant c.args.ready.thread c.requires.enabled in
    let entries = c.push.ensures.list ∙ ap (λ entries. entries ++ go_at c.args.ready.thread ∷ []) (reserved-list _ _ _ c.in_ok-reserve.ensures.room) in
    let quiet : is_call c.in_ok-went.went ≡ false = rw c.in-Quiet.is refl in
    let came = turn c.self.inside.machine.run c.self.inside.machine.state c.args.ready.thread in
    let alone = alone-by c.self.inside.machine.run came.state c.args.ready.thread came.outcome (ap is_call (sym c.in_ok-went.ensures.went) ∙ quiet) in
    rw c.in_ok-went.ensures.turn (book-alone _ _ _ _ c.self.invariant c.args.ready.thread on c.push.new.self entries alone (omega (arith, c.push.ensures.free, reserved-free _ _ _ c.in_ok-reserve.ensures.room)))

pub invariant_of-self-in-Trapped : goal.invariant_of-self-in-Trapped
invariant_of-self-in-Trapped c =
    let on = enabled-here _ _ _ _ _ _ c.self.view_is c.self.invariant c.args.ready.thread c.requires.enabled in
    let entries = c.push.ensures.list ∙ ap (λ entries. entries ++ go_at c.args.ready.thread ∷ []) (reserved-list _ _ _ c.in_ok-reserve.ensures.room) in
    let quiet : is_call c.in_ok-went.went ≡ false = rw c.in-Trapped.is refl in
    let came = turn c.self.inside.machine.run c.self.inside.machine.state c.args.ready.thread in
    let alone = alone-by c.self.inside.machine.run came.state c.args.ready.thread came.outcome (ap is_call (sym c.in_ok-went.ensures.went) ∙ quiet) in
    rw c.in_ok-went.ensures.turn (book-alone _ _ _ _ c.self.invariant c.args.ready.thread on c.push.new.self entries alone (omega (arith, c.push.ensures.free, reserved-free _ _ _ c.in_ok-reserve.ensures.room)))

pub invariant_of-self-in-Limit : goal.invariant_of-self-in-Limit
invariant_of-self-in-Limit c =
    let on = enabled-here _ _ _ _ _ _ c.self.view_is c.self.invariant c.args.ready.thread c.requires.enabled in
    let entries = c.push.ensures.list ∙ ap (λ entries. entries ++ go_at c.args.ready.thread ∷ []) (reserved-list _ _ _ c.in_ok-reserve.ensures.room) in
    let quiet : is_call c.in_ok-went.went ≡ false = rw c.in-Limit.is refl in
    let came = turn c.self.inside.machine.run c.self.inside.machine.state c.args.ready.thread in
    let alone = alone-by c.self.inside.machine.run came.state c.args.ready.thread came.outcome (ap is_call (sym c.in_ok-went.ensures.went) ∙ quiet) in
    rw c.in_ok-went.ensures.turn (book-alone _ _ _ _ c.self.invariant c.args.ready.thread on c.push.new.self entries alone (omega (arith, c.push.ensures.free, reserved-free _ _ _ c.in_ok-reserve.ensures.room)))

pub returns-in-Told-clause-owes : goal.returns-in-Told-clause-owes
returns-in-Told-clause-owes c =
    let below = subst (λ (run : Run). c.args.ready.thread < run.threads) (same-run _ _ _ _ _ _ c.self.view_is c.self.invariant) c.requires.thread in
    let said = sym c.in-Told.is ∙ c.in_ok-went.ensures.went in
    let place = c.len-seq.ensures ∙ ap length (reserved-list _ _ _ c.in_ok-reserve.ensures.room) in
    let entries = c.push.ensures.list ∙ ap (λ entries. entries ++ go_at c.args.ready.thread ∷ []) (reserved-list _ _ _ c.in_ok-reserve.ensures.room) in
    rw c.in_ok-went.ensures.turn (owes-turned c.self.inside.machine.run c.self.inside.machine.state c.self.inside.entries c.self.inside.owing c.self.inside.ended c.self.invariant c.args.ready.thread c.len-seq.result c.in-Told.call c.in-Told.snapshot below said place c.push.new.self.list entries)
