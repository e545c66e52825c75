use Rattle.std.proofs.Common.{ap}
use Rattle.kept_room.specs.Roomy.{RoomyList}
use Rattle.omp_model.specs.declared.history.Entry.{Entry}
use Rattle.step_book.proofs.Visiting.{book-first}
use Rattle.step_book.proofs.book.Book.start.Goals as goal

pub invariant_of-result : goal.invariant_of-result
invariant_of-result c =
    rw c.in_ok-machine.ensures
    (book-first _ c.new-2.result c.args.limits.some_threads (ap (λ (entries : RoomyList Entry). entries.list) c.new-2.ensures))
