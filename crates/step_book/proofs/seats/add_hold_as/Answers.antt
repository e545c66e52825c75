use Rattle.std.proofs.Common.{List, length, ap}
use Rattle.omp_model.specs.declared.history.Entry.{Entry}
use Rattle.step_book.proofs.Steps.{adds}
use Rattle.step_book.proofs.seats.add_hold_as.Goals as goal

pub fetch_add-requires : goal.fetch_add-requires
fetch_add-requires g c =
    let seat = c.args.seat.now in
    let entries = c.args.entries.now in
    (c.requires.seat, c.requires.word, adds c.args.count.now.table_id.slots seat.id seat.me.0 seat.me.1 g.E.Added.entries (length entries) (ap (λ (es : List Entry). length es) c.requires.entries) c.requires.room)
