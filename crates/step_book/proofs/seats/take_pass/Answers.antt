use Rattle.std.proofs.Common.{rules, ◌≡◌, []}
use Rattle.step_book.proofs.Steps.{takes, looks}
use Rattle.step_book.proofs.seats.take_pass.Goals as goal

pub join_seat-requires : goal.join_seat-requires
join_seat-requires c =
    let same : c.into_seat.result.table_id ≡ c.args.count.now.table_id = search rules in
    let none : c.into_seat.result.me.1 ≡ [] = search rules in
    let it = c.into_seat.result in
    (c.requires.seat, same, none, c.requires.word, takes c.args.seat.now.id c.args.seat.now.me.0 it.id it.me.0)

pub load-requires : goal.load-requires
load-requires c =
    let seat = c.join_seat.new.seat in
    let same : seat.table_id ≡ c.args.count.now.table_id = search rules in
    (same, c.requires.word, looks c.args.count.now.table_id.slots seat.id seat.me)
