use Rattle.step_book.proofs.Steps.{gives}
use Rattle.step_book.proofs.seats.give_pass.Goals as goal

pub split_seat-requires : goal.split_seat-requires
split_seat-requires c = (c.requires.seat, c.requires.word, gives c.args.seat.now.id c.args.seat.now.me.0)
