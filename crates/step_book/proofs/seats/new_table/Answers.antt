use Rattle.step_book.proofs.Steps.{opens}
use Rattle.step_book.proofs.seats.new_table.Goals as goal

pub of_words-requires : goal.of_words-requires
of_words-requires c = opens
