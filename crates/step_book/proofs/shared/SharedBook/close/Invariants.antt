use Rattle.step_book.proofs.Closing.{IsChecked}
use Rattle.step_book.proofs.shared.SharedBook.close.Given as goal

abbrev pub invariant-loop-place : goal.invariant-loop-place
invariant-loop-place g l = IsChecked g.K.BookName.run.threads l.place l.locked l.fn.passes.items l.passes.items
