use Rattle.std.proofs.Common.{ap, arith}
use Rattle.omp_model.specs.State.{Run}
use Rattle.step_book.specs.Sharing.{BlankView}
use Rattle.step_book.proofs.shared.SharedBook.start.Goals as goal

pub returns-clause-passes : goal.returns-clause-passes
returns-clause-passes g c = λ k d less.
    c.in_ok-passes.ensures.passes k d (omega (arith, less, c.threads.ensures, ap (λ (run : Run). run.threads) c.requires.run, ap (λ (blank : BlankView). blank.run.threads) c.blank.view_is))
