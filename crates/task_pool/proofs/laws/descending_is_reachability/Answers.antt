use Rattle.task_pool.proofs.Ancestors.{from-descends, to-descends}
use Rattle.std.proofs.Common.{arith}
use Rattle.task_pool.proofs.laws.descending_is_reachability.Goals as goal

pub returns : goal.returns
returns c = λ tasks task from first above made.
    (λ met. from-descends tasks task task from first above made (omega arith) met, λ descends. to-descends tasks task from first descends)
