use Rattle.omp_model.proofs.Acts.{acts-back, acts-walk}
use Rattle.omp_model.proofs.OrderlyRuns.{orderly-after}
use Rattle.omp_model.proofs.laws.tasks_are_orderly.Goals as goal

pub returns-clause-after_entries : goal.returns-clause-after_entries
returns-clause-after_entries c = λ run history there legal. orderly-after run history there

pub returns-clause-at_gos : goal.returns-clause-at_gos
returns-clause-at_gos c = λ run history t count event there legal meets. acts-walk run history there t count event meets

pub returns-clause-at_backs : goal.returns-clause-at_backs
returns-clause-at_backs c = λ run history t callback there legal is. acts-back run history there t callback is
