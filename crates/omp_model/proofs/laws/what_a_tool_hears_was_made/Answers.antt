use Rattle.omp_model.proofs.Named.{heard-call, heard-place, heard-snapshot}
use Rattle.omp_model.proofs.laws.what_a_tool_hears_was_made.Goals as goal

pub returns-clause-called : goal.returns-clause-called
returns-clause-called c = λ run history t event there legal happens. heard-call run history t event there happens

pub returns-clause-inquired : goal.returns-clause-inquired
returns-clause-inquired c = λ run history t event there legal happens. heard-snapshot run history t event there happens

pub returns-clause-stored : goal.returns-clause-stored
returns-clause-stored c = λ run history t event place found there legal happens is. heard-place run history t event there happens place found is
