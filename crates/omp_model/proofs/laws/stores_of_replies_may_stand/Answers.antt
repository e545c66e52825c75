use Rattle.omp_model.proofs.Replies.{may-store}
use Rattle.omp_model.proofs.laws.stores_of_replies_may_stand.Goals as goal

pub returns : goal.returns
returns c = λ run history t event reply there legal happens told. may-store run history t event there happens reply told
