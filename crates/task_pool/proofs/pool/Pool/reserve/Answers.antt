use Rattle.task_pool.proofs.Pooling.{linked-reserved}
use Rattle.task_pool.proofs.pool.Pool.reserve.Goals as goal

pub invariant_of-self : goal.invariant_of-self
invariant_of-self c = linked-reserved c.reserve.result c.self.inside.chain c.reserve.new.self c.args.region c.self.invariant c.reserve.ensures.room c.reserve.ensures.memory
