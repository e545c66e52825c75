use Rattle.std.proofs.Common.{◌≡◌, ◌∙◌, sym, ap, subst}
use Rattle.task_pool.specs.declared.task.Condition.TheVariants as condition
use Rattle.task_pool.specs.Tasks.{task_at}
use Rattle.task_pool.specs.View.{PoolView, with_ready}
use Rattle.task_pool.specs.Links.{pool_view}
use Rattle.task_pool.proofs.Pooling.{Shows, shows-ready}
use Rattle.task_pool.proofs.pool.Pool.ready.Goals as goal

shown : (c : goal.After-set_condition) → Shows c.set_condition.new.self (with_ready (pool_view c.self.inside.chain) c.args.task)
shown c = shows-ready c.self.inside.chain c.link_last.new.chain c.set_condition.new.self c.args.task c.self.invariant
    (subst (λ (seen : PoolView). (task_at seen.tasks c.args.task).condition ≡ condition.Made) (sym c.self.view_is) c.requires) c.link_last.ensures c.set_condition.ensures

pub invariant_of-self : goal.invariant_of-self
invariant_of-self c = (shown c).linked

pub returns : goal.returns
returns c = (shown c).view ∙ ap (λ (seen : PoolView). with_ready seen c.args.task) c.self.view_is
