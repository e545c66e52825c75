use Rattle.std.proofs.Common.{◌≡◌, ◌≢◌, ◌∙◌, sym, ap, subst}
use Rattle.task_pool.specs.declared.node.Node.{Node}
use Rattle.task_pool.specs.declared.task.Task.{Task}
use Rattle.task_pool.specs.declared.task.Condition.TheVariants as condition
use Rattle.task_pool.specs.declared.pool.Pool.TheInside.{Inside}
use Rattle.task_pool.specs.Tasks.{task_at, is_ready}
use Rattle.task_pool.specs.View.{PoolView, with_started}
use Rattle.task_pool.specs.Chain.{condition_set}
use Rattle.task_pool.specs.Links.{pool_view}
use Rattle.task_pool.proofs.Changing.{node-task}
use Rattle.task_pool.proofs.Pooling.{Shows, shows-taken, shows-started}
use Rattle.task_pool.proofs.pool.Pool.start.Goals as goal
use Rattle.task_pool.proofs.pool.Pool.start.Goals.{then-is_ready, else-is_ready}

shown : (c : goal.After-set_condition) → Shows c.set_condition.new.self (with_started (pool_view c.self.inside.chain) c.args.task)
shown c =
    let waits : c.is_ready.result ≡ is_ready (task_at (pool_view c.self.inside.chain).tasks c.args.task).condition = c.is_ready.ensures ∙ ap (λ (one : Task). is_ready one.condition) (ap (λ (node : Node). node.task) c.node.ensures ∙ node-task c.self.inside.chain.nodes c.args.task) in
    elim c.if-is_ready.branch [
      | then-is_ready w ↦
          shows-taken c.self.inside.chain w.unlink.new.chain c.set_condition.new.self c.args.task c.self.invariant (sym waits ∙ w.if-is_ready.true) w.unlink.ensures
          (c.set_condition.ensures ∙ ap (λ (inside : Inside). condition_set inside.chain c.args.task condition.Started) w.self-inside-is)
      | else-is_ready w ↦
          let unfinished : (task_at (pool_view c.self.inside.chain).tasks c.args.task).condition ≢ condition.Finished = subst (λ (seen : PoolView). (task_at seen.tasks c.args.task).condition ≢ condition.Finished) (sym c.self.view_is) c.requires in
          shows-started c.self.inside.chain c.set_condition.new.self c.args.task c.self.invariant unfinished (sym waits ∙ w.if-is_ready.false)
          (c.set_condition.ensures ∙ ap (λ (inside : Inside). condition_set inside.chain c.args.task condition.Started) w.self-inside-is)
    ]

pub invariant_of-self : goal.invariant_of-self
invariant_of-self c = (shown c).linked

pub returns : goal.returns
returns c = (shown c).view ∙ ap (λ (seen : PoolView). with_started seen c.args.task) c.self.view_is
