use Rattle.std.proofs.Common.{◌≡◌, ◌≢◌, ◌∙◌, sym, ap, subst}
use Rattle.task_pool.specs.declared.node.Node.{Node}
use Rattle.task_pool.specs.declared.task.Task.{Task}
use Rattle.task_pool.specs.declared.task.Condition.{Condition}
use Rattle.task_pool.specs.declared.task.Condition.TheVariants as condition
use Rattle.task_pool.specs.Tasks.{task_at, is_explicit}
use Rattle.task_pool.specs.View.{PoolView, with_finished}
use Rattle.task_pool.specs.Links.{pool_view}
use Rattle.task_pool.proofs.Changing.{node-task}
use Rattle.task_pool.proofs.Pooling.{Shows, shows-finished, shows-ended}
use Rattle.task_pool.proofs.pool.Pool.finish.Goals as goal

shown-explicit : (c : goal.After-count_down) → Shows c.count_down.new.self (with_finished (pool_view c.self.inside.chain) c.args.task)
shown-explicit c =
    let apart : (one : Condition) → (task_at c.args.self.now.tasks c.args.task).condition ≢ one → (task_at (pool_view c.self.inside.chain).tasks c.args.task).condition ≢ one = λ one. subst (λ (seen : PoolView). (task_at seen.tasks c.args.task).condition ≢ one) (sym c.self.view_is) in
    shows-ended c.self.inside.chain c.set_condition.new.self c.count_down.new.self c.args.task c.node.result.task c.self.invariant
    (ap (λ (node : Node). node.task) c.node.ensures ∙ node-task c.self.inside.chain.nodes c.args.task)
    (apart condition.Finished c.requires.unfinished) (apart condition.Ready c.requires.taken)
    (sym c.is_explicit.ensures ∙ c.if-is_explicit.true) c.set_condition.ensures c.count_down.ensures

shown-implicit : (c : goal.Else-is_explicit) → Shows c.set_condition.new.self (with_finished (pool_view c.self.inside.chain) c.args.task)
shown-implicit c =
    let apart : (one : Condition) → (task_at c.args.self.now.tasks c.args.task).condition ≢ one → (task_at (pool_view c.self.inside.chain).tasks c.args.task).condition ≢ one = λ one. subst (λ (seen : PoolView). (task_at seen.tasks c.args.task).condition ≢ one) (sym c.self.view_is) in
    let same : c.node.result.task ≡ task_at (pool_view c.self.inside.chain).tasks c.args.task = ap (λ (node : Node). node.task) c.node.ensures ∙ node-task c.self.inside.chain.nodes c.args.task in
    shows-finished c.self.inside.chain c.set_condition.new.self c.args.task c.self.invariant
    (apart condition.Finished c.requires.unfinished) (apart condition.Ready c.requires.taken)
    (ap (λ (one : Task). is_explicit one.kind) (sym same) ∙ (sym c.is_explicit.ensures ∙ c.if-is_explicit.false)) c.set_condition.ensures

pub invariant_of-self : goal.invariant_of-self
invariant_of-self c = (shown-explicit c).linked

pub invariant_of-self-else-is_explicit : goal.invariant_of-self-else-is_explicit
invariant_of-self-else-is_explicit c = (shown-implicit c).linked

pub returns-then-is_explicit : goal.returns-then-is_explicit
returns-then-is_explicit c = (shown-explicit c).view ∙ ap (λ (seen : PoolView). with_finished seen c.args.task) c.self.view_is

pub returns-else-is_explicit : goal.returns-else-is_explicit
returns-else-is_explicit c = (shown-implicit c).view ∙ ap (λ (seen : PoolView). with_finished seen c.args.task) c.self.view_is
