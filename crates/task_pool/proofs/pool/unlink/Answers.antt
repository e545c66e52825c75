use Rattle.std.proofs.Common.{ap}
use Rattle.task_pool.specs.declared.node.Node.{Node}
use Rattle.task_pool.proofs.Linking.{unlink-rings}
use Rattle.task_pool.proofs.pool.unlink.Goals as goal

pub returns : goal.returns
returns c = unlink-rings c.args.chain.now c.set_next.new.self c.set_previous.new.self c.set_next_in_region.new.self c.set_previous_in_region.new.self c.args.task c.node-node.result.task.region c.node-node.result.in_order c.node-node.result.in_region c.requires.linked c.requires.ready
    (ap (λ (node : Node). node.task.region) c.node-node.ensures) (ap (λ (node : Node). node.in_order) c.node-node.ensures) (ap (λ (node : Node). node.in_region) c.node-node.ensures)
    c.set_next.ensures c.set_previous.ensures c.set_next_in_region.ensures c.set_previous_in_region.ensures
