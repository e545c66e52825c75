use Rattle.std.proofs.Common.{refl, ap}
use Rattle.task_pool.specs.declared.node.Node.{Node}
use Rattle.task_pool.specs.declared.node.RegionTasks.{RegionTasks}
use Rattle.task_pool.proofs.Linking.{link_last-rings}
use Rattle.task_pool.proofs.pool.link_last.Goals as goal

pub returns : goal.returns
returns c = link_last-rings c.args.chain.now c.set_links.new.self c.set_next.new.self c.set_previous.new.self c.set_next_in_region.new.self c.set_previous_in_region.new.self c.args.task c.node-region.result.task.region c.last-last.result c.region-last_of_region.result.last_ready _ _ c.requires.linked c.requires.made.0 c.requires.made.1
    (ap (λ (node : Node). node.task.region) c.node-region.ensures) c.last-last.ensures (ap (λ (region : RegionTasks). region.last_ready) c.region-last_of_region.ensures) refl refl
    c.set_links.ensures c.set_next.ensures c.set_previous.ensures c.set_next_in_region.ensures c.set_previous_in_region.ensures
