use Rattle.std.proofs.Common.{◌≡◌}
use Rattle.std.specs.BTreeMap.{btree_map_len}
use Rattle.trace_check.specs.Nested.{are_tasks_complete}
use Rattle.trace_check.proofs.Closed.{tasks_are, tells}
use Rattle.trace_check.proofs.kept.Kept.has_no_task.Goals as goal

pub returns : goal.returns
returns c past known unbroken =
    tells c.is_empty.result (are_tasks_complete past) (btree_map_len c.args.self.now.created ≡ 0) c.is_empty.ensures (tasks_are c.args.self.now.created past known.things.created)
