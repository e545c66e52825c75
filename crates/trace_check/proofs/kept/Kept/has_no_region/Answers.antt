use Rattle.std.proofs.Common.{◌≡◌}
use Rattle.std.specs.BTreeMap.{btree_map_len}
use Rattle.trace_check.specs.Nested.{are_regions_over}
use Rattle.trace_check.proofs.Closed.{regions_are, tells}
use Rattle.trace_check.proofs.kept.Kept.has_no_region.Goals as goal

pub returns : goal.returns
returns c past known unbroken =
    tells c.is_empty.result (are_regions_over past) (btree_map_len c.args.self.now.regions ≡ 0) c.is_empty.ensures (regions_are c.args.self.now.regions past known.things.regions)
