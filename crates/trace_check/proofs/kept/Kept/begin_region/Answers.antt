use Rattle.trace_check.proofs.kept.Kept.begin_region.Goals as goal
use Rattle.trace_check.proofs.BegunRegion.{begun_things}

pub returns-clause-learned : goal.returns-clause-learned
returns-clause-learned c = begun_things c.args.self.now c.insert.new.self c.args.region c.in_ok-insert.ensures.updates
