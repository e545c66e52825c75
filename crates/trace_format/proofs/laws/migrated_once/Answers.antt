use Rattle.trace_format.proofs.Migrating.{migrated_trace_once}
use Rattle.trace_format.proofs.laws.migrated_once.Goals as goal

pub returns : goal.returns
returns c = migrated_trace_once
