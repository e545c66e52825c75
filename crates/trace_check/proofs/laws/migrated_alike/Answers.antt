use Rattle.trace_check.proofs.Migrated.{migrated_first, migrated_nested}
use Rattle.trace_check.proofs.laws.migrated_alike.Goals as goal

pub returns-clause-nested : goal.returns-clause-nested
returns-clause-nested c = migrated_nested

pub returns-clause-first : goal.returns-clause-first
returns-clause-first c = migrated_first
