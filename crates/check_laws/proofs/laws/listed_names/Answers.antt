use Rattle.check_laws.proofs.Listed.{broken-is-unlisted, unlisted-is-broken}
use Rattle.check_laws.proofs.laws.listed_names.Goals as goal

pub returns-clause-broken : goal.returns-clause-broken
returns-clause-broken c = broken-is-unlisted

pub returns-clause-no_other : goal.returns-clause-no_other
returns-clause-no_other c = unlisted-is-broken
