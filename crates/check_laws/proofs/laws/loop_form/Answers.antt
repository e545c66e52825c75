use Rattle.check_laws.proofs.Files.{broken-is-odd, odd-is-broken}
use Rattle.check_laws.proofs.laws.loop_form.Goals as goal

pub returns-clause-broken : goal.returns-clause-broken
returns-clause-broken c = broken-is-odd

pub returns-clause-no_other : goal.returns-clause-no_other
returns-clause-no_other c = odd-is-broken
