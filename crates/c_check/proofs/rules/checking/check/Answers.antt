use Rattle.std.proofs.Common.{sym, ◌∙◌}
use Rattle.c_check.proofs.Earliest.{none-broken}
use Rattle.c_check.proofs.rules.checking.check.Goals as goal

pub new-requires-clause-none : goal.new-requires-clause-none
new-requires-clause-none c = none-broken c.args.tree (sym c.in-Ok.ensures.found ∙ c.in-None.is)

pub returns-in-None-clause-checked : goal.returns-in-None-clause-checked
returns-in-None-clause-checked c = none-broken c.args.tree (sym c.in-Ok.ensures.found ∙ c.in-None.is)
