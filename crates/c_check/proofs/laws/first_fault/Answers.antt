use Rattle.c_check.proofs.Earliest.{first-broken, none-broken, none-told-checked}
use Rattle.c_check.proofs.laws.first_fault.Goals as goal

pub returns-clause-first : goal.returns-clause-first
returns-clause-first c = first-broken

pub returns-clause-none : goal.returns-clause-none
returns-clause-none c = none-broken

pub returns-clause-checked : goal.returns-clause-checked
returns-clause-checked c = none-told-checked
