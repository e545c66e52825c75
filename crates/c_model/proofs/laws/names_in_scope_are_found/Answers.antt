-- What is in scope is found.
use Rattle.c_model.proofs.laws.names_in_scope_are_found.Goals as goal
use Rattle.c_model.proofs.ScopeMeaning.{called_is_there, entry_is_in, first_is_in, knows_sees, value_around}
use Rattle.c_model.proofs.ScopeNames.{entry_named}

pub returns-clause-entry : goal.returns-clause-entry
returns-clause-entry c = entry_is_in

pub returns-clause-named : goal.returns-clause-named
returns-clause-named c = entry_named

pub returns-clause-first : goal.returns-clause-first
returns-clause-first c = first_is_in

pub returns-clause-value : goal.returns-clause-value
returns-clause-value c = value_around

pub returns-clause-called : goal.returns-clause-called
returns-clause-called c = called_is_there

pub returns-clause-sees : goal.returns-clause-sees
returns-clause-sees c = knows_sees
