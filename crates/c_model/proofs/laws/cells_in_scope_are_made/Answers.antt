-- What is in scope has cells that were made.
use Rattle.c_model.proofs.laws.cells_in_scope_are_made.Goals as goal
use Rattle.c_model.proofs.MadeCells.{assigned_made, name_made, value_more}

pub returns-clause-name : goal.returns-clause-name
returns-clause-name c = name_made

pub returns-clause-assigned : goal.returns-clause-assigned
returns-clause-assigned c = assigned_made

pub returns-clause-value : goal.returns-clause-value
returns-clause-value c = value_more
