use Rattle.std.proofs.Common.{refl}
use Rattle.c_steps.specs.NodeTrees.{tree_of}
use Rattle.c_steps.proofs.Rests.{statement_first}
use Rattle.c_steps.proofs.clauses.statement.Goals as goal

pub returns-in-Some-clause-statement : goal.returns-in-Some-clause-statement
returns-in-Some-clause-statement c = rw (statement_first (tree_of c.args.construct), c.in-Some.ensures.statements) refl

pub returns-in-None-clause-statement : goal.returns-in-None-clause-statement
returns-in-None-clause-statement c = rw (statement_first (tree_of c.args.construct), c.in-None.ensures.statements) refl
