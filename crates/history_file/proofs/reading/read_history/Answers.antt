use Rattle.std.proofs.Common.{arith}
use Rattle.history_file.proofs.Verdicts.{exact, found, only, refused}
use Rattle.history_file.proofs.reading.read_history.Goals as goal

pub returns-clause-found : goal.returns-clause-found
returns-clause-found c = found c.args.bytes.now c.whole_of.result (λ i. omega (arith, c.type_inv.bytes i)) c.whole_of.ensures

pub returns-clause-only : goal.returns-clause-only
returns-clause-only c = only c.args.bytes.now c.whole_of.result (λ i. omega (arith, c.type_inv.bytes i)) c.whole_of.ensures

pub returns-clause-refused : goal.returns-clause-refused
returns-clause-refused c = refused c.args.bytes.now c.whole_of.result (λ i. omega (arith, c.type_inv.bytes i)) c.whole_of.ensures

pub returns-clause-exact : goal.returns-clause-exact
returns-clause-exact c = exact c.args.bytes.now c.whole_of.result (λ i. omega (arith, c.type_inv.bytes i)) c.whole_of.ensures
