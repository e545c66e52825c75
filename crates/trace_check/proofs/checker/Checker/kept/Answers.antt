use Rattle.std.proofs.Common.{◌≤◌, arith}
use Rattle.trace_check.specs.Checking.{kept_by}
use Rattle.trace_check.proofs.Few.{keeps_few}
use Rattle.trace_check.proofs.checker.Checker.kept.Goals as goal

pub returns-clause-few : goal.returns-clause-few
returns-clause-few c = λ header events checks.
    let less : c.length.result ≤ kept_by c.args.self.now.kept = omega (arith, c.length.ensures.sum) in
    keeps_few c.args.self.now header events c.length.result checks c.length.ensures.ordered less
