use Rattle.std.proofs.Common.{◌∙◌}
use Rattle.trace_check.proofs.Closed.{begun_is}
use Rattle.trace_check.proofs.kept.Kept.has_begun.Goals as goal

pub returns : goal.returns
returns c past known unbroken = c.contains_key.ensures ∙ begun_is c.args.self.now.threads past known.threads unbroken
