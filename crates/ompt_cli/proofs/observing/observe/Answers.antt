use Rattle.std.proofs.Common.{refl}
use Rattle.ompt_cli.proofs.observing.observe.Goals as goal

pub returns : goal.returns
returns g c =
    c.with_report.ensures.observed c.args.job c.args.parts.items refl c.of-program.ensures (rw c.of-program.ensures.tree c.in_ok-ran.ensures)
