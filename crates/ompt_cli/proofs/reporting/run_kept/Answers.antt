use Rattle.std.proofs.Common.{refl}
use Rattle.ompt_cli.proofs.Keeping.{has_kept}
use Rattle.ompt_cli.proofs.reporting.run_kept.Goals as goal

pub returns-clause-kept : goal.returns-clause-kept
returns-clause-kept g c =
    let laws = g.met.P.Keeper g.world.𝓛 g.world.𝓜 g.world.𝓡 ((λ s x. x), (λ x. x), (λ x. x), λ x. x) in
    has_kept g.P.Keeper.keep g.P.ToolPart.stands_for (λ kept h. (laws.stands kept h).0) (λ kept h. (laws.stands kept h).1) _ c.args.job
    c.with_report.result
    (c.with_report.ensures.observed c.args.job _ refl c.of-program.ensures
    (rw c.of-program.ensures.tree (rw c.in_ok-parts.ensures at c.in_ok-ran.ensures)))
