use Rattle.std.proofs.Common.{rules}
use Rattle.tool_report.proofs.Shares.{not-absent}
use Rattle.tool_report.proofs.profile.place_of.Goals as goal

pub unreachable-requires : goal.unreachable-requires
unreachable-requires c =
    not-absent c.args.call.now c.number-number.result c.iter.result.rest.now c.number-number.ensures c.iter.ensures.rest (search rules)
