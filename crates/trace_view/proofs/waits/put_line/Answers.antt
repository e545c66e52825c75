use Rattle.std.proofs.Common.{◌∙◌}
use Rattle.trace_view.proofs.Pictures.{extended}
use Rattle.trace_view.proofs.Tables.{written_line}
use Rattle.trace_view.proofs.waits.put_line.Goals as goal

pub returns : goal.returns
returns c =
    extended c.extend_from_slice.result _ _ _ _ c.extend_from_slice.ensures.items (c.as_bytes.ensures.value ∙ (c.in_ok-line.ensures.ok
    ∙ written_line c.args.last c.args.key.now c.args.tally.now c.in_ok-waited.waited c.open.result c.if-tally-eq0.false c.in_ok-waited.ensures c.open.ensures))
