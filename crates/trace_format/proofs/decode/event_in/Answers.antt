use Rattle.std.proofs.Common.{◌∙◌}
use Rattle.trace_format.proofs.Decoded.{event_made}
use Rattle.trace_format.proofs.decode.event_in.Goals as goal

pub returns : goal.returns
returns c =
    event_made c.args.bytes.now c.short_at.result c.byte_at.result c.half_at.result c.short_at-2.result c.from.result c.call_in.result
    c.short_at.ensures c.byte_at.ensures c.half_at.ensures c.short_at-2.ensures (c.from.ensures ∙ c.byte_at-2.ensures) c.call_in.ensures
