use Rattle.trace_format.specs.declared.trace.Trace.{Trace}
use Rattle.trace_check.specs.Nested.{IsFirstBreach, Nested}
use Rattle.trace_check.proofs.Whole.{whole_known}
use Rattle.trace_check.proofs.reading.check_trace.Goals as goal

pub returns-in-Ok-clause-checked : goal.returns-in-Ok-clause-checked
returns-in-Ok-clause-checked g c =
    whole_known c.read_items.new.taker (g.S.Source.left c.args.source.now) (g.S.Source.left c.read_items.new.source)
    (λ (trace : Trace). Nested trace.header trace.events trace.end) c.in-Whole.ensures.read c.in-Ok.ensures

pub returns-in-Whole-clause-checked : goal.returns-in-Whole-clause-checked
returns-in-Whole-clause-checked g c =
    whole_known c.read_items.new.taker (g.S.Source.left c.args.source.now) (g.S.Source.left c.read_items.new.source)
    (λ (trace : Trace). IsFirstBreach trace.header trace.events trace.end c.in-Err.breach) c.in-Whole.ensures.read c.in-Err.ensures
