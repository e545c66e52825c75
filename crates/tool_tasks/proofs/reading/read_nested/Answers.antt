use Rattle.std.proofs.Common.{List, ℕ, Option, Ok, subst, sym}
use Rattle.trace_check.specs.Nested.{Nested}
use Rattle.trace_format.specs.declared.trace.Trace.{Trace}
use Rattle.trace_format.specs.Validity.{IsTrace}
use Rattle.tool_tasks.specs.Answering.{HasReadNested}
use Rattle.tool_tasks.specs.Collecting.{trace_in}
use Rattle.tool_tasks.proofs.reading.read_nested.Goals as goal
use Rattle.tool_tasks.proofs.Collected.{IsWhole, is_whole, judged_read, no_fault}

pub returns-in-Ok-clause-has_read : goal.returns-in-Ok-clause-has_read
returns-in-Ok-clause-has_read g c =
    let left : Option (List ℕ) = g.S.Source.left c.args.source.now in
    let rest : Option (List ℕ) = g.S.Source.left c.read_items.new.source in
    let whole : IsWhole left rest (trace_in c.read_items.new.taker) =
    is_whole left rest (trace_in c.new-collector.result) (trace_in c.read_items.new.taker) c.new-collector.ensures c.in-Whole.ensures.read in
    let same = sym c.into_trace.ensures in
    subst (λ (trace : Trace). HasReadNested (Ok trace) left rest) same (whole.taken, whole.input, whole.consumed, whole.writes)

pub returns-in-Ok-clause-valid : goal.returns-in-Ok-clause-valid
returns-in-Ok-clause-valid g c =
    let whole =
    is_whole (g.S.Source.left c.args.source.now) (g.S.Source.left c.read_items.new.source) (trace_in c.new-collector.result) (trace_in c.read_items.new.taker)
    c.new-collector.ensures c.in-Whole.ensures.read in
    subst IsTrace (sym c.into_trace.ensures) whole.writes.is_trace

pub returns-in-Ok-clause-nested : goal.returns-in-Ok-clause-nested
returns-in-Ok-clause-nested g c =
    let whole =
    is_whole (g.S.Source.left c.args.source.now) (g.S.Source.left c.read_items.new.source) (trace_in c.new-collector.result) (trace_in c.read_items.new.taker)
    c.new-collector.ensures c.in-Whole.ensures.read in
    subst (λ (trace : Trace). Nested trace.header trace.events trace.end) (sym c.into_trace.ensures) (c.in-Ok.ensures whole.writes.is_trace)

pub returns-in-Err-clause-has_read : goal.returns-in-Err-clause-has_read
returns-in-Err-clause-has_read g c =
    let left : Option (List ℕ) = g.S.Source.left c.args.source.now in
    let rest : Option (List ℕ) = g.S.Source.left c.read_items.new.source in
    let whole = is_whole left rest (trace_in c.new-collector.result) (trace_in c.read_items.new.taker) c.new-collector.ensures c.in-Whole.ensures.read in
    judged_read left rest (trace_in c.read_items.new.taker) c.in-Err.unread whole (c.in-Err.ensures whole.writes.is_trace)

pub returns-in-Err-clause-read : goal.returns-in-Err-clause-read
returns-in-Err-clause-read g c = λ fault.
    let whole =
    is_whole (g.S.Source.left c.args.source.now) (g.S.Source.left c.read_items.new.source) (trace_in c.new-collector.result) (trace_in c.read_items.new.taker)
    c.new-collector.ensures c.in-Whole.ensures.read in
    absurd (no_fault (trace_in c.read_items.new.taker) c.in-Err.unread (c.in-Err.ensures whole.writes.is_trace) fault)
