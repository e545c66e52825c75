use Rattle.std.proofs.Common.{◌≡◌, List, ap, subst, ◌∙◌}
use Rattle.std.proofs.lemmas.Result.{IfOk-weaker}
use Rattle.ompt_calls.specs.declared.event.EventRecord.{EventRecord}
use Rattle.trace_check.specs.Nested.{last_seq}
use Rattle.trace_format.specs.declared.trace.Trace.{Trace}
use Rattle.trace_view.specs.WaitTallies.{HasTallies}
use Rattle.trace_view.proofs.waits.waits_text.Goals as goal

pub returns : goal.returns
returns c =
    let events : List EventRecord = c.args.trace.now.events in
    let at : c.as_slice-events.result.now ≡ events = c.as_slice-events.ensures.value ∙ ap (λ (trace : Trace). trace.events) c.trace.view_is in
    IfOk-weaker c.table.result _ _
    (λ text told. told events (subst (HasTallies c.in_ok-tallies.tallies) at c.in_ok-tallies.ensures) (c.last_seq.ensures ∙ ap last_seq at))
    c.table.ensures
