-- What the sink has taken grows by item: the header, each event, and the end mark.
use Rattle.std.proofs.Common.{◌≡◌, ap, ◌∙◌, subst}
use Rattle.std.proofs.lemmas.Result.{on_err_weaker, on_ok_weaker}
use Rattle.std.proofs.lemmas.List.{take_all}
use Rattle.std.proofs.lemmas.List.Elements.{All-more, All-nil}
use Rattle.std.specs.List.{All}
use Rattle.ompt_calls.specs.declared.call.Call.TheVariants.{ThreadBegin}
use Rattle.ompt_calls.specs.declared.event.EventRecord.{EventRecord}
use Rattle.trace_format.specs.declared.trace.Trace.{Trace}
use Rattle.trace_format.specs.Fitting.{FitsFields}
use Rattle.trace_format.proofs.Sinks.{on_err, part_event, part_first, part_last, taken_first, taken_more, whole_last}
use Rattle.trace_format.proofs.writing.write_trace.Goals as goal

-- an event that is in no trace, for places where there is none
abbrev no_event : EventRecord
no_event = record { seq = 0; thread = 0; state = 0; wait_id = 0; call = ThreadBegin 0 (record { identity = 0; value = 0 }) }

pub returns-in_err-write_item-clause-part : goal.returns-in_err-write_item-clause-part
returns-in_err-write_item-clause-part g c =
    on_err c.from_residual.result
    (part_first _ _ c.args.trace.now _ (ap (λ (trace : Trace). trace.header) c.trace.view_is) c.in_err-write_item.ensures.part)

pub loop-event-init : goal.loop-event-init
loop-event-init g c = record {
  appended =
      taken_first _ _ c.args.trace.now _ c.deref-event-items.result.now (ap (λ (trace : Trace). trace.header) c.trace.view_is)
      c.in_ok-write_item.ensures.whole;
  fits = All-nil FitsFields;
  steady = c.in_ok-write_item.ensures.steady;
}

pub returns-in_err-write_item-2-clause-part : goal.returns-in_err-write_item-2-clause-part
returns-in_err-write_item-2-clause-part g c =
    let are : c.deref-event-items.result.now ≡ c.args.trace.now.events =
    c.deref-event-items.ensures.value ∙ ap (λ (trace : Trace). trace.events) c.trace.view_is in
    on_err c.from_residual-in_err-write_item-2.result
    (part_event _ _ _ c.args.trace.now c.deref-event-items.result.now c.loop-event.event-index no_event are c.loop-event-test.true
    c.loop-event.invariant.appended c.in_err-write_item-2.ensures.part)

pub loop-event-preserved : goal.loop-event-preserved
loop-event-preserved g c = record {
  appended =
      taken_more _ _ _ c.args.trace.now c.deref-event-items.result.now c.loop-event.event-index no_event c.loop-event-test.true
      c.loop-event.invariant.appended c.in_ok-write_item-2.ensures.whole;
  fits = All-more FitsFields _ _ no_event c.loop-event-test.true c.loop-event.invariant.fits c.in_ok-write_item-2.ensures.fits;
  steady = c.in_ok-write_item-2.ensures.steady ∙ c.loop-event.invariant.steady;
}

pub returns-clause-whole : goal.returns-clause-whole
returns-clause-whole g c =
    let are : c.deref-event-items.result.now ≡ c.args.trace.now.events =
    c.deref-event-items.ensures.value ∙ ap (λ (trace : Trace). trace.events) c.trace.view_is in
    on_ok_weaker c.write_item-2.result
    (whole_last _ _ _ c.args.trace.now c.deref-event-items.result.now c.loop-event.event-index _ are
    (ap (λ (trace : Trace). trace.end) c.trace.view_is) c.loop-event-test.false c.loop-event.invariant.appended)
    c.write_item-2.ensures.whole

pub returns-clause-part : goal.returns-clause-part
returns-clause-part g c =
    let are : c.deref-event-items.result.now ≡ c.args.trace.now.events =
    c.deref-event-items.ensures.value ∙ ap (λ (trace : Trace). trace.events) c.trace.view_is in
    on_err_weaker c.write_item-2.result
    (part_last _ _ _ c.args.trace.now c.deref-event-items.result.now c.loop-event.event-index _ are
    (ap (λ (trace : Trace). trace.end) c.trace.view_is) c.loop-event-test.false c.loop-event.invariant.appended)
    c.write_item-2.ensures.part

pub returns-clause-fits : goal.returns-clause-fits
returns-clause-fits g c =
    let are : c.deref-event-items.result.now ≡ c.args.trace.now.events =
    c.deref-event-items.ensures.value ∙ ap (λ (trace : Trace). trace.events) c.trace.view_is in
    on_ok_weaker c.write_item-2.result
    (λ _. subst (All FitsFields) (take_all c.loop-event.event-index c.deref-event-items.result.now c.loop-event-test.false ∙ are) c.loop-event.invariant.fits)
    c.write_item-2.ensures.whole
