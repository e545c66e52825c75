use Rattle.std.proofs.Common.{◌≡◌, ◌<◌, List, sym, ap, subst, ◌∙◌}
use Rattle.std.specs.List.{All}
use Rattle.std.proofs.lemmas.Result.{IfOk-weaker}
use Rattle.ompt_calls.specs.declared.event.EventRecord.{EventRecord}
use Rattle.tool_tasks.specs.Span.{AreRising}
use Rattle.tool_tasks.proofs.Whole.{rising}
use Rattle.trace_format.specs.declared.trace.TheConstants.{SEQ_LIMIT}
use Rattle.trace_format.specs.declared.trace.Trace.{Trace}
use Rattle.trace_view.specs.Svg.{threads_of}
use Rattle.trace_view.proofs.Columns.{are_few}
use Rattle.trace_view.proofs.Grids.{drawn}
use Rattle.trace_view.proofs.Sizes.{text_short}
use Rattle.trace_view.proofs.svg.svg_text.Goals as goal

pub threads_of-threads-requires : goal.threads_of-threads-requires
threads_of-threads-requires c =
    let at : c.as_slice-events.result.now ≡ c.args.trace.now.events = c.as_slice-events.ensures.value ∙ ap (λ (trace : Trace). trace.events) c.trace.view_is in
    subst (λ (events : List EventRecord). All (λ (event : EventRecord). event.thread < 16) events) (sym at)
    (are_few SEQ_LIMIT c.args.trace.now.header 0 c.args.trace.now.events c.requires.valid.header c.requires.valid.events)

pub cells_of-requires-clause-rising : goal.cells_of-requires-clause-rising
cells_of-requires-clause-rising c =
    let at : c.as_slice-events.result.now ≡ c.args.trace.now.events = c.as_slice-events.ensures.value ∙ ap (λ (trace : Trace). trace.events) c.trace.view_is in
    subst (AreRising 0) (sym at) (rising SEQ_LIMIT c.args.trace.now.header 0 c.args.trace.now.events c.requires.valid.events)

pub cells_of-requires-clause-few : goal.cells_of-requires-clause-few
cells_of-requires-clause-few c =
    let at : c.as_slice-events.result.now ≡ c.args.trace.now.events = c.as_slice-events.ensures.value ∙ ap (λ (trace : Trace). trace.events) c.trace.view_is in
    subst (λ (events : List EventRecord). All (λ (event : EventRecord). event.thread < 16) events) (sym at)
    (are_few SEQ_LIMIT c.args.trace.now.header 0 c.args.trace.now.events c.requires.valid.header c.requires.valid.events)

pub returns-clause-picture : goal.returns-clause-picture
returns-clause-picture c =
    let at : c.as_slice-events.result.now ≡ c.args.trace.now.events = c.as_slice-events.ensures.value ∙ ap (λ (trace : Trace). trace.events) c.trace.view_is in
    IfOk-weaker c.drawing.result _ _
    (λ text is. is ∙ drawn c.args.columns c.threads_of-threads.result c.args.trace.now.events c.as_slice-events.result.now c.in_ok-cells.cells.items c.as_slice.result.now at
    c.threads_of-threads.ensures.threads c.threads_of-threads.ensures.few c.in_ok-cells.ensures c.as_slice.ensures.value)
    c.drawing.ensures

pub returns-clause-short : goal.returns-clause-short
returns-clause-short c = λ short.
    let at : c.as_slice-events.result.now ≡ c.args.trace.now.events = c.as_slice-events.ensures.value ∙ ap (λ (trace : Trace). trace.events) c.trace.view_is in
    IfOk-weaker c.drawing.result _ _
    (λ text is. text_short c.args.columns c.threads_of-threads.result c.args.trace.now.events text.items short
    (c.threads_of-threads.ensures.threads ∙ ap threads_of at) c.threads_of-threads.ensures.few
    (is ∙ drawn c.args.columns c.threads_of-threads.result c.args.trace.now.events c.as_slice-events.result.now c.in_ok-cells.cells.items c.as_slice.result.now at
    c.threads_of-threads.ensures.threads c.threads_of-threads.ensures.few c.in_ok-cells.ensures c.as_slice.ensures.value))
    c.drawing.ensures
