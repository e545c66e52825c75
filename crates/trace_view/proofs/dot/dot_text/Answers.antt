use Rattle.std.proofs.Common.{ℕ, ◌≡◌, List, length, reverse, arith, ap, ap₂, ◌∙◌}
use Rattle.std.proofs.lemmas.Result.{IfOk-weaker}
use Rattle.ompt_calls.specs.declared.event.EventRecord.{EventRecord}
use Rattle.trace_format.specs.declared.trace.Trace.{Trace}
use Rattle.trace_format.specs.Validity.{is_among}
use Rattle.trace_view.specs.Bold.{HasNumbers}
use Rattle.trace_view.specs.Dot.{crossed_tasks, picture_of}
use Rattle.trace_view.proofs.dot.dot_text.Goals as goal

pub returns : goal.returns
returns c =
    let events : List EventRecord = c.args.trace.now.events in
    let chain : List ℕ = c.in_ok-chain.chain.items in
    let at : c.as_slice-2.result.now ≡ events = c.as_slice-2.ensures.value ∙ ap (λ (trace : Trace). trace.events) c.trace.view_is in
    let bold : HasNumbers c.in_ok-bold.bold (crossed_tasks chain events) =
    (λ n. c.in_ok-bold.ensures n ∙ ap₂ (λ (places : List ℕ) (all : List EventRecord). is_among (crossed_tasks places all) n) c.as_slice.ensures.value at) in
    let long : c.in_ok-chain.chain.len ≡ length chain = omega (arith, c.in_ok-chain.chain.ok.0) in
    IfOk-weaker c.picture.result _ _ (λ text told. record {
      chain = chain;
      is_chain = c.in_ok-chain.ensures.chain events c.in_ok-forest.ensures;
      longest = c.in_ok-chain.ensures.longest events c.in_ok-forest.ensures;
      text_is = told events (crossed_tasks chain events) c.in_ok-forest.ensures bold ∙ ap (picture_of (reverse events) (crossed_tasks chain events)) (c.len.ensures ∙ long);
    }) c.picture.ensures
