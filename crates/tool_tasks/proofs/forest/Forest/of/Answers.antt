use Rattle.std.proofs.Common.{◌≡◌, List, ◌∷◌, get_or, reverse, take, sym, ◌∙◌, ap, subst}
use Rattle.ompt_calls.specs.declared.event.EventRecord.{EventRecord}
use Rattle.trace_check.specs.Checking.{Unbroken}
use Rattle.trace_format.specs.declared.trace.Trace.{Trace}
use Rattle.trace_format.specs.declared.trace.TheConstants.{SEQ_LIMIT}
use Rattle.tool_tasks.specs.declared.forest.TaskNode.{TaskNode}
use Rattle.tool_tasks.specs.Holding.{Builds, HoldsChains, HoldsForest, HoldsNodes}
use Rattle.tool_tasks.proofs.forest.Forest.of.Goals as goal
use Rattle.tool_tasks.proofs.Whole.{IsNewest, all_taken, is_newest, no_event, rising}

pub loop-event-preserved : goal.loop-event-preserved
loop-event-preserved c =
    let same : c.deref-event-items.result.now ≡ c.args.trace.now.events = c.deref-event-items.ensures.value ∙ ap (λ (trace : Trace). trace.events) c.trace.view_is in
    let event : EventRecord = get_or c.deref-event-items.result.now c.loop-event.event-index no_event in
    let newest : IsNewest c.args.trace.now.events c.loop-event.event-index event =
    is_newest c.args.trace.now.header c.args.trace.now.events c.deref-event-items.result.now c.args.trace.now.end c.loop-event.event-index no_event c.requires.nested same c.loop-event-test.true in
    let past : List EventRecord = reverse (take c.loop-event.event-index c.args.trace.now.events) in
    let builds : Builds c.learn.new.self (event ∷ past) = c.in_ok-charged.ensures.learned past c.loop-event.invariant.builds c.loop-event.invariant.unbroken newest.keeps in
    let nodes : HoldsNodes c.as_slice.result.now (event ∷ past) (event ∷ past) =
    subst (λ (items : List TaskNode). HoldsNodes items (event ∷ past) (event ∷ past)) (sym c.as_slice.ensures.value) builds.nodes in
    let chains : HoldsChains c.learn-in-loop-event.new.self (event ∷ past) =
    c.in_ok-learn.ensures past c.loop-event.invariant.chains (c.in_ok-charged.ensures.charged past c.loop-event.invariant.builds) nodes c.loop-event.invariant.unbroken newest.keeps in
    record {
      builds = subst (λ (all : List EventRecord). Builds c.learn.new.self all) (sym newest.taken) builds;
      chains = subst (λ (all : List EventRecord). HoldsChains c.learn-in-loop-event.new.self all) (sym newest.taken) chains;
      unbroken = subst Unbroken (sym newest.taken) (newest.keeps, c.loop-event.invariant.unbroken);
    }

pub returns : goal.returns
returns c =
    let same : c.deref-event-items.result.now ≡ c.args.trace.now.events = c.deref-event-items.ensures.value ∙ ap (λ (trace : Trace). trace.events) c.trace.view_is in
    let past : List EventRecord = reverse (take c.loop-event.event-index c.args.trace.now.events) in
    record {
      holds = subst (λ (all : List EventRecord). HoldsForest c.finish-2.result (reverse all))
          (all_taken c.args.trace.now.events c.deref-event-items.result.now c.loop-event.event-index same c.loop-event-test.false)
          (c.finish-2.ensures past c.loop-event.invariant.builds (c.finish.ensures.span past c.loop-event.invariant.chains) (c.finish.ensures.walk past c.loop-event.invariant.chains) c.loop-event.invariant.unbroken);
      unbroken = subst (λ (all : List EventRecord). Unbroken (reverse all))
          (all_taken c.args.trace.now.events c.deref-event-items.result.now c.loop-event.event-index same c.loop-event-test.false) c.loop-event.invariant.unbroken;
      rising = rising SEQ_LIMIT c.args.trace.now.header 0 c.args.trace.now.events c.requires.valid.events;
    }
