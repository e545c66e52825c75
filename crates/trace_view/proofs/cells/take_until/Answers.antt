use Rattle.std.proofs.Common.{get_or, refl, sym, ◌∙◌, arith}
use Rattle.tool_tasks.proofs.Whole.{no_event}
use Rattle.trace_view.proofs.Columns.{after_more, front_within, reaches, stops}
use Rattle.trace_view.proofs.cells.take_until.Goals as goal

pub loop-past-preserved : goal.loop-past-preserved
loop-past-preserved c =
    let events = c.args.events.now in
    let past = c.loop-past.past in
    record {
      least = omega arith;
      front = reaches c.args.columns c.args.end 0 past no_event events c.requires.rising c.loop-past-test.true (sym c.is_before.ensures ∙ c.if-is_before.true);
      cells = after_more events c.loop-past.cells c.take.new.cells c.args.from past (get_or events past no_event) no_event c.loop-past-test.true
          c.loop-past.invariant.least refl (c.loop-past.auto.cells ∙ c.requires.long) c.loop-past.invariant.cells c.take.ensures;
    }

pub returns-else-is_before-clause-taken : goal.returns-else-is_before-clause-taken
returns-else-is_before-clause-taken c =
    let few = stops c.args.columns c.args.end 0 c.loop-past.past no_event c.args.events.now c.requires.rising c.loop-past-test.true
    (sym c.is_before.ensures ∙ c.if-is_before.false) in
    omega (arith, few, c.loop-past.invariant.front)

pub returns-after-loop-past-clause-taken : goal.returns-after-loop-past-clause-taken
returns-after-loop-past-clause-taken c =
    let few = front_within c.args.columns c.args.end c.args.events.now in
    omega (arith, few, c.loop-past.invariant.front, c.loop-past-test.false)
